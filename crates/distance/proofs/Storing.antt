-- A function with one value changed, as an array is after a store. Assumes nothing.
use Prim.Native.Nat.{ℕ, ◌<◌}
use mathlib.Core.Path.{◌≡◌}
use mathlib.Core.Logic.{◌≢◌}
use mathlib.Core.List.{List}
use lib.ListN.{length, set}
use lib.Seq.{get_or-set_same, get_or-set_other}
use Rattle.distance.specs.Search.{at}

-- f' is f with the value x at i
pub record Put (f f' : ℕ → ℕ) (i x : ℕ) : Type 0 where
  pub here : f' i ≡ x
  pub else : (j : ℕ) → j ≢ i → f' j ≡ f j

pub put_set : (l : List ℕ) (i x : ℕ) → i < length l → Put (at l) (at (set l i x)) i x
put_set l i x h = record { here = get_or-set_same l i x 0 h; else = λ j d. get_or-set_other l i j x 0 d }
