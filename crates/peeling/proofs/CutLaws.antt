-- What `cut` and `clear` do is what their contracts say. Assumes nothing.
use Prim.Native.Nat.{ℕ, ◌<◌}
use mathlib.Core.Path.{◌≡◌, refl}
use mathlib.Core.Logic.{◌≢◌}
use mathlib.Core.Bool.{Bool, true, false}
use mathlib.Core.List.{List}
use lib.ListN.{length, length-set}
use lib.Seq.{get_or-set_same, get_or-set_other}
use Rattle.model.specs.Sums.{bit}
use Rattle.union_find.specs.Trees.{at}
use Rattle.peeling.specs.Peeling.{marked}

-- A byte that was 0 says whether its edge is marked, and all others stay

pub marked_here : (t : Bool) (e : ℕ) (written : List ℕ) → e < length written → at written e ≡ 0 → at (marked t e written) e ≡ bit t
marked_here true e written h q = get_or-set_same written e 1 0 h
marked_here false e written h q = q

pub marked_other : (t : Bool) (e i : ℕ) (written : List ℕ) → i ≢ e → at (marked t e written) i ≡ at written i
marked_other true e i written q = get_or-set_other written e i 1 0 q
marked_other false e i written q = refl

pub marked_long : (t : Bool) (e : ℕ) (written : List ℕ) → length (marked t e written) ≡ length written
marked_long true e written = length-set written e 1
marked_long false e written = refl
