-- From walks to sets, on a board without open vertices: where every closed walk of at most k edges is unmarked, every winding loop has
-- more than k edges. The edges of a small closed set are inserted one by one, each for 1, from clusters of one vertex each. Assumes
-- nothing.
use Prim.Native.Nat.{ℕ, ◌≤◌, ◌<◌}
use mathlib.Core.Path.{◌≡◌, refl, sym, ◌∙◌}
use mathlib.Core.Bool.{Bool, true, false, false≢true}
use borrow.Author.Tests.{ltb-true, ltb-false}
use lib.Dec.{ltb}
use Rattle.model.specs.Sums.{Set}
use Rattle.model.specs.Board.{Board, Inside}
use Rattle.model.specs.Winding.{winds, size}
use Rattle.model.specs.Demand3.{EveryLoopAbove}
use Rattle.theory.proofs.Syndromes.{Sealed}
use Rattle.theory.proofs.CrossedLines.{Closed, winds_closed}
use Rattle.theory.proofs.ShortLoops.{ShortWalksUnmarked}
use Rattle.theory.proofs.Potentials.{potential_unwound}
use Rattle.theory.proofs.InsertAll.{insert_first}

-- a closed set of at most k edges does not wind
pub small_unwound : (B : Board) → Inside B → Sealed B → (k : ℕ) → ShortWalksUnmarked B k → (D : Set) → size B D ≤ k → Closed B D → winds B D ≡ false
small_unwound B r w k short D few c =
    let i = insert_first B r k D short few in
    potential_unwound B r w i.clustering.potential D (record { fits = λ x e h p. (i.settles e h p).fits x }) c

-- Every winding loop has more than k edges.
pub walks_above_loops : (B : Board) → Inside B → Sealed B → (k : ℕ) → ShortWalksUnmarked B k → EveryLoopAbove B k
walks_above_loops B r w k short = record { above = λ D v. large D v (ltb k (size B D)) refl }
  where
    large : (D : Set) → winds B D ≡ true → (t : Bool) → ltb k (size B D) ≡ t → k < size B D
    large D v true q = ltb-true k (size B D) q
    large D v false q = absurd (false≢true (sym (small_unwound B r w k short D (ltb-false k (size B D) q) (winds_closed B D v)) ∙ v))
