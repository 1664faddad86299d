-- What the search for a trap finds. No part of what a reader must believe. Assumes nothing.
use Rattle.std.specs.Prelude.{ℕ, ◌+◌, ◌*◌, ◌<◌, ◌≤◌, ◌≡◌, ◌&&◌, List, eqb}
use Rattle.std.proofs.Math.Option.{some}
use Rattle.model.specs.Sums.{Set, count_up_to}
use Rattle.model.specs.Board.{Board, edges}
use Rattle.model.specs.Words.{bit_of}
use Rattle.model.specs.Distance.{fewest}
use Rattle.model.specs.Outcomes.{ShowsLoop}
use Rattle.model.specs.Traps.{traps, fewest_trap}
use Rattle.model.specs.TrapOutcomes.{ShowsTrap}

-- the set of a mask has k edges, and is a trap
abbrev pub trap_of_size : Board → List ℕ → ℕ → Set
trap_of_size B loss k x = eqb (count_up_to (edges B) (bit_of x)) k && traps B loss (bit_of x)

-- a size s below k is too small for a trap where t edges are lost and the distance is d: t + 2s is below d, and the edges of a set that are
-- not lost are no more than all of them; k is at most d
pub record LeastSize (d t k : ℕ) : Type 0 where
  pub at_most : k ≤ d
  pub light : (s : ℕ) → s < k → t + 2 * s < d

-- the distance is d, and the buffer shows a loop of d edges
pub record ShowsShortest (B : Board) (d : ℕ) (l : List ℕ) : Type 0 where
  pub distance : fewest B ≡ some d
  pub shown : ShowsLoop B d l

-- the fewest edges of a trap are k, and the buffer shows a trap of k edges
pub record ShowsSmallest (B : Board) (loss : List ℕ) (k : ℕ) (l : List ℕ) : Type 0 where
  pub least : fewest_trap B loss ≡ some k
  pub shown : ShowsTrap B loss k l
