-- What the walks found so far, and what they found in the end. The loop is found in an array with a byte for each edge that there may be,
-- of which the front, a byte for each edge of the board, is what is shown. No part of what a reader must believe: the contract of
-- `distance` does not cite it. Assumes nothing.
use Rattle.std.specs.Prelude.{ℕ, ◌≤◌, ◌<◌, ◌≡◌, true, List, Option, Some, None, unwrap_or, length, take, replicate}
use Rattle.std.proofs.Math.Option.{none, some}
use Rattle.model.specs.Sums.{bytes}
use Rattle.model.specs.Board.{Board, edges, edge_limit}
use Rattle.model.specs.Distance.{fewest}
use Rattle.model.specs.Outcomes.{ShowsLoop}
use Rattle.theory.proofs.CrossedLines.{Line}
use Rattle.theory.proofs.Walks.{Walk, walk_crosses, passed_oddly}
use Rattle.distance.specs.Walking.{no_loop_size}
use Rattle.distance.specs.Search.{NoShorter}

-- The array shows the odd edges of a closed walk of d edges that crosses a line an odd number of times.
pub record ShowsWalk (B : Board) (d : ℕ) (found : List ℕ) : Type 0 where
  pub vertex : ℕ
  pub list : List ℕ
  pub walk : Walk B vertex list vertex
  pub line : Line
  pub crossed : walk_crosses B line list ≡ true
  pub long : length list ≡ d
  pub written : found ≡ bytes edge_limit (passed_oddly list)

-- what the next walk stays below: the fewest edges so far, or, as long as no loop is found, one more than the edge limit
abbrev pub bound : Option ℕ → ℕ
bound best = unwrap_or best no_loop_size

-- After the walk from s no closed walk from there is shorter than the best, which is as it was, or is a new one that is shown.
pub record Improved (B : Board) (s : ℕ) (best : Option ℕ) (found : List ℕ) (best' : Option ℕ) (found' : List ℕ) : Type 0 where
  pub least : NoShorter B s (bound best')
  pub no_worse : bound best' ≤ bound best
  pub same : bound best' ≡ bound best → best' ≡ best
  pub kept : bound best' ≡ bound best → found' ≡ found
  pub shown : bound best' < bound best → ShowsWalk B (bound best') found'

-- The walks from the starts below s are done: there is no best as long as they found no loop.
pub record Searched (B : Board) (s : ℕ) (best : Option ℕ) (found : List ℕ) : Type 0 where
  pub least : (u : ℕ) → u < s → NoShorter B u (bound best)
  pub limit : (d : ℕ) → best ≡ Some d → d ≤ edge_limit
  pub blank : best ≡ None → found ≡ replicate edge_limit 0
  pub shown : (d : ℕ) → best ≡ Some d → ShowsWalk B d found

-- After the walks from all starts: the distance and a loop of that many edges, or no loop and zeros.
pub record Shortest (B : Board) (best : Option ℕ) (found : List ℕ) : Type 0 where
  pub long : length found ≡ edge_limit
  pub limit : (d : ℕ) → best ≡ Some d → d ≤ edge_limit
  pub none : best ≡ None → fewest B ≡ none
  pub blank : best ≡ None → take (edges B) found ≡ replicate (edges B) 0
  pub distance : (d : ℕ) → best ≡ Some d → fewest B ≡ some d
  pub loop : (d : ℕ) → best ≡ Some d → ShowsLoop B d (take (edges B) found)
