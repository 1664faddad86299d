-- The identified board: all open vertices as one. It serves the proofs and the search for the distance; no product call's contract names
-- it, and what it is good for is a theorem (theory, `Identified`): a set is closed on it, and winds on it, where it does so on the board.
-- Assumes nothing.
use Rattle.std.specs.Prelude.{ℕ, cond, List, length, get_or}
use Rattle.std.proofs.Math.Option.{Option, none, some}
use Rattle.model.specs.Sums.{first_up_to, values}
use Rattle.model.specs.Board.{Board, without_open, is_open}

-- the smallest open vertex, and 0 where none is open
abbrev pub or_zero : Option ℕ → ℕ
or_zero none = 0
or_zero (some v) = v

unfoldable pub gate : Board → ℕ
gate B = or_zero (first_up_to B.vertices (is_open B))

-- every open vertex is sent to it, every other vertex to itself
abbrev pub glued : Board → ℕ → ℕ
glued B v = cond (is_open B v) (gate B) v

abbrev pub glued_ends : Board → List ℕ
glued_ends B = values (length B.ends) (λ i. glued B (get_or B.ends i 0))

-- the board with these ends, of which no vertex is open
abbrev pub identified : Board → Board
identified B = without_open B.vertices (glued_ends B) B.marks
