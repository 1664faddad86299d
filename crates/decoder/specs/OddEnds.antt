-- The odd ends of the correction, vertex by vertex. Internal: no part of what a reader of a product call must believe.
-- Assumes nothing.
use Rattle.std.specs.Prelude.{ℕ, ◌%◌, ◌<◌, ◌≡◌, Bool, ◌&&◌, List, [], length, get_or, eqb}
use Rattle.model.specs.Sums.{Set, ones, some_up_to}
use Rattle.model.specs.Board.{Board, board_of, vertex_limit, Unlit}
use Rattle.model.specs.Components.{within}
use Rattle.model.specs.Correction.{odd_ends}
use Rattle.decoder.specs.Tallies.{Tallied}

-- The odd ends rest on the vertices, the open ones among them, and the labels: these are all that this board has.
abbrev pub vertex_board : ℕ → List ℕ → Board
vertex_board n opened = board_of n [] [] opened

-- some vertex below k is open and labelled a
abbrev pub open_at : ℕ → List ℕ → List ℕ → ℕ → Bool
open_at k labels opened a = some_up_to k (λ v. ones opened v && within labels a v)

-- by counts: an odd one
abbrev pub odd_at : List ℕ → Set
odd_at counts a = eqb (get_or counts a 0 % 2) 1

-- each vertex has a label, an open byte and a syndrome byte, and no open vertex is lit
pub record Markable (labels opened syndrome : List ℕ) : Type 0 where
  pub labelled : Tallied (length syndrome) labels
  pub open_bytes : length opened ≡ length syndrome
  pub unlit : Unlit (vertex_board (length syndrome) opened) (ones syndrome)

-- each of the first n vertices is marked where it is an odd end
pub record MarksEnds (n : ℕ) (labels opened syndrome ends : List ℕ) : Type 0 where
  pub long : length ends ≡ vertex_limit
  pub at : (v : ℕ) → v < n → ones ends v ≡ odd_ends (vertex_board n opened) labels (ones syndrome) v
