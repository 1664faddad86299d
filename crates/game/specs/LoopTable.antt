-- The table of sets that contain a winding loop, while it is filled. No part of what a reader must believe. Assumes nothing.
use Rattle.std.specs.Prelude.{ℕ, ◌≤◌, ◌<◌, ◌≡◌, List, length, get_or}
use Rattle.model.specs.Sums.{bit}
use Rattle.model.specs.Board.{Board, Inside, edges}
use Rattle.model.specs.Words.{bit_of}
use Rattle.model.specs.Game.{holds_loop}
use Rattle.model.specs.Refusals.{game_limit}
use Rattle.game.specs.Searching.{set_limit}

-- a board whose loops the table has room for
pub record Small (B : Board) : Type 0 where
  pub inside : Inside B
  pub open_bytes : length B.opened ≡ B.vertices
  pub few : edges B ≤ game_limit

-- the bytes of all masks below k are right
pub record Filled (B : Board) (k : ℕ) (loops : List ℕ) : Type 0 where
  pub long : length loops ≡ set_limit
  pub at : (x : ℕ) → x < k → get_or loops x 0 ≡ bit (holds_loop B (bit_of x))
