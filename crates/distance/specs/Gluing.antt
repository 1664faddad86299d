-- Ends of which the open ones are sent to one vertex. No part of what a reader must believe: the contract of `distance` does not cite it.
-- Assumes nothing.
use Rattle.std.specs.Prelude.{ℕ, ◌*◌, ◌≤◌, ◌<◌, ◌≡◌, List, [], length, get_or, take}
use Rattle.model.specs.Board.{board_of, vertex_limit, edge_limit}
use Rattle.model.specs.Identified.{glued_ends}

-- there is an open byte for each end, and room for all ends
pub record Gluable (ends opened l : List ℕ) : Type 0 where
  pub limit : length opened ≤ vertex_limit
  pub inside : (i : ℕ) → i < length ends → get_or ends i 0 < length opened
  pub few : length ends ≤ 2 * edge_limit
  pub long : length l ≡ 2 * edge_limit

-- the front of the array is the ends of the identified board, by the lists that are lent; marks do not matter
pub record Glues (ends opened l : List ℕ) : Type 0 where
  pub long : length l ≡ 2 * edge_limit
  pub front : take (length ends) l ≡ glued_ends (board_of (length opened) ends [] opened)
