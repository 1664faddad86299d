-- What going back along the kept edges starts from. No part of what a reader must believe: the contract of `distance` does not cite it.
-- Assumes nothing.
use Rattle.std.specs.Prelude.{ℕ, ◌≤◌, ◌<◌, List}
use Rattle.model.specs.Board.{Valid}
use Rattle.distance.specs.States.{padded, state_limit}
use Rattle.distance.specs.Search.{at, Tree}

-- the kept edges of a walk, from whatever start
pub record Rooted (ends marks D K : List ℕ) : Type 0 where
  pub start : ℕ
  pub valid : Valid (padded ends marks)
  pub tree : Tree (padded ends marks) start (at D) (at K)

-- a state that was met
pub record Traceable (ends marks D K : List ℕ) (y : ℕ) : Type 0 where
  pub rooted : Rooted ends marks D K
  pub inside : y < state_limit
  pub met : 1 ≤ at D y
