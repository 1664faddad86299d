-- How many vertices of each label belong to a set of vertices. Internal: no part of what a reader of a product call must believe.
-- Assumes nothing.
use Rattle.std.specs.Prelude.{ℕ, ◌≤◌, ◌<◌, ◌≡◌, ◌&&◌, List, length, get_or}
use Rattle.model.specs.Sums.{ones, count_up_to}
use Rattle.model.specs.Board.{vertex_limit}
use Rattle.model.specs.Components.{label, within}

-- the first n vertices have labels within the limit
pub record Tallied (n : ℕ) (labels : List ℕ) : Type 0 where
  pub few : n ≤ vertex_limit
  pub inside : (v : ℕ) → v < n → label labels v < vertex_limit

-- entry a is the number of vertices below k that are labelled a and have a 1 among the members
pub record Tallies (k : ℕ) (labels members l : List ℕ) : Type 0 where
  pub long : length l ≡ vertex_limit
  pub at : (a : ℕ) → a < vertex_limit → get_or l a 0 ≡ count_up_to k (λ v. ones members v && within labels a v)
