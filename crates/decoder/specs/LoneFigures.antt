-- The figures of vertices that are clusters by themselves. Internal: no part of what a reader of a product call must believe.
-- Assumes nothing.
use Rattle.std.specs.Prelude.{ℕ, ◌≤◌, ◌<◌, ◌≡◌, List, length}
use Rattle.model.specs.Sums.{bit, ones}
use Rattle.model.specs.Board.{vertex_limit}
use Rattle.union_find.specs.Trees.{at}
use Rattle.decoder.specs.Figures.{figure_of, no_figure}
use Rattle.decoder.specs.Exposures.{counted}

-- there are an open byte, a syndrome byte and a count for each of n vertices
pub record Lonely (n : ℕ) (opened syndrome x : List ℕ) : Type 0 where
  pub few : n ≤ vertex_limit
  pub open_bytes : length opened ≡ n
  pub lit : length syndrome ≡ n
  pub counts_long : length x ≡ vertex_limit

-- each of the first k vertices has its own figure, and no other number has one
pub record LoneFigures (k : ℕ) (opened syndrome x figure : List ℕ) : Type 0 where
  pub long : length figure ≡ vertex_limit
  pub each : (v : ℕ) → v < k → at figure v ≡ figure_of (bit (counted x v)) (ones syndrome v) (ones opened v)
  pub others : (v : ℕ) → k ≤ v → v < vertex_limit → at figure v ≡ no_figure
