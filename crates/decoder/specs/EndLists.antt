-- For each vertex, the list of its ends, from the last to the first. Internal: no part of what a reader of a product call must believe.
-- Assumes nothing.
use Rattle.std.specs.Prelude.{ℕ, zero, suc, ◌*◌, ◌<◌, ◌≡◌, cond, List, length, get_or, eqb}
use Rattle.model.specs.Board.{vertex_limit, edge_limit}
use Rattle.union_find.specs.Trees.{at}

-- one more than the last of the first k ends that is v, and 0 where none is
unfoldable pub latest_end : List ℕ → ℕ → ℕ → ℕ
latest_end ends v zero = 0
latest_end ends v (suc i) = cond (eqb (get_or ends i 0) v) (suc i) (latest_end ends v i)

-- before any end is listed
pub record Unlisted (latest earlier : List ℕ) : Type 0 where
  pub none : (v : ℕ) → v < vertex_limit → at latest v ≡ 0
  pub latest_long : length latest ≡ vertex_limit
  pub earlier_long : length earlier ≡ 2 * edge_limit

-- the first k ends are listed: by each vertex the last of them that is there, and by each of them the one before it at its vertex
pub record ListedUpTo (k : ℕ) (ends latest earlier : List ℕ) : Type 0 where
  pub latest_long : length latest ≡ vertex_limit
  pub earlier_long : length earlier ≡ 2 * edge_limit
  pub last : (v : ℕ) → v < vertex_limit → at latest v ≡ latest_end ends v k
  pub before : (i : ℕ) → i < k → at earlier i ≡ latest_end ends (get_or ends i 0) i

abbrev pub Listed : List ℕ → List ℕ → List ℕ → Type 0
Listed ends latest earlier = ListedUpTo (length ends) ends latest earlier
