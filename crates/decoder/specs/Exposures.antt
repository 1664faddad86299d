-- How many ends of edges that aren't full lie at each vertex. Internal: no part of what a reader of a product call must believe.
-- Assumes nothing.
use Rattle.std.specs.Prelude.{ℕ, ◌+◌, ◌*◌, ◌<◌, ◌≡◌, not, ◌&&◌, List, length, get_or, eqb, ltb}
use Rattle.model.specs.Sums.{Set, count_up_to}
use Rattle.model.specs.Board.{vertex_limit}
use Rattle.union_find.specs.Trees.{at}

-- the edges below m that are not in F and have their first end at v; and those with their second end there
abbrev pub loose_first : List ℕ → Set → ℕ → Set
loose_first ends F v e = eqb (get_or ends (2 * e) 0) v && not (F e)

abbrev pub loose_second : List ℕ → Set → ℕ → Set
loose_second ends F v e = eqb (get_or ends (2 * e + 1) 0) v && not (F e)

-- how many ends at v they have; a loop edge has two
abbrev pub loose_ends : ℕ → List ℕ → Set → ℕ → ℕ
loose_ends m ends F v = count_up_to m (loose_first ends F v) + count_up_to m (loose_second ends F v)

-- these are the counts, where F is what is full
pub record Exposures (m : ℕ) (ends : List ℕ) (F : Set) (x : List ℕ) : Type 0 where
  pub long : length x ≡ vertex_limit
  pub counts : (v : ℕ) → v < vertex_limit → at x v ≡ loose_ends m ends F v

-- the vertices with a count other than 0
abbrev pub counted : List ℕ → Set
counted x v = ltb 0 (at x v)

-- v is a vertex whose count can rise by one
pub record Countable (x : List ℕ) (v : ℕ) : Type 0 where
  pub long : length x ≡ vertex_limit
  pub vertex : v < vertex_limit
  pub room : at x v < 65535
