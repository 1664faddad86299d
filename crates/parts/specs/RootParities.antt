-- The parity of each tree, kept at its root. Internal: no part of what a reader of a product call must believe.
-- Assumes nothing.
use Rattle.std.specs.Prelude.{ℕ, ◌<◌, ◌≡◌, Bool, cond, ◌&&◌, List, length, get_or, eqb}
use Rattle.model.specs.Sums.{Set, bit, ones, odd_up_to, some_up_to}
use Rattle.model.specs.Board.{vertex_limit}
use Rattle.union_find.specs.Trees.{root_of, Rooted}

-- an odd number of the first k vertices are syndrome vertices with the root r
abbrev pub odd_at_root : ℕ → List ℕ → List ℕ → ℕ → Bool
odd_at_root k parent syndrome r = odd_up_to k (λ v. ones syndrome v && eqb (root_of parent v) r)

-- entry r is 1 where that is so, else 0
pub record Parities (k : ℕ) (parent syndrome odd : List ℕ) : Type 0 where
  pub long : length odd ≡ vertex_limit
  pub at : (r : ℕ) → r < vertex_limit → get_or odd r 0 ≡ bit (odd_at_root k parent syndrome r)

-- the vertices whose root has a 1
abbrev pub marked : List ℕ → List ℕ → Set
marked parent odd v = ones odd (root_of parent v)

-- the roots of the first n vertices have an entry
pub record Marked (n : ℕ) (parent odd : List ℕ) : Type 0 where
  pub rooted : Rooted n parent
  pub long : length odd ≡ vertex_limit

-- some of the first k vertices is open and has the root r
abbrev pub open_at_root : ℕ → List ℕ → List ℕ → ℕ → Bool
open_at_root k parent opened r = some_up_to k (λ v. ones opened v && eqb (root_of parent v) r)

-- then entry r becomes 0
pub record Cleared (k : ℕ) (parent opened odd odd' : List ℕ) : Type 0 where
  pub long : length odd' ≡ vertex_limit
  pub at : (r : ℕ) → r < vertex_limit → get_or odd' r 0 ≡ cond (open_at_root k parent opened r) 0 (get_or odd r 0)
