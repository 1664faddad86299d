-- One array for parents and sizes: by a root 1,024 and the size of its tree, by any other vertex its parent. Internal: no part of what a
-- reader of a product call must believe.
-- Assumes nothing.
use Rattle.std.specs.Prelude.{ℕ, ◌+◌, ◌-◌, ◌≤◌, ◌<◌, ◌≡◌, cond, List, length, set, eqb, ltb}
use Rattle.model.specs.Sums.{values}
use Rattle.model.specs.Board.{vertex_limit}
use Rattle.model.specs.declared.numbers.Vertex.{Vertex}
use Rattle.union_find.specs.declared.Joined.{Joined}
use Rattle.union_find.specs.declared.Joined.TheVariants.{Hung, Already}
use Rattle.union_find.specs.Trees.{at, Trees, TwoRoots, Compressed}
use Rattle.union_find.specs.Joining.{joined}

abbrev pub root_mark : ℕ
root_mark = 1024

-- The parent of v: itself, where a size stands by it. By no vertex stands its own number; the parent would be no vertex.
abbrev pub parent_at : List ℕ → ℕ → ℕ
parent_at t v = cond (ltb (at t v) root_mark) (cond (eqb (at t v) v) root_mark (at t v)) v

-- the parents of all
unfoldable pub parents_of : List ℕ → List ℕ
parents_of t = values (length t) (parent_at t)

-- the sizes of all roots
unfoldable pub sizes_of : List ℕ → List ℕ
sizes_of t = values (length t) (λ v. at t v - root_mark)

-- The array holds n vertices as trees, and by each root stands the size of its tree. What the sizes of other vertices were when they were
-- hung is not in the array.
pub record Packed (n : ℕ) (t : List ℕ) : Type 0 where
  pub size : List ℕ
  pub trees : Trees n (parents_of t) size
  pub told : (r : ℕ) → r < n → at (parents_of t) r ≡ r → at t r ≡ root_mark + at size r

-- the array has room for n vertices
pub record Fits (n : ℕ) (t : List ℕ) : Type 0 where
  pub limit : n ≤ vertex_limit
  pub room : n ≤ length t

-- each of n vertices is its own root, in a tree of one
pub record EachAlone (n : ℕ) (t : List ℕ) : Type 0 where
  pub fits : Fits n t
  pub one : (v : ℕ) → v < n → at t v ≡ root_mark + 1

-- the parents are compressed, and what stands by roots is left
pub record Compresses (t : List ℕ) (v root : ℕ) (t' : List ℕ) : Type 0 where
  pub parents : Compressed (parents_of t) v root (parents_of t')
  pub roots : (z : ℕ) → root_mark ≤ at t z → at t' z ≡ at t z

-- a and b are vertices of these trees
pub record Joinable (t : List ℕ) (a b : ℕ) : Type 0 where
  pub count : ℕ
  pub packed : Packed count t
  pub first : a < count
  pub second : b < count

-- x and y are two roots of these trees
pub record Hangable (t : List ℕ) (x y : ℕ) : Type 0 where
  pub count : ℕ
  pub packed : Packed count t
  pub roots : TwoRoots count (parents_of t) x y

-- the root x hung under the root y, whose size is that of both trees then
abbrev pub hung_in : List ℕ → ℕ → ℕ → List ℕ
hung_in t x y = set (set t y (at t y + (at t x - root_mark))) x y

abbrev pub tree_after : Joined → List ℕ → List ℕ
tree_after (Hung child root) t = hung_in t child.0 root.0
tree_after (Already root) t = t

pub record Hangs (t : List ℕ) (x y : Vertex) (r : Joined) (t' : List ℕ) : Type 0 where
  pub answer : r ≡ Hung x y
  pub after : t' ≡ hung_in t x.0 y.0

pub record JoinsIn (t : List ℕ) (a b : ℕ) (r : Joined) (t' : List ℕ) : Type 0 where
  pub answer : r ≡ joined (parents_of t) (sizes_of t) a b
  pub after : t' ≡ tree_after r t
