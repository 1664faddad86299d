-- The arrays of a union-find: vertices as trees, by the parent of each. Internal: no part of what a reader of a product call must believe.
-- Assumes nothing.
use Rattle.std.specs.Prelude.{ℕ, zero, suc, ◌+◌, ◌≤◌, ◌<◌, ◌≡◌, ◌≢◌, Bool, cond, ◌||◌, List, length, get_or, set, eqb}
use Rattle.model.specs.Sums.{count_up_to}
use Rattle.model.specs.Board.{vertex_limit}

-- what stands in an array at v: its parent, its size
abbrev pub at : List ℕ → ℕ → ℕ
at l v = get_or l v 0

-- the k-th parent of v
unfoldable pub above : List ℕ → ℕ → ℕ → ℕ
above p zero v = v
above p (suc k) v = above p k (at p v)

-- A root is its own parent, so the way up from v rests at v's root; it takes fewer steps than there are entries.
unfoldable pub root_of : List ℕ → ℕ → ℕ
root_of p v = above p (length p) v

-- Among the first n entries a parent is a vertex with a larger size, unless it is the vertex itself: so every way up ends at a root.
pub record Climbs (n : ℕ) (parent size : List ℕ) : Type 0 where
  pub limit : n ≤ vertex_limit
  pub parents : n ≤ length parent
  pub sizes : n ≤ length size
  pub inside : (v : ℕ) → v < n → at parent v < n
  pub bounded : (v : ℕ) → v < n → at size v ≤ n
  pub rising : (v : ℕ) → v < n → at parent v ≢ v → at size v < at size (at parent v)

-- The first n entries are trees, and a root's size is the number of the vertices in its tree.
pub record Trees (n : ℕ) (parent size : List ℕ) : Type 0 where
  pub climbs : Climbs n parent size
  pub counted : (r : ℕ) → r < n → at parent r ≡ r → at size r ≡ count_up_to n (λ v. eqb (root_of parent v) r)

-- the ways up from the first n vertices, by these parents, end at roots
pub record Rooted (n : ℕ) (parent : List ℕ) : Type 0 where
  pub size : List ℕ
  pub climbs : Climbs n parent size

-- v is one of the vertices whose ways up, by these parents, end
pub record InTrees (parent : List ℕ) (v : ℕ) : Type 0 where
  pub count : ℕ
  pub size : List ℕ
  pub climbs : Climbs count parent size
  pub vertex : v < count

-- r is the root of such a vertex
pub record RootIs (parent : List ℕ) (v r : ℕ) : Type 0 where
  pub way : InTrees parent v
  pub root : r ≡ root_of parent v

-- the arrays have room for n vertices
pub record Room (n : ℕ) (parent size : List ℕ) : Type 0 where
  pub limit : n ≤ vertex_limit
  pub parents : n ≤ length parent
  pub sizes : n ≤ length size

-- each of n vertices is its own root, in a tree of one
pub record Alone (n : ℕ) (parent size : List ℕ) : Type 0 where
  pub room : Room n parent size
  pub own : (v : ℕ) → v < n → at parent v ≡ v
  pub one : (v : ℕ) → v < n → at size v ≡ 1

-- u lies at z or below it: the way up from u, of at most k steps, passes z
unfoldable pub under_up_to : List ℕ → ℕ → ℕ → ℕ → Bool
under_up_to p zero z u = eqb u z
under_up_to p (suc k) z u = eqb u z || under_up_to p k z (at p u)

unfoldable pub under : List ℕ → ℕ → ℕ → Bool
under p z u = under_up_to p (length p) z u

-- Path compression from v: every vertex on the way up from v hangs under v's root, and every other vertex keeps its parent.
pub record Compressed (parent : List ℕ) (v root : ℕ) (parent' : List ℕ) : Type 0 where
  pub same_length : length parent' ≡ length parent
  pub each : (z : ℕ) → at parent' z ≡ cond (under parent z v) root (at parent z)

-- r, but y where r is x
abbrev pub moved : ℕ → ℕ → ℕ → ℕ
moved x y r = cond (eqb r x) y r

-- x and y are two roots
pub record TwoRoots (n : ℕ) (parent : List ℕ) (x y : ℕ) : Type 0 where
  pub x_inside : x < n
  pub y_inside : y < n
  pub x_root : at parent x ≡ x
  pub y_root : at parent y ≡ y
  pub apart : x ≢ y

-- the root x hung under the root y
abbrev pub hung : List ℕ → ℕ → ℕ → List ℕ
hung p x y = set p x y

-- y's size is then that of both trees
abbrev pub grown : List ℕ → ℕ → ℕ → List ℕ
grown s x y = set s y (at s x + at s y)
