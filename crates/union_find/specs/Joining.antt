-- What joining two vertices does to the arrays of a union-find. Internal: no part of what a reader of a product call must believe.
-- Assumes nothing.
use Rattle.std.specs.Prelude.{ℕ, ◌<◌, ◌≡◌, Bool, cond, List, eqb, ltb}
use Rattle.model.specs.Components.{label}
use Rattle.union_find.specs.declared.Joined.{Joined}
use Rattle.union_find.specs.declared.Joined.TheVariants.{Hung, Already}
use Rattle.union_find.specs.Trees.{at, root_of, hung, grown}

-- Two vertices of one tree stay as they are. Otherwise the smaller tree is hung under the root of the larger; among equals, the
-- second under the first.
abbrev pub joined_by : Bool → Bool → ℕ → ℕ → Joined
joined_by one less x y =
    cond one (Already (record { 0 = x }))
    (cond less (Hung (record { 0 = x }) (record { 0 = y })) (Hung (record { 0 = y }) (record { 0 = x })))

abbrev pub joined_roots : List ℕ → ℕ → ℕ → Joined
joined_roots size x y = joined_by (eqb x y) (ltb (at size x) (at size y)) x y

unfoldable pub joined : List ℕ → List ℕ → ℕ → ℕ → Joined
joined parent size a b = joined_roots size (root_of parent a) (root_of parent b)

-- the parents and the sizes after that
abbrev pub parents_after : Joined → List ℕ → List ℕ
parents_after (Hung child root) parent = hung parent child.0 root.0
parents_after (Already root) parent = parent

abbrev pub sizes_after : Joined → List ℕ → List ℕ
sizes_after (Hung child root) size = grown size child.0 root.0
sizes_after (Already root) size = size

pub record Joins (parent size : List ℕ) (a b : ℕ) (r : Joined) (parent' size' : List ℕ) : Type 0 where
  pub answer : r ≡ joined parent size a b
  pub parents : parent' ≡ parents_after r parent
  pub sizes : size' ≡ sizes_after r size

-- u and v lie in one tree
abbrev pub same_root : List ℕ → ℕ → ℕ → Bool
same_root parent u v = eqb (root_of parent u) (root_of parent v)

-- Two of the first n vertices lie in one tree exactly where they have one label: the trees are the parts that the labels name.
pub record Mirrors (n : ℕ) (parent labels : List ℕ) : Type 0 where
  pub same : (u v : ℕ) → u < n → v < n → same_root parent u v ≡ eqb (label labels u) (label labels v)
