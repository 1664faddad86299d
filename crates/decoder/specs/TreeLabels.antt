-- The names of the trees: the smallest vertex of each. Internal: no part of what a reader of a product call must believe.
-- Assumes nothing.
use Rattle.std.specs.Prelude.{ℕ, ◌<◌, ◌≡◌, List, length}
use Rattle.model.specs.Board.{vertex_limit}
use Rattle.model.specs.Components.{label}
use Rattle.union_find.specs.Trees.{Rooted}
use Rattle.decoder.specs.Figures.{Lows, name_of}

-- a and b are vertices that have roots
pub record BothRooted (parent : List ℕ) (a b : ℕ) : Type 0 where
  pub vertices : ℕ
  pub rooted : Rooted vertices parent
  pub first : a < vertices
  pub second : b < vertices

-- they have roots, and by each root stands the smallest vertex of its tree
pub record Nameable (n : ℕ) (parent low : List ℕ) : Type 0 where
  pub rooted : Rooted n parent
  pub lows : Lows n parent low

-- and v is one of them
pub record NamedAt (parent low : List ℕ) (v : ℕ) : Type 0 where
  pub vertices : ℕ
  pub nameable : Nameable vertices parent low
  pub vertex : v < vertices

-- a is the name of v's tree
pub record NameIs (parent low : List ℕ) (v a : ℕ) : Type 0 where
  pub is : a ≡ name_of parent low v
  pub small : a < vertex_limit

-- each of the first k vertices is labelled with the name of its tree
pub record Labelled (k : ℕ) (parent low labels : List ℕ) : Type 0 where
  pub long : length labels ≡ vertex_limit
  pub each : (v : ℕ) → v < k → label labels v ≡ name_of parent low v
