-- What is kept with two trees when one is hung under the other. Internal: no part of what a reader of a product call must believe.
-- Assumes nothing.
use Rattle.std.specs.Prelude.{ℕ, ◌+◌, ◌<◌, ◌≡◌, cond, List, set, ltb}
use Rattle.model.specs.Board.{vertex_limit}
use Rattle.model.specs.declared.numbers.Vertex.{Vertex}
use Rattle.union_find.specs.declared.Joined.{Joined}
use Rattle.union_find.specs.declared.Joined.TheVariants.{Hung, Already}
use Rattle.decoder.specs.Figures.{name_mark, name_at, carried}

-- the figures carried to the smaller of the two names, which is told by the root that is left
abbrev pub figures_of : ℕ → ℕ → List ℕ → List ℕ
figures_of x y figure =
    let p = name_at figure x in
    let q = name_at figure y in
    cond (ltb p q) (set (carried figure q p) y (name_mark + p)) (carried figure p q)

abbrev pub figures_after : Joined → List ℕ → List ℕ
figures_after (Hung child root) figure = figures_of child.0 root.0 figure
figures_after (Already root) figure = figure

-- both roots and their names are within the limit
pub record RootsNamed (figure : List ℕ) (x y : ℕ) : Type 0 where
  pub child : x < vertex_limit
  pub root : y < vertex_limit
  pub child_name : name_at figure x < vertex_limit
  pub root_name : name_at figure y < vertex_limit

pub record Mergeable (j : Joined) (figure : List ℕ) : Type 0 where
  pub roots : (child root : Vertex) → j ≡ Hung child root → RootsNamed figure child.0 root.0
