-- What becomes of counts and figures when edges become full, before any cluster is fused. Internal: no part of what a reader of a product call
-- must believe.
-- Assumes nothing.
use Rattle.std.specs.Prelude.{ℕ, ◌+◌, ◌-◌, ◌≤◌, ◌<◌, ◌≡◌, ◌≢◌, false, cond, ◌&&◌, List, length, get_or, set, eqb}
use Rattle.model.specs.Sums.{Set, count_up_to}
use Rattle.model.specs.Board.{vertex_limit, edge_limit, EndsWithin}
use Rattle.model.specs.Components.{within}
use Rattle.union_find.specs.Trees.{at}
use Rattle.decoder.specs.Gains.{with_listed}
use Rattle.decoder.specs.Figures.{name_mark, names_by, Figurable, name_of, names, Keeps}
use Rattle.decoder.specs.Exposures.{Exposures, counted}

-- the number of the cluster's vertices that are in X, and something else that is known of the cluster
abbrev pub sized : ℕ → List ℕ → Set → (ℕ → ℕ) → ℕ → ℕ
sized n l X rest a = rest a + count_up_to n (λ v. within l a v && X v)

-- v is a vertex of named trees with an end left, and its tree's figure is not 0
pub record Shuttable (parent low : List ℕ) (v : ℕ) (x figure : List ℕ) : Type 0 where
  pub vertices : ℕ
  pub named : Figurable vertices parent low figure
  pub long : length x ≡ vertex_limit
  pub vertex : v < vertices
  pub some_end : 1 ≤ at x v
  pub some_figure : 1 ≤ at figure (name_of parent low v)

-- one end fewer at v: with the last one its tree's figure loses one
pub record Shuts (parent low : List ℕ) (v : ℕ) (x figure x' figure' : List ℕ) : Type 0 where
  pub counts : x' ≡ set x v (at x v - 1)
  pub figures : figure' ≡ cond (eqb (at x v) 1) (set figure (name_of parent low v) (at figure (name_of parent low v) - 1)) figure

-- the first k listed edges are edges, each is listed once, and none is in F
pub record NewlyListed (m : ℕ) (F : Set) (filled : List ℕ) (k : ℕ) : Type 0 where
  pub few : k ≤ edge_limit
  pub edges : (i : ℕ) → i < k → get_or filled i 0 < m
  pub outside : (i : ℕ) → i < k → F (get_or filled i 0) ≡ false
  pub distinct : (i j : ℕ) → i < j → j < k → get_or filled i 0 ≢ get_or filled j 0

-- what is full, whatever it is: the counts are those of its edges, and each figure is the number of the tree's vertices that have a count,
-- with something else, which is small enough for a figure; the names are those that are told beside the figures
pub record ListShuttable (parent low ends filled : List ℕ) (k : ℕ) (x figure : List ℕ) : Type 0 where
  pub vertices : ℕ
  pub named : Figurable vertices parent low figure
  pub edges : ℕ
  pub lent : EndsWithin vertices edges ends
  pub full : Set
  pub fresh : NewlyListed edges full filled k
  pub counts : Exposures edges ends full x
  pub told : names_by figure ≡ low
  pub rest : ℕ → ℕ
  pub small : (a : ℕ) → rest a + vertex_limit < name_mark
  pub figures : Keeps vertices (names vertices parent low) (sized vertices (names vertices parent low) (counted x) rest) figure

-- once the first i listed edges are full too: the counts are those of the edges that are full then, and the figures follow
pub record ShutUpTo {parent low ends filled : List ℕ} {k : ℕ} {x figure : List ℕ} (w : ListShuttable parent low ends filled k x figure) (i : ℕ)
    (x' figure' : List ℕ) : Type 0 where
  pub long : length figure' ≡ vertex_limit
  pub told : names_by figure' ≡ low
  pub counts : Exposures w.edges ends (with_listed w.full i filled) x'
  pub figures :
      Keeps w.vertices (names w.vertices parent low) (sized w.vertices (names w.vertices parent low) (counted x') w.rest) figure'

pub record ListShut (parent low ends filled : List ℕ) (k : ℕ) (x figure x' figure' : List ℕ) : Type 0 where
  pub each : (w : ListShuttable parent low ends filled k x figure) → ShutUpTo w k x' figure'
