-- Document 02, K6: what the book keeps with each cluster, and when that is true of the supports. Internal: no part of what a reader of a
-- product call must believe.
-- Assumes nothing.
use Rattle.std.specs.Prelude.{ℕ, ◌+◌, ◌-◌, ◌/◌, ◌%◌, ◌≤◌, ◌<◌, ◌≡◌, Bool, cond, not, List, length, set, eqb, ltb}
use Rattle.model.specs.Sums.{Set, values}
use Rattle.model.specs.Board.{Board, vertex_limit}
use Rattle.model.specs.Components.{label}
use Rattle.model.specs.Growth.{oddly_lit, holds_open, boundary}
use Rattle.union_find.specs.Trees.{at, root_of, Rooted}

-- The figure of a cluster: its boundary size, 2,048 more where the number of its syndrome vertices is even, and 4,096 more where it holds an
-- open vertex. No boundary size comes to 2,048.
abbrev pub even_mark : ℕ
even_mark = 2048

abbrev pub open_mark : ℕ
open_mark = 4096

abbrev pub figure_of : ℕ → Bool → Bool → ℕ
figure_of size lit holds = size + cond lit 0 even_mark + cond holds open_mark 0

-- What is at least 32,768 is no figure. It stands by the vertices that name no cluster: by a root whose tree another vertex names, 32,768 and
-- that vertex.
abbrev pub name_mark : ℕ
name_mark = 32768

abbrev pub no_figure : ℕ
no_figure = 65535

-- the name that is told by r: r itself, if a figure stands there
abbrev pub name_at : List ℕ → ℕ → ℕ
name_at figure r = cond (ltb (at figure r) name_mark) r (at figure r - name_mark)

-- the names that are told by all numbers
unfoldable pub names_by : List ℕ → List ℕ
names_by figure = values vertex_limit (name_at figure)

-- The figure of two clusters as one: sizes add up, an even number of syndrome vertices comes of two that are both even or both odd, and an
-- open vertex of either is one of both.
unfoldable pub plus_figure : ℕ → ℕ → ℕ
plus_figure f g =
    f % even_mark + g % even_mark + cond (eqb (f / even_mark % 2) (g / even_mark % 2)) even_mark 0
    + cond (not (eqb (f / open_mark + g / open_mark) 0)) open_mark 0

-- of the clusters j and k, one is left: k has their figure, and j names none
abbrev pub carried : List ℕ → ℕ → ℕ → List ℕ
carried figure j k = set (set figure k (plus_figure (at figure j) (at figure k))) j no_figure

-- A figure below 2,048 is that of an odd cluster: then it is the boundary size.
abbrev pub odd_figure : List ℕ → Set
odd_figure figure a = ltb (at figure a) even_mark

-- The labels of the trees

-- by each root stands the smallest vertex of its tree
pub record Lows (n : ℕ) (parent low : List ℕ) : Type 0 where
  pub long : n ≤ length low
  pub below : (v : ℕ) → v < n → at low (root_of parent v) ≤ v
  pub same : (v : ℕ) → v < n → root_of parent (at low (root_of parent v)) ≡ root_of parent v

abbrev pub name_of : List ℕ → List ℕ → ℕ → ℕ
name_of parent low v = at low (root_of parent v)

-- each vertex labelled with the smallest of its tree: the trees, as clusters
unfoldable pub names : ℕ → List ℕ → List ℕ → List ℕ
names n parent low = values n (name_of parent low)

-- the first n vertices have roots by which stand the names of their trees, and there is a figure for each name
pub record Figurable (n : ℕ) (parent low figure : List ℕ) : Type 0 where
  pub rooted : Rooted n parent
  pub lows : Lows n parent low
  pub long : length figure ≡ vertex_limit

-- The promise

-- a names one of the clusters that the labels make: it is the label of itself
pub record Leads (n : ℕ) (l : List ℕ) (a : ℕ) : Type 0 where
  pub below : a < n
  pub own : label l a ≡ a

-- by each name of a cluster stands what f says of the cluster, and by no other number a figure
pub record Keeps (n : ℕ) (l : List ℕ) (f : ℕ → ℕ) (figure : List ℕ) : Type 0 where
  pub named : (a : ℕ) → Leads n l a → at figure a ≡ f a
  pub others : (a : ℕ) → a < vertex_limit → (Leads n l a → ⊥) → name_mark ≤ at figure a

-- The figures are true of the supports s: for every cluster that l names, what is kept is its boundary size at these supports, by the
-- definition (model, Growth, `boundary`), with what tells whether it is odd.
pub record Figured (B : Board) (S : Set) (s l figure : List ℕ) : Type 0 where
  pub kept : Keeps B.vertices l (λ a. figure_of (boundary B s l a) (oddly_lit B l S a) (holds_open B l a)) figure
