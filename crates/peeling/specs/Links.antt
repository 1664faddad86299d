-- The spanning forest as a union-find makes it: each of its edges hangs one tree under the root of another, and is listed with the root
-- that it hung, its link. Internal: no part of what a reader of a product call must believe.
-- Assumes nothing.
use Rattle.std.specs.Prelude.{ℕ, ◌+◌, ◌*◌, ◌≤◌, ◌<◌, ◌≡◌, ◌≢◌, ◌⊎◌, true, List, length, get_or, set, eqb}
use Rattle.model.specs.Sums.{Set, count_up_to}
use Rattle.model.specs.Board.{Board, EndsWithin, plain, first_end, second_end, vertex_limit}
use Rattle.model.specs.Components.{label, labels_up_to}
use Rattle.model.specs.Growth.{full}
use Rattle.model.specs.Forest.{forest}
use Rattle.model.specs.declared.numbers.Vertex.{Vertex}
use Rattle.union_find.specs.declared.Joined.TheVariants.{Hung, Already}
use Rattle.union_find.specs.Trees.{at, Trees, under}
use Rattle.union_find.specs.Packed.{Packed, JoinsIn}

-- the arrays may take edge e, with `count` edges in the list
pub record Takeable (ends t : List ℕ) (count e : ℕ) : Type 0 where
  pub vertices : ℕ
  pub edges : ℕ
  pub board : EndsWithin vertices edges ends
  pub edge : e < edges
  pub packed : Packed vertices t
  pub room : count < vertex_limit

-- The ends of edge e are joined. Where that hangs the root x, the edge and x are next in the list, and otherwise the list stays; r edges
-- are in it then.
pub data Takes (ends t taken links : List ℕ) (count e r : ℕ) (t' taken' links' : List ℕ) : Type 0 where
  appended : (x y : Vertex) → JoinsIn t (get_or ends (2 * e) 0) (get_or ends (2 * e + 1) 0) (Hung x y) t'
      → r ≡ count + 1 → taken' ≡ set taken count e → links' ≡ set links count x.0
      → Takes ends t taken links count e r t' taken' links'
  passed : (z : Vertex) → JoinsIn t (get_or ends (2 * e) 0) (get_or ends (2 * e + 1) 0) (Already z) t'
      → r ≡ count → taken' ≡ taken → links' ≡ links → Takes ends t taken links count e r t' taken' links'

-- Edge e of the forest hangs x: at x and below it hang the vertices that the edges of F below e connect with one of its ends.
pub record HungBy (B : Board) (F : Set) (parent : List ℕ) (e x : ℕ) : Type 0 where
  pub in_forest : forest B F e ≡ true
  pub vertex : x < B.vertices
  pub not_root : at parent x ≢ x
  pub end : ℕ
  pub is_end : (end ≡ first_end B e) ⊎ (end ≡ second_end B e)
  pub below : (u : ℕ) → u < B.vertices → under parent x u ≡ eqb (label (labels_up_to B F e) u) (label (labels_up_to B F e) end)

-- the place of edge e in the list: as many edges of the forest are below e
abbrev pub place : Board → Set → ℕ → ℕ
place B F e = count_up_to e (forest B F)

-- edge e stands at its place, with its link
pub record Stands (B : Board) (F : Set) (parent taken links : List ℕ) (e : ℕ) : Type 0 where
  pub edge : at taken (place B F e) ≡ e
  pub link : HungBy B F parent e (at links (place B F e))

-- the list has the edges of the forest that are below n, and is as long as they are many
pub record Listed (B : Board) (F : Set) (parent taken links : List ℕ) (n count : ℕ) : Type 0 where
  pub counted : count ≡ count_up_to n (forest B F)
  pub each : (e : ℕ) → e < n → forest B F e ≡ true → Stands B F parent taken links e

-- there is room for the trees and the list
pub record SpanRoom (vertices : ℕ) (ends support t taken links : List ℕ) : Type 0 where
  pub board : EndsWithin vertices (length support) ends
  pub tree_room : vertices ≤ length t
  pub edge_room : vertices ≤ length taken
  pub link_room : vertices ≤ length links

-- the trees are those of the forest of the full edges, whose r edges are listed, with their links
pub record Spans (vertices : ℕ) (ends support : List ℕ) (r : ℕ) (parent taken links : List ℕ) : Type 0 where
  pub size : List ℕ
  pub trees : Trees vertices parent size
  pub listed : Listed (plain vertices (length support) ends) (full support) parent taken links (length support) r
  pub limit : r ≤ vertex_limit
