-- What holds of the cluster book, and what its methods do to it. Internal: no part of what a reader of a product call must believe.
-- Assumes nothing.
use Rattle.std.specs.Prelude.{ℕ, ◌≤◌, ◌<◌, ◌≡◌, Bool, not, ◌&&◌, ◌||◌, List, length, get_or}
use Rattle.model.specs.Sums.{Set, count_up_to}
use Rattle.model.specs.Board.{Board, vertex_limit, edge_limit, unmarked, plain, EndsWithin}
use Rattle.model.specs.Components.{labels}
use Rattle.model.specs.Growth.{full, clusters, swell}
use Rattle.model.specs.declared.numbers.Vertex.{Vertex}
use Rattle.union_find.specs.declared.Joined.TheVariants.{Hung}
use Rattle.union_find.specs.Trees.{at, root_of, Compressed}
use Rattle.union_find.specs.Packed.{root_mark, parents_of, sizes_of, Packed, EachAlone}
use Rattle.union_find.specs.Joining.{joined, same_root, Mirrors}
use Rattle.decoder.specs.Gains.{Supports, with_listed}
use Rattle.decoder.specs.Figures.{names_by, Lows, name_of, names, Figured}
use Rattle.decoder.specs.Exposures.{Exposures}
use Rattle.decoder.specs.LoneFigures.{LoneFigures}
use Rattle.decoder.specs.EndLists.{Listed}
use Rattle.decoder.specs.Rings.{LoneRings, Rings}
use Rattle.decoder.specs.Raising.{growers}
use Rattle.std.specs.declared.ops.Range.{Range}
use Rattle.decoder.specs.declared.book.Book.{Book}
use Rattle.decoder.specs.declared.book.Found.{Found}
use Rattle.decoder.specs.declared.book.Fused.{Fused}
use Rattle.decoder.specs.declared.book.Grown.{Grown}

-- the parents of its vertices
abbrev pub parents_by : Book → List ℕ
parents_by b = parents_of b.tree

-- the names of its trees, as they are told beside the figures
abbrev pub lows_of : Book → List ℕ
lows_of b = names_by b.figure

-- the book's arrays are trees of its vertices with their sizes, named by their smallest vertices, and there is a figure for each name
pub record Good (b : Book) : Type 0 where
  pub packed : Packed b.vertices b.tree
  pub lows : Lows b.vertices (parents_by b) (lows_of b)
  pub figures_long : length b.figure ≡ vertex_limit

-- two of its vertices are in one cluster
abbrev pub together : Book → ℕ → ℕ → Bool
together b u v = same_root (parents_by b) u v

-- its own clusters, as labels
abbrev pub own_labels : Book → List ℕ
own_labels b = names b.vertices (parents_by b) (lows_of b)

-- Document 02, K6: the book of the supports s. Its clusters are theirs, and with each is kept its boundary size at s.
pub record TrueBook (B : Board) (S : Set) (s : List ℕ) (b : Book) : Type 0 where
  pub vertices : b.vertices ≡ B.vertices
  pub good : Good b
  pub mirrors : Mirrors B.vertices (parents_by b) (clusters B s)
  pub figures : Figured B S s (clusters B s) b.figure

-- From one book to another: the figures of its own clusters, if they were true of some supports, are true of these same supports still.
-- The supports may be ahead of the book, as in a growth, when they are raised and not every cluster is fused yet.
pub record KeepsTrue (b b' : Book) : Type 0 where
  pub figures :
      (B : Board) (S : Set) (s : List ℕ) → B.vertices ≡ b.vertices → Figured B S s (own_labels b) b.figure →
      Figured B S s (own_labels b') b'.figure

-- every vertex alone
pub record Fresh (n : ℕ) (opened syndrome x : List ℕ) (b : Book) : Type 0 where
  pub vertices : b.vertices ≡ n
  pub alone : EachAlone n b.tree
  pub figures : LoneFigures n opened syndrome x b.figure

-- the counts are those of the supports, and each vertex has a ring of its own
pub record Gatherable (n : ℕ) (ends opened syndrome s x ring : List ℕ) : Type 0 where
  pub lent : EndsWithin n (length s) ends
  pub open_bytes : length opened ≡ n
  pub lit : length syndrome ≡ n
  pub counts : Exposures (length s) ends (full s) x
  pub rings : LoneRings n ring

-- the book of the supports, and the rings of its clusters
pub record Gathers (B : Board) (S : Set) (s x : List ℕ) (b : Book) (ring : List ℕ) : Type 0 where
  pub book : TrueBook B S s b
  pub rings : Rings b.vertices (parents_by b) (lows_of b) x ring

-- v is one of the book's vertices
pub record Kept (b : Book) (v : ℕ) : Type 0 where
  pub good : Good b
  pub vertex : v < b.vertices

-- The root of v, with the way up to it compressed: so every vertex keeps its root, and every tree its size and what is kept of it.
pub record Finds (b : Book) (v : ℕ) (r : Found) : Type 0 where
  pub good : Good r.book
  pub vertices : r.book.vertices ≡ b.vertices
  pub sizes : (z : ℕ) → root_mark ≤ at b.tree z → at r.book.tree z ≡ at b.tree z
  pub figures : r.book.figure ≡ b.figure
  pub roots : (u : ℕ) → u < b.vertices → root_of (parents_by r.book) u ≡ root_of (parents_by b) u
  pub root : r.root.0 ≡ root_of (parents_by b) v
  pub compressed : Compressed (parents_by b) v (root_of (parents_by b) v) (parents_by r.book)

pub record BothKept (b : Book) (x y : ℕ) : Type 0 where
  pub good : Good b
  pub first : x < b.vertices
  pub second : y < b.vertices

-- The clusters of x and y are one, and the others stay: two vertices are together exactly where they were or each was in one of the two.
pub record Unites (b : Book) (x y : ℕ) (b' : Book) : Type 0 where
  pub good : Good b'
  pub vertices : b'.vertices ≡ b.vertices
  pub one :
      (u v : ℕ) → u < b.vertices → v < b.vertices →
      together b' u v ≡ (together b u v || ((together b u x || together b u y) && (together b v x || together b v y)))
  pub true_still : KeepsTrue b b'

-- `joined` says which root is hung under which: that of the smaller tree under that of the larger.
pub record Fuses (b : Book) (x y : ℕ) (r : Fused) : Type 0 where
  pub answer : r.joined ≡ joined (parents_by b) (sizes_of b.tree) x y
  pub hung : (child root : Vertex) → r.joined ≡ Hung child root → at (parents_by r.book) child.0 ≡ root.0
  pub unites : Unites b x y r.book

-- a book of the parts by the edges of some set F is then one of the parts by F and the first k listed edges
pub record FusesListed (b : Book) (ends filled : List ℕ) (k : ℕ) (b' : Book) : Type 0 where
  pub good : Good b'
  pub vertices : b'.vertices ≡ b.vertices
  pub each :
      (m : ℕ) (opened : List ℕ) (F : Set) → EndsWithin b.vertices m ends → ((i : ℕ) → i < k → get_or filled i 0 < m) →
      Mirrors b.vertices (parents_by b) (labels (unmarked b.vertices m ends opened) F) →
      Mirrors b.vertices (parents_by b') (labels (unmarked b.vertices m ends opened) (with_listed F k filled))
  pub true_still : KeepsTrue b b'

-- the book is that of the supports, with the rings of its clusters; the counts are theirs; what grows is named
pub record Growable (b : Book) (ends latest earlier : List ℕ) (r : Range ℕ) (s x ring filled : List ℕ) : Type 0 where
  pub lent : EndsWithin b.vertices (length s) ends
  pub lists : Listed ends latest earlier
  pub ordered : r.start ≤ r.end
  pub inside : r.end ≤ b.vertices
  pub supports : Supports s
  pub room : length filled ≡ edge_limit
  pub counts : Exposures (length s) ends (full s) x
  pub rings : Rings b.vertices (parents_by b) (lows_of b) x ring
  pub opened : List ℕ
  pub lit : Set
  pub book : TrueBook (unmarked b.vertices (length s) ends opened) lit s b

-- document 01's step 4: the supports after the clusters have grown, the book of these supports, whichever vertices are open or lit, with the
-- rings of its clusters, and how many edges became full
pub record Grows (b : Book) (ends : List ℕ) (r : Range ℕ) (s : List ℕ) (g : Grown) (s' x' ring' filled' : List ℕ) : Type 0 where
  pub supports :
      s' ≡ swell (plain b.vertices (length s) ends) s (growers (name_of (parents_by b) (lows_of b)) b.figure r.start r.end)
  pub book :
      (opened : List ℕ) (S : Set) → TrueBook (unmarked b.vertices (length s) ends opened) S s b →
      TrueBook (unmarked b.vertices (length s) ends opened) S s' g.book
  pub counts : Exposures (length s) ends (full s') x'
  pub rings : Rings g.book.vertices (parents_by g.book) (lows_of g.book) x' ring'
  pub filled : g.filled ≡ count_up_to (length s) (λ e. full s' e && not (full s e))
  pub room : length filled' ≡ edge_limit
