-- What peeling does to an edge, and what it leaves: the subset of the forest with given odd ends. Internal: decoding's own contract says
-- the same of its own result.
-- Assumes nothing.
use Rattle.std.specs.Prelude.{ℕ, ◌+◌, ◌*◌, ◌<◌, ◌≡◌, ◌≢◌, Bool, true, false, ◌&&◌, List, length, get_or, set}
use Rattle.model.specs.Sums.{Set, ◌⊕◌, ones, bytes, count_up_to}
use Rattle.model.specs.Board.{Board, EndsWithin, plain}
use Rattle.model.specs.Growth.{full, oddly_lit, clusters}
use Rattle.model.specs.Correction.{spanned}
use Rattle.union_find.specs.Trees.{at, under}
use Rattle.peeling.specs.TreeFlips.{odd_below, AllFlippable}

-- edge e of the forest may be cut: it has a byte, its ends may flip, and its link is a vertex
pub record Cuttable (ends parent : List ℕ) (below : List Bool) (written : List ℕ) (e link : ℕ) : Type 0 where
  pub vertices : ℕ
  pub board : EndsWithin vertices (length written) ends
  pub edge : e < length written
  pub flippable : AllFlippable vertices parent below
  pub vertex : link < vertices

-- an odd number of its two ends hangs at z or below
abbrev pub ends_under : List ℕ → List ℕ → ℕ → ℕ → Bool
ends_under ends parent e z = under parent z (get_or ends (2 * e) 0) ⊕ under parent z (get_or ends (2 * e + 1) 0)

-- its byte is 1 where it is in the correction, and otherwise stays
abbrev pub marked : Bool → ℕ → List ℕ → List ℕ
marked true e written = set written e 1
marked false e written = written

-- it is in the correction where what hangs at its link is odd, and then its two ends flip
pub record Cuts (ends parent : List ℕ) (below : List Bool) (written : List ℕ) (e link : ℕ) (r : Bool) (below' : List Bool)
    (written' : List ℕ) : Type 0 where
  pub answer : r ≡ odd_below below link
  pub bytes_are : written' ≡ marked (odd_below below link) e written
  pub same_length : length below' ≡ length below
  pub each : (z : ℕ) → at parent z ≢ z
      → odd_below below' z ≡ odd_below below z ⊕ (odd_below below link && ends_under ends parent e z)

-- the first n bytes are 0
pub record Clear (n : ℕ) (written : List ℕ) : Type 0 where
  pub each : (e : ℕ) → e < n → at written e ≡ 0

-- every byte is 0
pub record Clears (lent written : List ℕ) : Type 0 where
  pub same_length : length written ≡ length lent
  pub clear : Clear (length lent) written

-- every cluster of the full edges holds an even number of the odd ends
pub record EvenClusters (B : Board) (support odd_ends : List ℕ) : Type 0 where
  pub even : (a : ℕ) → a < B.vertices → oddly_lit B (clusters B support) (ones odd_ends) a ≡ false

-- What is lent, with a byte for each vertex that says whether it is an odd end, and a correction byte for each edge. Every cluster of the
-- full edges holds an even number of odd ends: otherwise no set of edges has them.
pub record Peelable (vertices : ℕ) (ends support odd_ends correction : List ℕ) : Type 0 where
  pub board : EndsWithin vertices (length support) ends
  pub end_bytes : length odd_ends ≡ vertices
  pub correction_bytes : length correction ≡ length support
  pub even : EvenClusters (plain vertices (length support) ends) support odd_ends

-- the subset of the forest of the full edges with these odd ends
abbrev pub correction_of : ℕ → List ℕ → List ℕ → List ℕ → Set
correction_of vertices ends support odd_ends = spanned (plain vertices (length support) ends) (full support) (ones odd_ends)

-- its size is returned, and it is written as bytes
pub record Peels (vertices : ℕ) (ends support odd_ends : List ℕ) (r : ℕ) (written : List ℕ) : Type 0 where
  pub count : r ≡ count_up_to (length support) (correction_of vertices ends support odd_ends)
  pub bytes_are : written ≡ bytes (length support) (correction_of vertices ends support odd_ends)
