-- Document 01, "Board and loops", and document 02, K3 and K5: what a board is (a multigraph whose edges carry marks, and of whose vertices
-- some may be open), and when what is lent is valid.
-- Assumes nothing.
use Rattle.std.specs.Prelude.{ℕ, ◌+◌, ◌*◌, ◌≤◌, ◌<◌, ◌≡◌, true, false, List, [], length, get_or, replicate}
use Rattle.model.specs.Sums.{Set, ones}

-- A multigraph on the vertices 0, 1, .., vertices - 1. Edge e joins entries 2e and 2e + 1 of `ends`, and its mark is entry e of `marks`.
-- Parallel edges are allowed, and so are loop edges, whose two ends are one vertex. Vertex v is open where entry v of `opened` is 1.
pub record Board : Type 0 where
  pub vertices : ℕ
  pub ends : List ℕ
  pub marks : List ℕ
  pub opened : List ℕ

-- what is lent, slice by slice, as one board: a vertex count, ends, marks and open bytes
abbrev pub board_of : ℕ → List ℕ → List ℕ → List ℕ → Board
board_of n ends marks opened = record { vertices = n; ends = ends; marks = marks; opened = opened }

-- a board without open vertices: every open byte is 0
abbrev pub without_open : ℕ → List ℕ → List ℕ → Board
without_open n ends marks = board_of n ends marks (replicate n 0)

abbrev pub edges : Board → ℕ
edges B = length B.marks

abbrev pub first_end : Board → ℕ → ℕ
first_end B e = get_or B.ends (2 * e) 0

abbrev pub second_end : Board → ℕ → ℕ
second_end B e = get_or B.ends (2 * e + 1) 0

-- e is a loop edge (K3): its two ends are one vertex
abbrev pub LoopEdge : Board → ℕ → Type 0
LoopEdge B e = first_end B e ≡ second_end B e

-- the mark of edge e, 0 to 3: bit 0 is 1 where e crosses line A, bit 1 is 1 where it crosses line B
abbrev pub mark : Board → ℕ → ℕ
mark B e = get_or B.marks e 0

-- v is open (K5): an error may run off the board there
abbrev pub is_open : Board → Set
is_open B = ones B.opened

-- the limits: 1 to 1,024 vertices, 0 to 4,096 edges
abbrev pub vertex_limit : ℕ
vertex_limit = 1024

abbrev pub edge_limit : ℕ
edge_limit = 4096

-- m edges have their ends, two for each, among n vertices, and both counts are within the limits
pub record EndsWithin (n m : ℕ) (ends : List ℕ) : Type 0 where
  pub vertices_limited : n ≤ vertex_limit
  pub edges_limited : m ≤ edge_limit
  pub two_ends : length ends ≡ 2 * m
  pub first_in_range : (e : ℕ) → e < m → get_or ends (2 * e) 0 < n
  pub second_in_range : (e : ℕ) → e < m → get_or ends (2 * e + 1) 0 < n

-- so it is with the board's own
abbrev pub Inside : Board → Type 0
Inside B = EndsWithin B.vertices (edges B) B.ends

-- Open bytes and syndrome bytes (one for each vertex), loss bytes and handed-in bytes (one for each edge): n of them, each 0 or 1.
pub record ValidBytes (n : ℕ) (l : List ℕ) : Type 0 where
  pub count : length l ≡ n
  pub each : (i : ℕ) → i < n → get_or l i 0 ≤ 1

-- a board that breaks none of the rules 1 to 4, 6 and 16
pub record Valid (B : Board) : Type 0 where
  pub some_vertex : 1 ≤ B.vertices
  pub inside : Inside B
  pub mark_in_range : (e : ℕ) → e < edges B → mark B e ≤ 3
  pub open_bytes : ValidBytes B.vertices B.opened

-- The board of n vertices and m edges with these ends and open bytes whose marks are all 0. What looks at no marks (parts, growth, forests)
-- is stated of it inside the crates, and holds with any marks (theory, `MarksAside`); no product call's contract names it.
abbrev pub unmarked : ℕ → ℕ → List ℕ → List ℕ → Board
unmarked n m ends opened = board_of n ends (replicate m 0) opened

-- The same without open bytes, for what looks at neither (trees, forests); no product call's contract names it.
abbrev pub plain : ℕ → ℕ → List ℕ → Board
plain n m ends = unmarked n m ends []

-- What is lent for decoding: a board, its syndrome bytes and its loss bytes (the erasure of source document 000).
pub record Sheet : Type 0 where
  pub board : Board
  pub syndrome : List ℕ
  pub loss : List ℕ

-- what is lent, slice by slice, as one sheet: a board with its syndrome bytes and its loss bytes
abbrev pub sheet_of : Board → List ℕ → List ℕ → Sheet
sheet_of B syndrome loss = record { board = B; syndrome = syndrome; loss = loss }

-- no open vertex is in the syndrome
abbrev pub Unlit : Board → Set → Type 0
Unlit B S = (v : ℕ) → v < B.vertices → is_open B v ≡ true → S v ≡ false

-- a sheet that breaks none of the rules of a board, nor 7, 8 and 17
pub record ValidSheet (X : Sheet) : Type 0 where
  pub board : Valid X.board
  pub syndrome : ValidBytes X.board.vertices X.syndrome
  pub loss : ValidBytes (edges X.board) X.loss
  pub unlit : Unlit X.board (ones X.syndrome)
