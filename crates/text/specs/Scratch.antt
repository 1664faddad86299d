-- The arrays into which a text is read before anything lent is written: one for each lent buffer. No part of what a reader must believe:
-- inner contracts name it. Assumes nothing.
use Rattle.std.specs.Prelude.{ℕ, ◌+◌, ◌*◌, ◌≤◌, ◌<◌, ◌≡◌, List, length, get_or, take, set}
use Rattle.model.specs.Board.{Sheet, edges, vertex_limit, edge_limit}
use Rattle.model.specs.Text.{Line, V_line, E_line, O_line, S_line, X_line, Read, complete, refused, read_text}
use Rattle.model.specs.TextOutcomes.{Buffers, buffers_of, counts}
use Rattle.model.specs.Answers.{Reading}
use Rattle.text.specs.declared.store.Arrays.{Arrays}

-- the arrays as the lent buffers are taken, as one value
abbrev pub buffers_in : Arrays → Buffers
buffers_in a = buffers_of a.ends a.marks a.opened a.syndrome a.loss

-- there is room for the largest sheet
pub record Sized (b : Buffers) : Type 0 where
  pub ends_long : length b.ends ≡ 2 * edge_limit
  pub marks_long : length b.marks ≡ edge_limit
  pub open_long : length b.opened ≡ vertex_limit
  pub syndrome_long : length b.syndrome ≡ vertex_limit
  pub loss_long : length b.loss ≡ edge_limit

-- no vertex is open as yet, and none is in the syndrome
pub record Clear (b : Buffers) : Type 0 where
  pub shut : (v : ℕ) → get_or b.opened v 0 ≡ 0
  pub unlit : (v : ℕ) → get_or b.syndrome v 0 ≡ 0

-- a line that fits, after m edges
abbrev pub Storable : ℕ → Line → Type 0
Storable m (V_line n) = Unit {0}
Storable m (E_line u v k) = (m < edge_limit) × (k ≤ 3)
Storable m (O_line v) = v < vertex_limit
Storable m (S_line v) = v < vertex_limit
Storable m (X_line e) = e < edge_limit

-- what a line changes in the arrays, and the edge count after it
abbrev pub stored : ℕ → Line → Buffers → Buffers
stored m (V_line n) b = b
stored m (E_line u v k) b =
    buffers_of (set (set b.ends (2 * m) u) (2 * m + 1) v) (set b.marks m k) b.opened b.syndrome (set b.loss m 0)
stored m (O_line v) b = buffers_of b.ends b.marks (set b.opened v 1) b.syndrome b.loss
stored m (S_line v) b = buffers_of b.ends b.marks b.opened (set b.syndrome v 1) b.loss
stored m (X_line e) b = buffers_of b.ends b.marks b.opened b.syndrome (set b.loss e 1)

abbrev pub edges_with : ℕ → Line → ℕ
edges_with m (V_line n) = m
edges_with m (E_line u v k) = m + 1
edges_with m (O_line v) = m
edges_with m (S_line v) = m
edges_with m (X_line e) = m

pub record Stores (m : ℕ) (l : Line) (old : Buffers) (m' : ℕ) (new : Buffers) : Type 0 where
  pub count : m' ≡ edges_with m l
  pub arrays : new ≡ stored m l old

-- the arrays hold a sheet within the limits: its entries stand in front
pub record Holds (X : Sheet) (b : Buffers) : Type 0 where
  pub sized : Sized b
  pub vertices_limited : X.board.vertices ≤ vertex_limit
  pub edges_limited : edges X.board ≤ edge_limit
  pub ends_held : take (2 * edges X.board) b.ends ≡ X.board.ends
  pub marks_held : take (edges X.board) b.marks ≡ X.board.marks
  pub open_held : take X.board.vertices b.opened ≡ X.board.opened
  pub syndrome_held : take X.board.vertices b.syndrome ≡ X.syndrome
  pub loss_held : take (edges X.board) b.loss ≡ X.loss

abbrev pub Held : Read → Buffers → Type 0
Held (complete X) b = Holds X b
Held (refused n) b = Unit {0}

-- a text's lines read into the arrays, whatever they come to
pub record ReadsInto (text : List ℕ) (r : Reading) (b : Buffers) : Type 0 where
  pub result : r ≡ counts (read_text text)
  pub sized : Sized b
  pub held : Held (read_text text) b
