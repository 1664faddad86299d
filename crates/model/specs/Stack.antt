-- Document 02, K1: the torus of side L, read in R rounds, as one board of R layers (source document 000, section 6), and the syndrome that
-- its readings make.
-- Assumes nothing.
use Rattle.std.specs.Prelude.{ℕ, zero, suc, ◌+◌, ◌*◌, ◌-◌, ◌/◌, ◌%◌, cond, List, eqb, ltb}
use Rattle.model.specs.Sums.{Set, ◌⊕◌, values, ones, bytes}
use Rattle.model.specs.Board.{Board, without_open}
use Rattle.model.specs.Torus.{torus_from, torus_to, torus_mark}

-- Each of the layers 0 to R - 1 has the vertices and the edges of one torus.
abbrev pub layer_vertices : ℕ → ℕ
layer_vertices L = L * L

abbrev pub layer_edges : ℕ → ℕ
layer_edges L = 2 * (L * L)

abbrev pub stack_vertices : ℕ → ℕ → ℕ
stack_vertices L R = R * layer_vertices L

-- The edges of all layers come first, then those from each layer but the last to the next one.
abbrev pub flat_edges : ℕ → ℕ → ℕ
flat_edges L R = R * layer_edges L

abbrev pub stack_edges : ℕ → ℕ → ℕ
stack_edges L R = flat_edges L R + (R - 1) * layer_vertices L

-- vertex v of the torus, in layer k
abbrev pub vertex_in : ℕ → ℕ → ℕ → ℕ
vertex_in L k v = k * layer_vertices L + v

-- An edge of the stack: edge e of the torus in layer k, or the edge from vertex v in layer k to vertex v in layer k + 1.
pub data StackEdge : Type 0 where
  flat : ℕ → ℕ → StackEdge
  upright : ℕ → ℕ → StackEdge

-- its number
abbrev pub edge_number : ℕ → ℕ → StackEdge → ℕ
edge_number L R (flat k e) = k * layer_edges L + e
edge_number L R (upright k v) = flat_edges L R + vertex_in L k v

-- the edge with number i
abbrev pub stack_edge : ℕ → ℕ → ℕ → StackEdge
stack_edge L R i =
    let j = i - flat_edges L R in
    cond (ltb i (flat_edges L R)) (flat (i / layer_edges L) (i % layer_edges L)) (upright (j / layer_vertices L) (j % layer_vertices L))

-- Its ends, in this order: those of the torus in its layer, or the vertex in the lower layer and the one above it.
abbrev pub lower_end : ℕ → StackEdge → ℕ
lower_end L (flat k e) = vertex_in L k (torus_from e)
lower_end L (upright k v) = vertex_in L k v

abbrev pub upper_end : ℕ → StackEdge → ℕ
upper_end L (flat k e) = vertex_in L k (torus_to L e)
upper_end L (upright k v) = vertex_in L (k + 1) v

-- its mark: that of the torus, and 0 between layers
abbrev pub edge_mark : ℕ → StackEdge → ℕ
edge_mark L (flat k e) = torus_mark L e
edge_mark L (upright k v) = 0

-- entry i of the ends: both ends of edge i / 2, one after the other
abbrev pub stack_end : ℕ → ℕ → ℕ → ℕ
stack_end L R i = cond (eqb (i % 2) 0) (lower_end L (stack_edge L R (i / 2))) (upper_end L (stack_edge L R (i / 2)))

abbrev pub stack_mark : ℕ → ℕ → ℕ → ℕ
stack_mark L R i = edge_mark L (stack_edge L R i)

unfoldable pub stack_ends : ℕ → ℕ → List ℕ
stack_ends L R = values (2 * stack_edges L R) (stack_end L R)

unfoldable pub stack_marks : ℕ → ℕ → List ℕ
stack_marks L R = values (stack_edges L R) (stack_mark L R)

-- no vertex of it is open
unfoldable pub stack : ℕ → ℕ → Board
stack L R = without_open (stack_vertices L R) (stack_ends L R) (stack_marks L R)

-- Readings are a byte for each stacked vertex: what was read at vertex v in round k.
abbrev pub read_at : ℕ → List ℕ → ℕ → Set
read_at L readings k v = ones readings (vertex_in L k v)

-- A layer's syndrome is its reading, exclusive or the previous one; layer 0 keeps its own.
abbrev pub layer_syndrome : ℕ → List ℕ → ℕ → Set
layer_syndrome L readings zero v = read_at L readings 0 v
layer_syndrome L readings (suc k) v = read_at L readings (suc k) v ⊕ read_at L readings k v

unfoldable pub stack_syndrome : ℕ → ℕ → List ℕ → List ℕ
stack_syndrome L R readings =
    bytes (stack_vertices L R) (λ u. layer_syndrome L readings (u / layer_vertices L) (u % layer_vertices L))
