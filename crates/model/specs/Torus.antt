-- Document 01, "Distance and torus", and document 02, K3: the torus of side L (source document 000, section 1; numbering of document 01).
-- That of side 1 has one vertex and two loop edges there, the first across line A, the second across line B.
-- Assumes nothing.
use Rattle.std.specs.Prelude.{ℕ, ◌+◌, ◌*◌, ◌-◌, ◌/◌, ◌%◌, cond, List, eqb}
use Rattle.model.specs.Sums.{values}
use Rattle.model.specs.Board.{Board, without_open}

-- the sides of the tori that are built
abbrev pub least_side : ℕ
least_side = 1

abbrev pub largest_side : ℕ
largest_side = 32

-- the row r and the column c of vertex v = rL + c
abbrev pub row : ℕ → ℕ → ℕ
row L v = v / L

abbrev pub column : ℕ → ℕ → ℕ
column L v = v % L

-- Edge 2v goes from v to its right neighbour (in column c + 1), edge 2v + 1 to its neighbour below (in row r + 1), both modulo L.
abbrev pub right_of : ℕ → ℕ → ℕ
right_of L v = row L v * L + (column L v + 1) % L

abbrev pub below : ℕ → ℕ → ℕ
below L v = (row L v + 1) % L * L + column L v

abbrev pub torus_from : ℕ → ℕ
torus_from e = e / 2

abbrev pub torus_to : ℕ → ℕ → ℕ
torus_to L e = cond (eqb (e % 2) 0) (right_of L (e / 2)) (below L (e / 2))

-- Edge 2v has mark 1 where it leads from the last column to the first, edge 2v + 1 mark 2 where it leads from the last row to the first.
-- All other marks are 0.
abbrev pub torus_mark : ℕ → ℕ → ℕ
torus_mark L e =
    cond (eqb (e % 2) 0) (cond (eqb (column L (e / 2)) (L - 1)) 1 0) (cond (eqb (row L (e / 2)) (L - 1)) 2 0)

-- entry i of the ends: both ends of edge i / 2, one after the other
abbrev pub torus_end : ℕ → ℕ → ℕ
torus_end L i = cond (eqb (i % 2) 0) (torus_from (i / 2)) (torus_to L (i / 2))

-- the two edges of each of the L² vertices: 4L² ends and 2L² marks
unfoldable pub torus_ends : ℕ → List ℕ
torus_ends L = values (4 * (L * L)) (torus_end L)

unfoldable pub torus_marks : ℕ → List ℕ
torus_marks L = values (2 * (L * L)) (torus_mark L)

-- no vertex of it is open
unfoldable pub torus : ℕ → Board
torus L = without_open (L * L) (torus_ends L) (torus_marks L)
