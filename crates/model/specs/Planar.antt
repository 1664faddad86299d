-- Document 02, K5: the planar board of side L, whose columns 0 and L are open.
-- Assumes nothing.
use Rattle.std.specs.Prelude.{ℕ, ◌+◌, ◌*◌, ◌-◌, ◌/◌, ◌%◌, Bool, cond, ◌&&◌, ◌||◌, List, eqb, ltb}
use Rattle.model.specs.Sums.{bit, values}
use Rattle.model.specs.Board.{Board, board_of}

-- the sides of the planar boards that are built
abbrev pub least_planar : ℕ
least_planar = 2

abbrev pub largest_planar : ℕ
largest_planar = 31

-- Vertex r(L + 1) + c stands in row r, 0 to L - 1, and in column c, 0 to L.
abbrev pub planar_vertices : ℕ → ℕ
planar_vertices L = L * (L + 1)

abbrev pub planar_at : ℕ → ℕ → ℕ → ℕ
planar_at L r c = r * (L + 1) + c

-- An edge leads from a vertex to its right neighbour, where c is 0 to L - 1, or from a vertex of an inner column, where c is 1 to L - 1, to
-- the one below it, where r is 0 to L - 2.
abbrev pub planar_edges : ℕ → ℕ
planar_edges L = L * L + (L - 1) * (L - 1)

-- the L² edges along rows come first
abbrev pub along_row : ℕ → ℕ → Bool
along_row L e = ltb e (L * L)

-- Edge rL + c begins at (r, c), and edge L² + r(L - 1) + c - 1 too.
abbrev pub planar_from : ℕ → ℕ → ℕ
planar_from L e =
    let k = e - L * L in
    cond (along_row L e) (planar_at L (e / L) (e % L)) (planar_at L (k / (L - 1)) (k % (L - 1) + 1))

-- The first ends at the vertex to the right, the second at the one below: each edge's smaller end comes first.
abbrev pub planar_to : ℕ → ℕ → ℕ
planar_to L e = planar_from L e + cond (along_row L e) 1 (L + 1)

-- an edge along a row has mark 1 where c = 0; all other marks are 0
abbrev pub planar_mark : ℕ → ℕ → ℕ
planar_mark L e = bit (along_row L e && eqb (e % L) 0)

-- columns 0 and L are open
abbrev pub planar_open : ℕ → ℕ → ℕ
planar_open L v = bit (eqb (v % (L + 1)) 0 || eqb (v % (L + 1)) L)

-- entry i of the ends: both ends of edge i / 2, one after the other
abbrev pub planar_end : ℕ → ℕ → ℕ
planar_end L i = cond (eqb (i % 2) 0) (planar_from L (i / 2)) (planar_to L (i / 2))

unfoldable pub planar_ends : ℕ → List ℕ
planar_ends L = values (2 * planar_edges L) (planar_end L)

unfoldable pub planar_marks : ℕ → List ℕ
planar_marks L = values (planar_edges L) (planar_mark L)

unfoldable pub planar_opens : ℕ → List ℕ
planar_opens L = values (planar_vertices L) (planar_open L)

unfoldable pub planar : ℕ → Board
planar L = board_of (planar_vertices L) (planar_ends L) (planar_marks L) (planar_opens L)
