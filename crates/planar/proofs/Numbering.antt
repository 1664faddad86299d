-- Rows and columns of the planar board of side L: every edge has one of each, and what it joins are vertices. Assumes nothing.
use Prim.Native.Nat.{ℕ, ◌+◌, ◌*◌, ◌-◌, ◌/◌, ◌%◌, ◌≤◌, ◌<◌}
use native.Mathlib.Nat.{mod-lt, mul-le-mul, div-lt_iff_lt-mul, add-mul}
use native.Mathlib.Omega.{arith}
use lib.Arith.{digits_lt}
use Rattle.model.specs.Board.{vertex_limit, edge_limit}
use Rattle.model.specs.Planar.{largest_planar, planar_vertices, planar_at, planar_edges}

-- a board that is built has no more vertices and edges than a board may have
pub vertices_limit : (L : ℕ) → L ≤ largest_planar → planar_vertices L ≤ vertex_limit
vertices_limit L h =
    let more : L + 1 ≤ 32 = omega arith in omega (arith, mul-le-mul h more)

pub edges_limit : (L : ℕ) → L ≤ largest_planar → planar_edges L ≤ edge_limit
edges_limit L h =
    let less : L - 1 ≤ 30 = omega arith in omega (arith, mul-le-mul h h, mul-le-mul less less)

-- the place in row r and column c is a vertex, and so are those to its right and below it, where there is such a column or row
pub at_less : (L r c : ℕ) → r < L → c ≤ L → planar_at L r c < planar_vertices L
at_less L r c in_row in_column =
    let less : c < L + 1 = omega arith in digits_lt in_row less

pub right_less : (L r c : ℕ) → r < L → c < L → planar_at L r c + 1 < planar_vertices L
right_less L r c in_row in_column = omega (arith, at_less L r (c + 1) in_row (omega arith))

pub below_less : (L r c : ℕ) → r < L - 1 → c ≤ L → planar_at L r c + (L + 1) < planar_vertices L
below_less L r c in_row in_column =
    omega (arith, at_less L (r + 1) c (omega arith) in_column, add-mul r 1 (L + 1))

-- row and column of number e, of m² numbers that stand in rows of m: the edges along rows, of m = L, and those down columns, of m = L - 1
pub row_less : (m e : ℕ) → 0 < m → e < m * m → e / m < m
row_less m e some h = (div-lt_iff_lt-mul some).1 h

pub column_less : (m e : ℕ) → 0 < m → e % m < m
column_less m e some = mod-lt e some
