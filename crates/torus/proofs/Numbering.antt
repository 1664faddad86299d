-- Rows and columns of the torus of side L: every vertex has one of each, and so has each of its neighbours.
-- Assumes nothing.
use Prim.Native.Nat.{ℕ, ◌+◌, ◌*◌, ◌≤◌, ◌<◌}
use native.Mathlib.Nat.{mod-lt, mul-le-mul, div-lt_iff_lt-mul}
use lib.Arith.{digits_lt}
use Rattle.model.specs.Board.{vertex_limit}
use Rattle.model.specs.Torus.{largest_side, row, column, right_of, below}

pub row_less : (L v : ℕ) → 0 < L → v < L * L → row L v < L
row_less L v some h = (div-lt_iff_lt-mul some).1 h

pub right_less : (L v : ℕ) → 0 < L → v < L * L → right_of L v < L * L
right_less L v some h = digits_lt (row_less L v some h) (mod-lt (column L v + 1) some)

pub below_less : (L v : ℕ) → 0 < L → below L v < L * L
below_less L v some = digits_lt (mod-lt (row L v + 1) some) (mod-lt v some)

-- a torus that is built has no more vertices than a board may have, so each neighbour's number is within the limit
pub square_limit : (L : ℕ) → L ≤ largest_side → L * L ≤ vertex_limit
square_limit L h = mul-le-mul h h
