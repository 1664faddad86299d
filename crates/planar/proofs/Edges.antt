-- The planar board edge by edge, first the L² edges along rows, then those down inner columns.
-- Assumes nothing.
use Prim.Native.Nat.{ℕ, ◌+◌, ◌*◌, ◌-◌, ◌/◌, ◌%◌, ◌≤◌, ◌<◌}
use mathlib.Core.Path.{◌≡◌}
use native.Mathlib.Decide.{dec_lt}
use native.Mathlib.Omega.{arith}
use borrow.Author.Tests.{lt-ltb, le-ltb, eq-eqb, ne_eqb}
use Rattle.model.specs.Planar.{least_planar, planar_vertices, planar_edges, planar_at, planar_from, planar_to, planar_mark, planar_end}
use Rattle.planar.proofs.Numbering.{right_less, below_less, row_less, column_less}

-- the entries of both ends
pub first_end_lem : (L e : ℕ) → planar_end L (2 * e) ≡ planar_from L e
first_end_lem L e =
    let half : 2 * e / 2 ≡ e = omega arith in
    rw (eq-eqb (2 * e % 2) 0 (omega arith), half)

pub second_end_lem : (L e : ℕ) → planar_end L (2 * e + 1) ≡ planar_to L e
second_end_lem L e =
    let half : (2 * e + 1) / 2 ≡ e = omega arith in
    rw (ne_eqb ((2 * e + 1) % 2) 0 (λ q. omega arith), half)

-- an edge along a row leads from column c to column c + 1
module _ (L e : ℕ) (along : e < L * L) where
  pub from_along : planar_from L e ≡ planar_at L (e / L) (e % L)
  from_along = rw (lt-ltb e (L * L) along)

  pub to_along : planar_to L e ≡ planar_at L (e / L) (e % L) + 1
  to_along = rw (lt-ltb e (L * L) along)

-- an edge down an inner column leads from row r to row r + 1
module _ (L e : ℕ) (down : L * L ≤ e) where
  pub from_down : planar_from L e ≡ planar_at L ((e - L * L) / (L - 1)) ((e - L * L) % (L - 1) + 1)
  from_down = rw (le-ltb e (L * L) down)

  pub to_down : planar_to L e ≡ planar_at L ((e - L * L) / (L - 1)) ((e - L * L) % (L - 1) + 1) + (L + 1)
  to_down = rw (le-ltb e (L * L) down)

-- so the larger end of an edge is a vertex, and the smaller one too
pub to_less : (L e : ℕ) → least_planar ≤ L → e < planar_edges L → planar_to L e < planar_vertices L
to_less L e least h =
    elim (dec_lt e (L * L)) [
      | yes a ↦ rw (to_along L e a) (along a)
      | no n ↦ let d : L * L ≤ e = omega arith in rw (to_down L e d) (down d)
    ]
  where
    along : e < L * L → planar_at L (e / L) (e % L) + 1 < planar_vertices L
    along a = right_less L (e / L) (e % L) (row_less L e (omega arith) a) (column_less L e (omega arith))

    down : L * L ≤ e → planar_at L ((e - L * L) / (L - 1)) ((e - L * L) % (L - 1) + 1) + (L + 1) < planar_vertices L
    down d =
        below_less L ((e - L * L) / (L - 1)) ((e - L * L) % (L - 1) + 1)
        (row_less (L - 1) (e - L * L) (omega arith) (omega arith))
        (omega (arith, column_less (L - 1) (e - L * L) (omega arith)))

pub from_less : (L e : ℕ) → least_planar ≤ L → e < planar_edges L → planar_from L e < planar_vertices L
from_less L e least h = omega (arith, to_less L e least h)

-- no edge down a column is marked
pub down_unmarked : (L e : ℕ) → L * L ≤ e → planar_mark L e ≡ 0
down_unmarked L e down = rw (le-ltb e (L * L) down)
