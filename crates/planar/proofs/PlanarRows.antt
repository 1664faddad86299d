-- The planar board by rows and columns. The vertex in row r, 0 to L - 1, and in column c, 0 to L, is r(L + 1) + c, and it is open where c
-- is 0 or L. Edge rL + c leads from it to column c + 1 and has mark 1 where c = 0; edge L² + r(L - 1) + c - 1, where c is 1 to L - 1, leads
-- to row r + 1 and has mark 0. Assumes nothing.
use Prim.Native.Nat.{ℕ, ◌+◌, ◌*◌, ◌-◌, ◌/◌, ◌%◌, ◌≤◌, ◌<◌}
use mathlib.Core.Path.{◌≡◌, refl, ap, ◌∙◌}
use mathlib.Core.Bool.{Bool, true, false, ◌&&◌, ◌||◌}
use native.Mathlib.Nat.{add-mul}
use native.Mathlib.Omega.{arith}
use borrow.Author.Tests.{lt-ltb}
use lib.ListN.{length, get_or}
use lib.Arith.{digits_lt, digits_div, digits_mod}
use lib.Dec.{eqb}
use Rattle.model.specs.Sums.{bit}
use Rattle.model.specs.Board.{edges, first_end, second_end, mark, is_open}
use Rattle.model.specs.Winding.{crosses_a, crosses_b}
use Rattle.model.specs.Planar.{planar_vertices, planar_at, planar_edges, along_row, planar_from, planar_to, planar_mark, planar_open, planar_end, planar_ends, planar_marks, planar_opens, planar}
use Rattle.model.proofs.Bits.{eqb_bit}
use Rattle.model.proofs.ListLaws.{length_values, get_d_values}
use Rattle.torus.proofs.TorusRows.{inside, row_of, column_of}
use Rattle.planar.proofs.Edges.{first_end_lem, second_end_lem, from_along, to_along, from_down, to_down, down_unmarked}

-- the counts; the ends and the mark of each edge, and what is open, are read off the definition
pub end_count : (L : ℕ) → length (planar L).ends ≡ 2 * planar_edges L
unfolding planar planar_ends
end_count L = length_values (2 * planar_edges L) (planar_end L)

pub edge_count : (L : ℕ) → edges (planar L) ≡ planar_edges L
unfolding planar planar_marks
edge_count L = length_values (planar_edges L) (planar_mark L)

pub open_count : (L : ℕ) → length (planar L).opened ≡ planar_vertices L
unfolding planar planar_opens
open_count L = length_values (planar_vertices L) (planar_open L)

pub first_is : (L e : ℕ) → e < planar_edges L → first_end (planar L) e ≡ planar_from L e
unfolding planar planar_ends
first_is L e h = get_d_values (2 * planar_edges L) (planar_end L) (2 * e) 0 (omega arith) ∙ first_end_lem L e

pub second_is : (L e : ℕ) → e < planar_edges L → second_end (planar L) e ≡ planar_to L e
unfolding planar planar_ends
second_is L e h = get_d_values (2 * planar_edges L) (planar_end L) (2 * e + 1) 0 (omega arith) ∙ second_end_lem L e

pub mark_is : (L e : ℕ) → e < planar_edges L → mark (planar L) e ≡ planar_mark L e
unfolding planar planar_marks
mark_is L e h = get_d_values (planar_edges L) (planar_mark L) e 0 h

-- line A is crossed where the mark is 1, line B nowhere
pub crosses_A : (L e : ℕ) → e < planar_edges L → crosses_a (planar L) e ≡ (along_row L e && eqb (e % L) 0)
crosses_A L e h = ap (λ n. eqb (n % 2) 1) (mark_is L e h) ∙ low (along_row L e && eqb (e % L) 0)
  where
    low : (b : Bool) → eqb (bit b % 2) 1 ≡ b
    low true = refl
    low false = refl

pub crosses_B : (L e : ℕ) → e < planar_edges L → crosses_b (planar L) e ≡ false
crosses_B L e h = ap (λ n. eqb (n / 2 % 2) 1) (mark_is L e h) ∙ high (along_row L e && eqb (e % L) 0)
  where
    high : (b : Bool) → eqb (bit b / 2 % 2) 1 ≡ false
    high true = refl
    high false = refl

pub open_is : (L v : ℕ) → v < planar_vertices L → get_or (planar L).opened v 0 ≡ planar_open L v
unfolding planar planar_opens
open_is L v h = get_d_values (planar_vertices L) (planar_open L) v 0 h

-- a vertex is open where its column is the first or the last
pub open_column : (L v : ℕ) → v < planar_vertices L → is_open (planar L) v ≡ (eqb (v % (L + 1)) 0 || eqb (v % (L + 1)) L)
open_column L v h = rw (open_is L v h) (eqb_bit (eqb (v % (L + 1)) 0 || eqb (v % (L + 1)) L))

pub open_at : (L r c : ℕ) → r < L → c ≤ L → is_open (planar L) (planar_at L r c) ≡ (eqb c 0 || eqb c L)
open_at L r c in_row in_column =
    let less : c < L + 1 = omega arith in rw (open_column L (planar_at L r c) (digits_lt in_row less), digits_mod r less)

-- the edge along row r from column c to column c + 1
module _ (L r c : ℕ) (in_row : r < L) (in_column : c < L) where
  here : r * L + c < L * L
  here = inside L r c in_row in_column

  pub along_from : first_end (planar L) (r * L + c) ≡ planar_at L r c
  along_from =
      first_is L (r * L + c) (omega (arith, here))
      ∙ from_along L (r * L + c) here
      ∙ rw (row_of L r c in_row in_column, column_of L r c in_row in_column)

  pub along_to : second_end (planar L) (r * L + c) ≡ planar_at L r (c + 1)
  along_to =
      second_is L (r * L + c) (omega (arith, here))
      ∙ to_along L (r * L + c) here
      ∙ rw (row_of L r c in_row in_column, column_of L r c in_row in_column) (omega arith)

  pub along_mark : mark (planar L) (r * L + c) ≡ bit (eqb c 0)
  along_mark =
      mark_is L (r * L + c) (omega (arith, here)) ∙ rw (lt-ltb (r * L + c) (L * L) here, column_of L r c in_row in_column)

-- the edge down the inner column c from row r to row r + 1
module _ (L r c : ℕ) (in_row : r < L - 1) (from_one : 1 ≤ c) (in_column : c < L) where
  below_first : c - 1 < L - 1
  below_first = omega arith

  within : L * L + r * (L - 1) + c - 1 < planar_edges L
  within = omega (arith, digits_lt in_row below_first)

  down : L * L ≤ L * L + r * (L - 1) + c - 1
  down = omega arith

  past : L * L + r * (L - 1) + c - 1 - L * L ≡ r * (L - 1) + (c - 1)
  past = omega arith

  pub down_from : first_end (planar L) (L * L + r * (L - 1) + c - 1) ≡ planar_at L r c
  down_from =
      first_is L (L * L + r * (L - 1) + c - 1) within
      ∙ from_down L (L * L + r * (L - 1) + c - 1) down
      ∙ rw (past, digits_div r below_first, digits_mod r below_first) (omega arith)

  pub down_to : second_end (planar L) (L * L + r * (L - 1) + c - 1) ≡ planar_at L (r + 1) c
  down_to =
      second_is L (L * L + r * (L - 1) + c - 1) within
      ∙ to_down L (L * L + r * (L - 1) + c - 1) down
      ∙ rw (past, digits_div r below_first, digits_mod r below_first) (omega (arith, add-mul r 1 (L + 1)))

  pub down_mark : mark (planar L) (L * L + r * (L - 1) + c - 1) ≡ 0
  down_mark = mark_is L (L * L + r * (L - 1) + c - 1) within ∙ down_unmarked L (L * L + r * (L - 1) + c - 1) down
