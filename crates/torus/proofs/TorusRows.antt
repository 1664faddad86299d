-- The torus by rows and columns. The vertex in row r and column c is rL + c. Edge 2(rL + c) leads from it to row r and column c + 1, edge
-- 2(rL + c) + 1 to row r + 1 and column c, both modulo L. The first has mark 1 where c = L - 1, the second mark 2 where r = L - 1, and
-- every other mark is 0. Assumes nothing.
use Prim.Native.Nat.{ℕ, ◌+◌, ◌*◌, ◌-◌, ◌%◌, ◌<◌}
use mathlib.Core.Path.{◌≡◌, ◌∙◌}
use mathlib.Core.Bool.{cond}
use native.Mathlib.Omega.{arith}
use lib.ListN.{length}
use lib.Arith.{digits_lt, digits_div, digits_mod}
use lib.Dec.{eqb}
use Rattle.model.specs.Board.{edges, first_end, second_end, mark}
use Rattle.model.specs.Torus.{row, column, torus_from, torus_to, torus_mark, torus_end, torus_ends, torus_marks, torus}
use Rattle.model.proofs.ListLaws.{length_values, get_d_values}
use Rattle.torus.proofs.Edges.{first_end_lem, second_end_lem, right_to, below_to, right_mark, below_mark}

-- a torus of side L has 4L² ends and 2L² edges; the ends and the mark of each edge are read off the definition
pub end_count : (L : ℕ) → length (torus L).ends ≡ 4 * (L * L)
unfolding torus torus_ends
end_count L = length_values (4 * (L * L)) (torus_end L)

pub edge_count : (L : ℕ) → edges (torus L) ≡ 2 * (L * L)
unfolding torus torus_marks
edge_count L = length_values (2 * (L * L)) (torus_mark L)

pub first_is : (L e : ℕ) → e < 2 * (L * L) → first_end (torus L) e ≡ torus_from e
unfolding torus torus_ends
first_is L e h = get_d_values (4 * (L * L)) (torus_end L) (2 * e) 0 (omega arith) ∙ first_end_lem L e

pub second_is : (L e : ℕ) → e < 2 * (L * L) → second_end (torus L) e ≡ torus_to L e
unfolding torus torus_ends
second_is L e h = get_d_values (4 * (L * L)) (torus_end L) (2 * e + 1) 0 (omega arith) ∙ second_end_lem L e

pub mark_is : (L e : ℕ) → e < 2 * (L * L) → mark (torus L) e ≡ torus_mark L e
unfolding torus torus_marks
mark_is L e h = get_d_values (2 * (L * L)) (torus_mark L) e 0 h

module _ (L r c : ℕ) (in_row : r < L) (in_column : c < L) where
  pub inside : r * L + c < L * L
  inside = digits_lt in_row in_column

  pub row_of : row L (r * L + c) ≡ r
  row_of = digits_div r in_column

  pub column_of : column L (r * L + c) ≡ c
  column_of = digits_mod r in_column

  pub first_from : first_end (torus L) (2 * (r * L + c)) ≡ r * L + c
  first_from = first_is L (2 * (r * L + c)) (omega (arith, inside)) ∙ omega arith

  pub first_to : second_end (torus L) (2 * (r * L + c)) ≡ r * L + (c + 1) % L
  first_to =
      second_is L (2 * (r * L + c)) (omega (arith, inside)) ∙ right_to L (r * L + c)
      ∙ rw (row_of, column_of)

  pub first_mark : mark (torus L) (2 * (r * L + c)) ≡ cond (eqb c (L - 1)) 1 0
  first_mark =
      mark_is L (2 * (r * L + c)) (omega (arith, inside)) ∙ right_mark L (r * L + c) ∙ rw column_of

  pub second_from : first_end (torus L) (2 * (r * L + c) + 1) ≡ r * L + c
  second_from = first_is L (2 * (r * L + c) + 1) (omega (arith, inside)) ∙ omega arith

  pub second_to : second_end (torus L) (2 * (r * L + c) + 1) ≡ (r + 1) % L * L + c
  second_to =
      second_is L (2 * (r * L + c) + 1) (omega (arith, inside)) ∙ below_to L (r * L + c)
      ∙ rw (row_of, column_of)

  pub second_mark : mark (torus L) (2 * (r * L + c) + 1) ≡ cond (eqb r (L - 1)) 2 0
  second_mark =
      mark_is L (2 * (r * L + c) + 1) (omega (arith, inside)) ∙ below_mark L (r * L + c) ∙ rw row_of
