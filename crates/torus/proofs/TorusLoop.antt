-- The L edges of the first kind in row 0 of the torus wind: they lead once around the row, so that an even number of them meets at every
-- vertex, and only the last of them crosses line A. Assumes nothing.
use Prim.Native.Nat.{ℕ, ◌+◌, ◌*◌, ◌-◌, ◌/◌, ◌%◌, ◌≤◌}
use mathlib.Core.Path.{◌≡◌, sym, ap, ap₂, ◌∙◌}
use mathlib.Core.Bool.{true, false, ◌&&◌}
use native.Mathlib.Nat.{le_refl, mul-le-mul, mod-lt, div-eq_of_lt, div-lt_iff_lt-mul}
use native.Mathlib.Decide.{dec_lt}
use native.Mathlib.Omega.{arith}
use borrow.Author.Tests.{lt-ltb, le-ltb, eq-eqb, ne_eqb}
use lib.Arith.{digits_div}
use lib.Dec.{eqb, ltb}
use Rattle.model.specs.Sums.{Set, ◌⊕◌, count_up_to}
use Rattle.model.specs.Winding.{size}
use Rattle.model.specs.Torus.{row, column, torus}
use Rattle.model.specs.Faces.{first_kind, second_kind}
use Rattle.model.proofs.Xor.{xor_self}
use Rattle.model.proofs.SumLaws.{count_cong, count_none}
use Rattle.model.proofs.CountLaws.{count_front, count_halves}
use Rattle.theory.proofs.OddMembers.{odd_one}
use Rattle.theory.proofs.CrossedLines.{line_a, Closed, crosses_oddly, marked_winds}
use Rattle.theory.proofs.Distances.{LoopOf}
use Rattle.torus.proofs.Edges.{even, odd, half_even}
use Rattle.torus.proofs.TorusRows.{edge_count}
use Rattle.torus.proofs.TorusCells.{left_of, above_of, prev_less}
use Rattle.torus.proofs.TorusStar.{torus_star}
use Rattle.torus.proofs.TorusLines.{line_A}

-- the edges of the first kind in row 0
abbrev row_zero : ℕ → Set
row_zero L e = eqb (e % 2) 0 && eqb (row L (e / 2)) 0

row_first : (L v : ℕ) → row_zero L (first_kind v) ≡ eqb (row L v) 0
row_first L v = rw (even v, half_even v)

row_second : (L v : ℕ) → row_zero L (second_kind v) ≡ false
row_second L v = rw (odd v)

module _ (L : ℕ) (some : 1 ≤ L) where
  -- the vertex to the left is in the same row
  row_left : (v : ℕ) → row L (left_of L v) ≡ row L v
  row_left v = digits_div (row L v) (prev_less L (column L v) some (mod-lt v some))

  -- the edges to the right and from the left of a vertex are both in row 0, or neither is
  row_closed : Closed (torus L) (row_zero L)
  unfolding torus
  row_closed =
      record {
        at = λ v h.
            torus_star L some (row_zero L) v h
            ∙ ap₂ ◌⊕◌
            (ap₂ ◌⊕◌ (row_first L v) (row_first L (left_of L v) ∙ ap (λ r. eqb r 0) (row_left v)) ∙ xor_self (eqb (row L v) 0))
            (ap₂ ◌⊕◌ (row_second L v) (row_second L (above_of L v)));
      }

  -- of the edges from the last column to the first, one is in row 0
  row_crosses : crosses_oddly (torus L) line_a (row_zero L) ≡ true
  row_crosses =
      line_A L some (row_zero L)
      ∙ odd_one L 0 (λ r. row_zero L (first_kind (r * L + (L - 1)))) some (λ r h apart. in_row r ∙ ne_eqb r 0 (λ q. apart (sym q)))
      ∙ in_row 0
    where
      in_row : (r : ℕ) → row_zero L (first_kind (r * L + (L - 1))) ≡ eqb r 0
      in_row r = row_first L (r * L + (L - 1)) ∙ ap (λ i. eqb i 0) (digits_div r (omega arith))

  -- the vertices of row 0 are the first L
  row_front : (v : ℕ) → eqb (row L v) 0 ≡ ltb v L
  row_front v =
      elim (dec_lt v L) [
        | yes l ↦ eq-eqb (row L v) 0 (div-eq_of_lt l) ∙ sym (lt-ltb v L l)
        | no l ↦
            ne_eqb (row L v) 0 (λ q. omega (arith, (div-lt_iff_lt-mul {x = v} {y = 1} some).0 (omega arith)))
            ∙ sym (le-ltb v L (omega arith))
      ]

  row_count : size (torus L) (row_zero L) ≡ L
  row_count =
      ap (λ m. count_up_to m (row_zero L)) (edge_count L)
      ∙ count_halves (L * L) (row_zero L)
      ∙ omega (
        arith,
        count_cong (L * L) (λ v. row_zero L (2 * v)) (λ v. ltb v L) (λ v h. row_first L v ∙ row_front v),
        count_front (L * L) L (omega (arith, mul-le-mul some (le_refl L))),
        count_none (L * L) (λ v. row_zero L (2 * v + 1)) (λ v h. row_second L v),
      )

  -- a winding loop of L edges
  pub row_loop : LoopOf (torus L) L
  row_loop =
      record {
        set = row_zero L;
        holds = marked_winds (torus L) (row_zero L) line_a row_closed row_crosses;
        count = row_count;
      }
