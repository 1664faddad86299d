-- A closed set that crosses each line an even number of times is made up of faces: those that are told by going along the first row and
-- down each column. That the mark changes where an edge of the set is crossed holds down the columns by definition, and along each row
-- since it does along the one above and an even number of edges meets at each vertex; from the last row back to the first and from the last
-- column back to the first it holds since every column and every row has an even number of edges of the set to be crossed.
-- Assumes nothing.
use Prim.Native.Nat.{ℕ, zero, suc, ◌+◌, ◌*◌, ◌≤◌, ◌<◌}
use mathlib.Core.Path.{◌≡◌, sym, ap, ap₂, ◌∙◌}
use mathlib.Core.Bool.{Bool}
use native.Mathlib.Omega.{arith}
use Rattle.model.specs.Sums.{Set, ◌⊕◌}
use Rattle.model.specs.Torus.{torus}
use Rattle.model.specs.Faces.{first_kind, second_kind, face_sum, MakesUp, face_at, face_of}
use Rattle.model.proofs.Xor.{xor_assoc, xor_swap, xor_equal}
use Rattle.theory.proofs.Totals.{xor_cancel}
use Rattle.theory.proofs.CrossedLines.{line_a, line_b, Closed, Unmarked}
use Rattle.torus.proofs.TorusRows.{row_of, column_of}
use Rattle.torus.proofs.TorusCells.{prev, prev_less}
use Rattle.torus.proofs.Cycles.{round_back}
use Rattle.torus.proofs.Columns.{first_at, second_at, even_at, column_law, row_law}
use Rattle.torus.proofs.EveryEdge.{every_vertex, every_edge}
use Rattle.faces.proofs.FaceSums.{face_sum_first_at, face_sum_second_at}

-- what is added differs from the start by what was added
added : (a d : Bool) → (a ⊕ d) ⊕ a ≡ d
added a d = xor_assoc a d a ∙ xor_cancel a d

pub face_at_lem : (L : ℕ) (D : Set) (r c : ℕ) → r < L → c < L → face_of L D (r * L + c) ≡ face_at L D r c
face_at_lem L D r c in_row in_column = ap₂ (face_at L D) (row_of L r c in_row in_column) (column_of L r c in_row in_column)

module _ (L : ℕ) (some : 1 ≤ L) (D : Set) (shut : Closed (torus L) D) (even : Unmarked (torus L) D) where
  -- down each column, from row to row
  down : (r c : ℕ) → face_at L D (suc r) c ⊕ face_at L D r c ≡ first_at L D (suc r) c
  unfolding face_at
  down r c = added (face_at L D r c) (first_at L D (suc r) c)

  -- along each row, from column to column
  along : (r c : ℕ) → r < L → suc c < L → face_at L D r (suc c) ⊕ face_at L D r c ≡ second_at L D r (suc c)
  unfolding face_at
  along zero c in_row in_column =
      let here : 0 * L + suc c ≡ suc c = omega arith in
      added (face_at L D zero c) (D (second_kind (suc c))) ∙ ap (λ i. D (second_kind i)) (sym here)
  along (suc r) c in_row in_column =
      xor_swap (face_at L D r (suc c)) (first_at L D (suc r) (suc c)) (face_at L D r c) (first_at L D (suc r) c)
      ∙ ap (λ t. t ⊕ (first_at L D (suc r) (suc c) ⊕ first_at L D (suc r) c)) (along r c (omega arith) in_column)
      ∙ ap (λ t. second_at L D r (suc c) ⊕ t)
      (xor_equal (first_at L D (suc r) (suc c) ⊕ first_at L D (suc r) c) (second_at L D (suc r) (suc c) ⊕ second_at L D r (suc c))
      (even_at L some D shut (suc r) (suc c) in_row in_column))
      ∙ xor_cancel (second_at L D r (suc c)) (second_at L D (suc r) (suc c))

  -- and from the last row, the last column, back to the first
  down_round : (c r : ℕ) → c < L → r < L → face_at L D r c ⊕ face_at L D (prev L r) c ≡ first_at L D r c
  down_round c r in_column in_row =
      round_back L (λ r. face_at L D r c) (λ r. first_at L D r c)
      (λ r h. down r c)
      (column_law L some D shut c in_column ∙ even line_a)
      r in_row

  along_round : (r c : ℕ) → r < L → c < L → face_at L D r c ⊕ face_at L D r (prev L c) ≡ second_at L D r c
  along_round r c in_row in_column =
      round_back L (λ c. face_at L D r c) (λ c. second_at L D r c)
      (λ c h. along r c in_row h)
      (row_law L some D shut r in_row ∙ even line_b)
      c in_column

  pub faces_back : MakesUp L (face_of L D) D
  faces_back =
      record {
        at =
            every_edge (L * L) (λ e. face_sum L (face_of L D) e ≡ D e)
            (every_vertex L some (λ v. face_sum L (face_of L D) (first_kind v) ≡ D (first_kind v)) first)
            (every_vertex L some (λ v. face_sum L (face_of L D) (second_kind v) ≡ D (second_kind v)) second);
      }
    where
      first : (r c : ℕ) → r < L → c < L → face_sum L (face_of L D) (first_kind (r * L + c)) ≡ D (first_kind (r * L + c))
      first r c in_row in_column =
          face_sum_first_at L some (face_of L D) r c in_row in_column
          ∙ ap₂ ◌⊕◌ (face_at_lem L D r c in_row in_column) (face_at_lem L D (prev L r) c (prev_less L r some in_row) in_column)
          ∙ down_round c r in_column in_row

      second : (r c : ℕ) → r < L → c < L → face_sum L (face_of L D) (second_kind (r * L + c)) ≡ D (second_kind (r * L + c))
      second r c in_row in_column =
          face_sum_second_at L some (face_of L D) r c in_row in_column
          ∙ ap₂ ◌⊕◌ (face_at_lem L D r c in_row in_column) (face_at_lem L D r (prev L c) in_row (prev_less L c some in_column))
          ∙ along_round r c in_row in_column
