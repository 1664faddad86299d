-- On a torus of side L a closed set crosses every column as often as the last one, modulo 2, and every row as often as the last row: the
-- sum over a column of what meets its vertices is the sum of the edges into that column and out of it, for those along the column cancel.
-- So the edges of the first kind in any column tell how a closed set crosses line A, and those of the second kind in any row how it crosses
-- line B.
-- Assumes nothing.
use Prim.Native.Nat.{ℕ, zero, suc, ◌+◌, ◌*◌, ◌-◌, ◌≤◌, ◌<◌}
use mathlib.Core.Path.{◌≡◌, sym, ap, ap₂, ◌∙◌}
use mathlib.Core.Bool.{Bool, false}
use native.Mathlib.Omega.{arith}
use Rattle.model.specs.Sums.{Set, ◌⊕◌, odd_up_to}
use Rattle.model.specs.Torus.{torus}
use Rattle.model.specs.Faces.{first_kind, second_kind}
use Rattle.model.proofs.Xor.{xor_false, xor_comm, xor_equal}
use Rattle.model.proofs.SumLaws.{odd_none, odd_xor}
use Rattle.theory.proofs.CrossedLines.{Closed, line_a, line_b, crosses_oddly}
use Rattle.torus.proofs.TorusRows.{inside}
use Rattle.torus.proofs.TorusCells.{prev, left_at, above_at}
use Rattle.torus.proofs.Cycles.{odd_round}
use Rattle.torus.proofs.TorusStar.{torus_star}
use Rattle.torus.proofs.TorusLines.{line_A, line_B}

-- Grids of L rows and L columns with edges h along rows and v along columns, of which an even number meets at every place: all columns
-- have the same parity of edges along rows.
module _ (L : ℕ) (some : 1 ≤ L) (h v : ℕ → ℕ → Bool)
    (even : (r c : ℕ) → r < L → c < L → (h r c ⊕ h r (prev L c)) ⊕ (v r c ⊕ v (prev L r) c) ≡ false) where
  column_before : (c : ℕ) → c < L → odd_up_to L (λ r. h r c) ≡ odd_up_to L (λ r. h r (prev L c))
  column_before c in_column =
      xor_equal (odd_up_to L (λ r. h r c)) (odd_up_to L (λ r. h r (prev L c)))
      (sym (odd_xor L (λ r. h r c) (λ r. h r (prev L c)))
      ∙ sym (xor_false (odd_up_to L (λ r. h r c ⊕ h r (prev L c))))
      ∙ ap (λ t. odd_up_to L (λ r. h r c ⊕ h r (prev L c)) ⊕ t) (sym (odd_round L some (λ r. v r c)))
      ∙ sym (odd_xor L (λ r. h r c ⊕ h r (prev L c)) (λ r. v r c ⊕ v (prev L r) c))
      ∙ odd_none L (λ r. (h r c ⊕ h r (prev L c)) ⊕ (v r c ⊕ v (prev L r) c)) (λ r in_row. even r c in_row in_column))

  column_last : (c : ℕ) → c < L → odd_up_to L (λ r. h r c) ≡ odd_up_to L (λ r. h r (L - 1))
  column_last zero in_column = column_before 0 in_column
  column_last (suc c) in_column = column_before (suc c) in_column ∙ column_last c (omega arith)

-- D has the edge of the first kind, of the second kind, in row r and column c
abbrev pub first_at : ℕ → Set → ℕ → ℕ → Bool
first_at L D r c = D (first_kind (r * L + c))

abbrev pub second_at : ℕ → Set → ℕ → ℕ → Bool
second_at L D r c = D (second_kind (r * L + c))

module _ (L : ℕ) (some : 1 ≤ L) (D : Set) (shut : Closed (torus L) D) where
  -- an even number of edges of D meets in row r and column c
  pub even_at : (r c : ℕ) → r < L → c < L
      → (first_at L D r c ⊕ first_at L D r (prev L c)) ⊕ (second_at L D r c ⊕ second_at L D (prev L r) c) ≡ false
  unfolding torus
  even_at r c in_row in_column =
      ap₂ (λ x y. (first_at L D r c ⊕ D (first_kind x)) ⊕ (second_at L D r c ⊕ D (second_kind y)))
      (sym (left_at L r c in_row in_column))
      (sym (above_at L r c in_row in_column))
      ∙ sym (torus_star L some D (r * L + c) (inside L r c in_row in_column))
      ∙ shut.at (r * L + c) (inside L r c in_row in_column)

  pub column_law : (c : ℕ) → c < L → odd_up_to L (λ r. D (first_kind (r * L + c))) ≡ crosses_oddly (torus L) line_a D
  column_law c in_column = column_last L some (first_at L D) (second_at L D) even_at c in_column ∙ sym (line_A L some D)

  pub row_law : (r : ℕ) → r < L → odd_up_to L (λ c. D (second_kind (r * L + c))) ≡ crosses_oddly (torus L) line_b D
  row_law r in_row =
      column_last L some (λ c r. second_at L D r c) (λ c r. first_at L D r c) even_across r in_row ∙ sym (line_B L some D)
    where
      even_across : (c r : ℕ) → c < L → r < L
          → (second_at L D r c ⊕ second_at L D (prev L r) c) ⊕ (first_at L D r c ⊕ first_at L D r (prev L c)) ≡ false
      even_across c r in_column in_row =
          xor_comm (second_at L D r c ⊕ second_at L D (prev L r) c) (first_at L D r c ⊕ first_at L D r (prev L c))
          ∙ even_at r c in_row in_column
