-- The edges of the torus that cross its lines: line A those of the first kind in the last column, line B those of the second kind in the
-- last row.
-- Assumes nothing.
use Prim.Native.Nat.{ℕ, ◌+◌, ◌*◌, ◌-◌, ◌/◌, ◌%◌, ◌≤◌, ◌<◌}
use mathlib.Core.Path.{◌≡◌, refl, ap, ap₂, ◌∙◌}
use mathlib.Core.Bool.{Bool, true, false, cond, ◌&&◌, and_comm, and-false}
use native.Mathlib.Omega.{arith}
use lib.Dec.{eqb}
use Rattle.model.specs.Sums.{Set, ◌⊕◌, odd_up_to}
use Rattle.model.specs.Torus.{torus}
use Rattle.model.specs.Faces.{first_kind, second_kind}
use Rattle.model.proofs.Xor.{xor_false}
use Rattle.model.proofs.EqualTests.{eqb_turned}
use Rattle.model.proofs.SumLaws.{odd_cong, odd_none, odd_xor, odd_and, odd_at, odd_blocks, odd_pairs}
use Rattle.theory.proofs.CrossedLines.{Line, line_a, line_b, crosses, crosses_oddly}
use Rattle.torus.proofs.TorusRows.{edge_count, first_mark, second_mark}

-- edge e is in D and crosses line x
abbrev crossing : ℕ → Line → Set → Set
crossing L x D e = D e && crosses (torus L) x e

-- what is summed over all edges, kind by kind and row by row
by_rows : (L : ℕ) (x : Line) (D : Set) → crosses_oddly (torus L) x D
    ≡ odd_up_to L (λ r. odd_up_to L (λ c. crossing L x D (first_kind (r * L + c))))
    ⊕ odd_up_to L (λ r. odd_up_to L (λ c. crossing L x D (second_kind (r * L + c))))
unfolding crosses_oddly
by_rows L x D =
    ap (λ m. odd_up_to m (crossing L x D)) (edge_count L)
    ∙ odd_pairs (L * L) (crossing L x D)
    ∙ odd_xor (L * L) (λ i. crossing L x D (first_kind i)) (λ i. crossing L x D (second_kind i))
    ∙ ap₂ ◌⊕◌ (odd_blocks L L (λ i. crossing L x D (first_kind i))) (odd_blocks L L (λ i. crossing L x D (second_kind i)))

module _ (L r c : ℕ) (in_row : r < L) (in_column : c < L) where
  first_A : crosses (torus L) line_a (first_kind (r * L + c)) ≡ eqb (L - 1) c
  first_A = ap (λ m. eqb (m % 2) 1) (first_mark L r c in_row in_column) ∙ go (eqb c (L - 1)) ∙ eqb_turned c (L - 1)
    where
      go : (t : Bool) → eqb (cond t 1 0 % 2) 1 ≡ t
      go true = refl
      go false = refl

  second_A : crosses (torus L) line_a (second_kind (r * L + c)) ≡ false
  second_A = ap (λ m. eqb (m % 2) 1) (second_mark L r c in_row in_column) ∙ go (eqb r (L - 1))
    where
      go : (t : Bool) → eqb (cond t 2 0 % 2) 1 ≡ false
      go true = refl
      go false = refl

  first_B : crosses (torus L) line_b (first_kind (r * L + c)) ≡ false
  first_B = ap (λ m. eqb (m / 2 % 2) 1) (first_mark L r c in_row in_column) ∙ go (eqb c (L - 1))
    where
      go : (t : Bool) → eqb (cond t 1 0 / 2 % 2) 1 ≡ false
      go true = refl
      go false = refl

  second_B : crosses (torus L) line_b (second_kind (r * L + c)) ≡ eqb (L - 1) r
  second_B = ap (λ m. eqb (m / 2 % 2) 1) (second_mark L r c in_row in_column) ∙ go (eqb r (L - 1)) ∙ eqb_turned r (L - 1)
    where
      go : (t : Bool) → eqb (cond t 2 0 / 2 % 2) 1 ≡ t
      go true = refl
      go false = refl

-- a kind that does not cross the line adds nothing
none_cross : (L : ℕ) (x : Line) (D : Set) (kind : ℕ → ℕ)
    → ((r c : ℕ) → r < L → c < L → crosses (torus L) x (kind (r * L + c)) ≡ false)
    → odd_up_to L (λ r. odd_up_to L (λ c. crossing L x D (kind (r * L + c)))) ≡ false
none_cross L x D kind out =
    odd_none L (λ r. odd_up_to L (λ c. crossing L x D (kind (r * L + c))))
    (λ r in_row.
    odd_none L (λ c. crossing L x D (kind (r * L + c)))
    (λ c in_column. ap (λ t. D (kind (r * L + c)) && t) (out r c in_row in_column) ∙ and-false (D (kind (r * L + c)))))

module _ (L : ℕ) (some : 1 ≤ L) (D : Set) where
  pub line_A : crosses_oddly (torus L) line_a D ≡ odd_up_to L (λ r. D (first_kind (r * L + (L - 1))))
  line_A =
      by_rows L line_a D
      ∙ ap₂ ◌⊕◌
      (odd_cong L (λ r. odd_up_to L (λ c. crossing L line_a D (first_kind (r * L + c))))
      (λ r. D (first_kind (r * L + (L - 1)))) each_row)
      (none_cross L line_a D second_kind (second_A L))
      ∙ xor_false (odd_up_to L (λ r. D (first_kind (r * L + (L - 1)))))
    where
      each_row : (r : ℕ) → r < L
          → odd_up_to L (λ c. crossing L line_a D (first_kind (r * L + c))) ≡ D (first_kind (r * L + (L - 1)))
      each_row r in_row =
          odd_cong L (λ c. crossing L line_a D (first_kind (r * L + c)))
          (λ c. D (first_kind (r * L + c)) && eqb (L - 1) c)
          (λ c in_column. ap (λ t. D (first_kind (r * L + c)) && t) (first_A L r c in_row in_column))
          ∙ odd_at L (L - 1) (λ c. D (first_kind (r * L + c))) (omega arith)

  pub line_B : crosses_oddly (torus L) line_b D ≡ odd_up_to L (λ c. D (second_kind ((L - 1) * L + c)))
  line_B =
      by_rows L line_b D
      ∙ ap₂ ◌⊕◌ (none_cross L line_b D first_kind (first_B L))
      (odd_cong L (λ r. odd_up_to L (λ c. crossing L line_b D (second_kind (r * L + c))))
      (λ r. odd_up_to L (λ c. D (second_kind (r * L + c))) && eqb (L - 1) r) each_row
      ∙ odd_at L (L - 1) (λ r. odd_up_to L (λ c. D (second_kind (r * L + c)))) (omega arith))
    where
      each_row : (r : ℕ) → r < L
          → odd_up_to L (λ c. crossing L line_b D (second_kind (r * L + c)))
          ≡ (odd_up_to L (λ c. D (second_kind (r * L + c))) && eqb (L - 1) r)
      each_row r in_row =
          odd_cong L (λ c. crossing L line_b D (second_kind (r * L + c)))
          (λ c. eqb (L - 1) r && D (second_kind (r * L + c)))
          (λ c in_column.
          ap (λ t. D (second_kind (r * L + c)) && t) (second_B L r c in_row in_column)
          ∙ and_comm (D (second_kind (r * L + c))) (eqb (L - 1) r))
          ∙ odd_and L (eqb (L - 1) r) (λ c. D (second_kind (r * L + c)))
          ∙ and_comm (eqb (L - 1) r) (odd_up_to L (λ c. D (second_kind (r * L + c))))
