-- Only the faces of the torus and its edges matter: of a set of faces for what it makes up, and of a set of edges for its faces.
-- Assumes nothing.
use Prim.Native.Nat.{ℕ, zero, suc, ◌+◌, ◌*◌, ◌≤◌, ◌<◌}
use mathlib.Core.Path.{◌≡◌, refl, ap, ap₂, ◌∙◌}
use mathlib.Core.Bool.{◌&&◌}
use native.Mathlib.Nat.{mul-le-mul, le_refl, mod-lt}
use native.Mathlib.Omega.{arith}
use Rattle.model.specs.Sums.{Set, ◌⊕◌, bit, ones}
use Rattle.model.specs.Torus.{row, column}
use Rattle.model.specs.Faces.{first_kind, second_kind, in_face, face_sum, MakesUp, face_at, face_of, face_bytes}
use Rattle.model.proofs.SumLaws.{odd_cong}
use Rattle.model.proofs.ListLaws.{values_cong, ones_bytes}
use Rattle.torus.proofs.Numbering.{row_less}
use Rattle.torus.proofs.TorusRows.{inside}

sum_cong : (L : ℕ) (f g : Set) → ((i : ℕ) → i < L * L → f i ≡ g i) → (e : ℕ) → face_sum L f e ≡ face_sum L g e
unfolding face_sum
sum_cong L f g same e =
    odd_cong (L * L) (λ i. f i && in_face L i e) (λ i. g i && in_face L i e) (λ i h. ap (λ t. t && in_face L i e) (same i h))

-- the bytes of a set's faces make it up where its faces do
pub bytes_make_up : (L : ℕ) (D : Set) → MakesUp L (face_of L D) D → MakesUp L (ones (face_bytes L D)) D
unfolding face_bytes
bytes_make_up L D makes =
    record {
      at = λ e h. sum_cong L (ones (face_bytes L D)) (face_of L D) (ones_bytes (L * L) (face_of L D)) e ∙ makes.at e h;
    }

module _ (L : ℕ) (D E : Set) (same : (e : ℕ) → e < 2 * (L * L) → D e ≡ E e) where
  at_cong : (r c : ℕ) → r < L → c < L → face_at L D r c ≡ face_at L E r c
  unfolding face_at
  at_cong zero zero in_row in_column = refl
  at_cong zero (suc c) in_row in_column =
      ap₂ ◌⊕◌ (at_cong zero c in_row (omega arith))
      (same (second_kind (suc c)) (omega (arith, mul-le-mul (le_refl L) in_row)))
  at_cong (suc r) c in_row in_column =
      ap₂ ◌⊕◌ (at_cong r c (omega arith) in_column)
      (same (first_kind (suc r * L + c)) (omega (arith, inside L (suc r) c in_row in_column)))

  pub face_bytes_cong : 1 ≤ L → face_bytes L D ≡ face_bytes L E
  unfolding face_bytes
  face_bytes_cong some =
      values_cong (L * L) (λ i. bit (face_of L D i)) (λ i. bit (face_of L E i))
      (λ i h. ap bit (at_cong (row L i) (column L i) (row_less L i some h) (mod-lt i some)))
