-- The faces of a closed set face by face, in the order of their numbers: face 0 is not among them, each further face of the first row is
-- told by the one before it, and each face of a later row by the one above it.
-- Assumes nothing.
use Prim.Native.Nat.{ℕ, zero, suc, ◌+◌, ◌*◌, ◌-◌, ◌≤◌, ◌<◌}
use mathlib.Core.Path.{◌≡◌, sym, ap, ap₂, ◌∙◌}
use mathlib.Core.Bool.{false}
use native.Mathlib.Nat.{mod-eq_of_lt, div-eq_of_lt, add-div_right, add-mod_right, div-add-mod', suc-mul}
use native.Mathlib.Numerals.{add-one}
use native.Mathlib.Omega.{arith}
use Rattle.model.specs.Sums.{Set, ◌⊕◌}
use Rattle.model.specs.Torus.{row, column}
use Rattle.model.specs.Faces.{first_kind, second_kind, face_at, face_of}

module _ (L : ℕ) (D : Set) where
  -- the faces of the first row
  in_first_row : (i : ℕ) → i < L → face_of L D i ≡ face_at L D 0 i
  in_first_row i h = ap₂ (face_at L D) (div-eq_of_lt h) (mod-eq_of_lt h)

  pub face_0_out : 1 ≤ L → face_of L D 0 ≡ false
  unfolding face_at
  face_0_out some = in_first_row 0 some

  pub face_along : (i : ℕ) → 0 < i → i < L → face_of L D i ≡ face_of L D (i - 1) ⊕ D (second_kind i)
  unfolding face_at
  face_along zero some h = absurd (omega arith)
  face_along (suc i) some h =
      let before : suc i - 1 ≡ i = omega arith in
      in_first_row (suc i) h ∙ ap (λ t. t ⊕ D (second_kind (suc i))) (sym (ap (face_of L D) before ∙ in_first_row i (omega arith)))

  -- the face a whole row further
  row_further : 1 ≤ L → (i : ℕ) → face_of L D (i + L) ≡ face_of L D i ⊕ D (first_kind (i + L))
  unfolding face_at
  row_further some i =
      ap₂ (face_at L D) (add-div_right i some ∙ add-one (row L i)) (add-mod_right i L)
      ∙ ap (λ e. face_of L D i ⊕ D (first_kind e)) here
    where
      here : suc (row L i) * L + column L i ≡ i + L
      here = omega (arith, suc-mul (row L i) L, div-add-mod' i L)

  pub face_down : (i : ℕ) → 1 ≤ L → L ≤ i → face_of L D i ≡ face_of L D (i - L) ⊕ D (first_kind i)
  face_down i some h =
      let whole : i - L + L ≡ i = omega arith in
      ap (λ k. face_of L D k) (sym whole) ∙ row_further some (i - L) ∙ ap (λ k. face_of L D (i - L) ⊕ D (first_kind k)) whole
