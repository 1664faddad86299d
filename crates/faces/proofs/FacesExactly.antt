-- The closed sets that do not wind are exactly those that are made up of faces (that these are closed is `made_up_closed` of FaceSums), and
-- each of them is made up in exactly two ways, each the complement of the other: one without face 0, which `face_of` tells, and one with it.
-- Assumes nothing.
use Prim.Native.Nat.{ℕ, zero, suc, ◌+◌, ◌*◌, ◌≤◌, ◌<◌}
use mathlib.Core.Path.{◌≡◌, refl, sym, ap, ap₂, ◌∙◌}
use mathlib.Core.Bool.{Bool, true, false, not, not-not}
use mathlib.Core.Logic.{◌↔◌, ◌⊎◌, inl, inr}
use native.Mathlib.Omega.{arith}
use Rattle.model.specs.Sums.{Set, ◌⊕◌}
use Rattle.model.specs.Winding.{closed, winds}
use Rattle.model.specs.Torus.{torus}
use Rattle.model.specs.Faces.{first_kind, second_kind, MakesUp, MadeOfFaces, complement, face_at, face_of}
use Rattle.theory.proofs.CrossedLines.{true_closed, unwound_unmarked}
use Rattle.theory.proofs.Totals.{xor_cancel}
use Rattle.torus.proofs.TorusRows.{inside}
use Rattle.torus.proofs.EveryEdge.{every_vertex}
use Rattle.faces.proofs.FaceSums.{face_sum_first_at, face_sum_second_at, complement_sum, made_up_unwound}
use Rattle.faces.proofs.FacesBack.{face_at_lem, faces_back}

pub faces_make_up : (L : ℕ) → 1 ≤ L → (D : Set) → closed (torus L) D ≡ true → winds (torus L) D ≡ false → MakesUp L (face_of L D) D
faces_make_up L some D shut unwound =
    let c = true_closed (torus L) D shut in faces_back L some D c (unwound_unmarked (torus L) D c unwound)

pub faces_exactly : (L : ℕ) → 1 ≤ L → (D : Set) → closed (torus L) D ≡ true → MadeOfFaces L D ↔ (winds (torus L) D ≡ false)
faces_exactly L some D shut =
    (λ m. made_up_unwound L some m.faces D m.make_up, λ unwound. record { faces = face_of L D; make_up = faces_make_up L some D shut unwound })

-- the complement makes up the same
complement_makes : (L : ℕ) → 1 ≤ L → (D f : Set) → MakesUp L f D → MakesUp L (complement f) D
complement_makes L some D f makes = record { at = λ e h. complement_sum L some f e h ∙ makes.at e h }

pub both_make_up : (L : ℕ) → 1 ≤ L → (D : Set) → closed (torus L) D ≡ true → winds (torus L) D ≡ false
    → MakesUp L (face_of L D) D × MakesUp L (complement (face_of L D)) D
both_make_up L some D shut unwound =
    let makes = faces_make_up L some D shut unwound in (makes, complement_makes L some D (face_of L D) makes)

-- a face is the one before it, changed where D has the edge between them
changed : (a b d : Bool) → a ⊕ b ≡ d → a ≡ b ⊕ d
changed a b d p = sym (xor_cancel b a) ∙ ap (λ t. b ⊕ t) p

module _ (L : ℕ) (some : 1 ≤ L) (D f : Set) (makes : MakesUp L f D) where
  down : (r c : ℕ) → suc r < L → c < L → f (suc r * L + c) ≡ f (r * L + c) ⊕ D (first_kind (suc r * L + c))
  down r c in_row in_column =
      changed (f (suc r * L + c)) (f (r * L + c)) (D (first_kind (suc r * L + c)))
      (sym (face_sum_first_at L some f (suc r) c in_row in_column)
      ∙ makes.at (first_kind (suc r * L + c)) (omega (arith, inside L (suc r) c in_row in_column)))

  along : (r c : ℕ) → r < L → suc c < L → f (r * L + suc c) ≡ f (r * L + c) ⊕ D (second_kind (r * L + suc c))
  along r c in_row in_column =
      changed (f (r * L + suc c)) (f (r * L + c)) (D (second_kind (r * L + suc c)))
      (sym (face_sum_second_at L some f r (suc c) in_row in_column)
      ∙ makes.at (second_kind (r * L + suc c)) (omega (arith, inside L r (suc c) in_row in_column)))

  face_told : f 0 ≡ false → (r c : ℕ) → r < L → c < L → f (r * L + c) ≡ face_at L D r c
  unfolding face_at
  face_told out zero zero in_row in_column = let here : 0 * L + 0 ≡ 0 = omega arith in ap f here ∙ out
  face_told out zero (suc c) in_row in_column =
      let here : 0 * L + suc c ≡ suc c = omega arith in
      along 0 c in_row in_column
      ∙ ap₂ (λ t i. t ⊕ D (second_kind i)) (face_told out zero c in_row (omega arith)) here
  face_told out (suc r) c in_row in_column =
      down r c in_row in_column ∙ ap (λ t. t ⊕ D (first_kind (suc r * L + c))) (face_told out r c (omega arith) in_column)

  pub faces_only : f 0 ≡ false → (i : ℕ) → i < L * L → f i ≡ face_of L D i
  faces_only out =
      every_vertex L some (λ i. f i ≡ face_of L D i)
      (λ r c in_row in_column. face_told out r c in_row in_column ∙ sym (face_at_lem L D r c in_row in_column))

pub faces_two : (L : ℕ) → 1 ≤ L → (D f : Set) → MakesUp L f D
    → ((i : ℕ) → i < L * L → f i ≡ face_of L D i) ⊎ ((i : ℕ) → i < L * L → f i ≡ complement (face_of L D) i)
faces_two L some D f makes = go (f 0) refl
  where
    go : (t : Bool) → f 0 ≡ t
        → ((i : ℕ) → i < L * L → f i ≡ face_of L D i) ⊎ ((i : ℕ) → i < L * L → f i ≡ complement (face_of L D) i)
    go false out = inl (faces_only L some D f makes out)
    go true taken =
        inr
        (λ i h.
        sym (not-not (f i))
        ∙ ap not (faces_only L some D (complement f) (complement_makes L some D f makes) (ap not taken) i h))
