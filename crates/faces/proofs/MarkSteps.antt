-- The marks of faces as the code makes them, one after the other: that of each face from one before it.
-- Assumes nothing.
use Prim.Native.Nat.{ℕ, ◌-◌, ◌≤◌, ◌<◌}
use mathlib.Core.Path.{◌≡◌, refl, sym, ap, ◌∙◌}
use mathlib.Core.List.{List}
use native.Mathlib.Omega.{arith}
use lib.Dec.{eqb}
use lib.ListN.{length, get_or, set}
use Rattle.model.specs.Sums.{Set, ◌⊕◌, bit, ones}
use Rattle.model.specs.Winding.{together}
use Rattle.model.specs.Faces.{first_kind, second_kind, face_of}
use Rattle.model.proofs.Bits.{eqb_bit}
use Rattle.torus.specs.Filling.{Filled}
use Rattle.torus.proofs.Filling.{filled_none, filled_more}
use Rattle.faces.specs.Marks.{MarkedBefore}
use Rattle.faces.proofs.FaceSteps.{face_0_out, face_along, face_down}

-- face 0 has no mark
pub starts_unmarked : (L : ℕ) (D : Set) (l : List ℕ) (x : ℕ) → 1 ≤ L → 0 < length l → x ≡ 0 → Filled (λ k. bit (face_of L D k)) 1 (set l 0 x)
starts_unmarked L D l x some long unmarked = filled_more 0 x (filled_none _ l) refl long (unmarked ∙ sym (ap bit (face_0_out L D some)))

module _ (L : ℕ) (handed correction faces : List ℕ) (i : ℕ) (w : MarkedBefore L handed correction faces i) where
  abbrev D : Set
  D = together (ones handed) (ones correction)

  -- an earlier mark, as a bit
  earlier : (k : ℕ) → k < i → eqb (get_or faces k 0) 1 ≡ face_of L D k
  earlier k h = ap (λ x. eqb x 1) (w.marks.at k h) ∙ eqb_bit (face_of L D k)

  -- in row 0, and further down
  pub mark_along : (x : ℕ) → i < L → x ≡ bit (eqb (get_or faces (i - 1) 0) 1 ⊕ D (second_kind i)) → x ≡ bit (face_of L D i)
  mark_along x first crossed =
      crossed
      ∙ ap (λ t. bit (t ⊕ D (second_kind i))) (earlier (i - 1) (omega (arith, w.later)))
      ∙ ap bit (sym (face_along L D i w.later first))

  pub mark_down : (x : ℕ) → L ≤ i → x ≡ bit (eqb (get_or faces (i - L) 0) 1 ⊕ D (first_kind i)) → x ≡ bit (face_of L D i)
  mark_down x further crossed =
      crossed
      ∙ ap (λ t. bit (t ⊕ D (first_kind i))) (earlier (i - L) (omega (arith, w.later, w.side.least)))
      ∙ ap bit (sym (face_down L D i w.side.least further))
