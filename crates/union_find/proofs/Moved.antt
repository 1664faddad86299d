-- One number put in another's place, as in joining two trees or two labels: which numbers become equal. Assumes nothing.
use Prim.Native.Nat.{ℕ}
use mathlib.Core.Path.{◌≡◌, refl, sym, ◌∙◌}
use mathlib.Core.Logic.{◌≢◌}
use mathlib.Core.Bool.{◌&&◌, ◌||◌, and-true, or-false, or_self}
use native.Mathlib.Decide.{ℕ_discrete}
use borrow.Author.Tests.{eq-eqb, ne_eqb}
use lib.Dec.{eqb}
use Rattle.model.proofs.EqualTests.{eqb_turned}
use Rattle.union_find.specs.Trees.{moved}

pub moved_here : (x y : ℕ) → moved x y x ≡ y
moved_here x y = rw (eq-eqb x x refl)

pub moved_other : (x y r : ℕ) → r ≢ x → moved x y r ≡ r
moved_other x y r q = rw (ne_eqb r x q)

-- what goes to y came from x or y
pub moved_target : (x y r : ℕ) → eqb (moved x y r) y ≡ (eqb r x || eqb r y)
moved_target x y r =
    elim (ℕ_discrete r x) [
      | yes q ↦ rw (eq-eqb r x q, eq-eqb y y refl)
      | no q ↦ rw (ne_eqb r x q)
    ]

-- what goes elsewhere was there
pub moved_elsewhere : (x y r z : ℕ) → z ≢ x → z ≢ y → eqb (moved x y r) z ≡ eqb r z
moved_elsewhere x y r z zx zy =
    elim (ℕ_discrete r x) [
      | yes q ↦ rw (eq-eqb r x q) (ne_eqb y z (λ w. zy (sym w)) ∙ sym (ne_eqb r z (λ w. zx (sym w ∙ q))))
      | no q ↦ rw (ne_eqb r x q)
    ]

pub both_same : (y r z : ℕ) → eqb r z ≡ (eqb r z || (eqb r y && eqb z y))
both_same y r z =
    elim (ℕ_discrete r y) [
      | yes q ↦ rw (eq-eqb r y q, q, eqb_turned y z) (sym (or_self (eqb z y)))
      | no q ↦ rw (ne_eqb r y q) (sym (or-false (eqb r z)))
    ]

-- two numbers become equal exactly where they were, or each was x or y
pub moved_same : (x y r z : ℕ) → eqb (moved x y r) (moved x y z) ≡ (eqb r z || ((eqb r x || eqb r y) && (eqb z x || eqb z y)))
moved_same x y r z =
    elim (ℕ_discrete r x) [
      | yes q ↦ elim (ℕ_discrete z x) [
        | yes w ↦ rw (eq-eqb r x q, eq-eqb z x w, eq-eqb y y refl, eq-eqb r z (q ∙ sym w))
        | no w ↦ rw (eq-eqb r x q, ne_eqb z x w, ne_eqb r z (λ e. w (sym e ∙ q))) (eqb_turned y z)
      ]
      | no q ↦ elim (ℕ_discrete z x) [
        | yes w ↦ rw (ne_eqb r x q, eq-eqb z x w, ne_eqb r z (λ e. q (e ∙ w))) (sym (and-true (eqb r y)))
        | no w ↦ rw (ne_eqb r x q, ne_eqb z x w) (both_same y r z)
      ]
    ]
