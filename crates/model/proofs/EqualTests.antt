-- Tests for equality: two of them are one where the equations follow from each other. Assumes nothing.
use Prim.Native.Nat.{ℕ}
use mathlib.Core.Path.{◌≡◌, sym, ◌∙◌}
use native.Mathlib.Decide.{ℕ_discrete}
use borrow.Author.Tests.{eq-eqb, ne_eqb}
use lib.Dec.{eqb}

pub eqb_alike : (a b x y : ℕ) → (a ≡ b → x ≡ y) → (x ≡ y → a ≡ b) → eqb a b ≡ eqb x y
eqb_alike a b x y to from =
    elim (ℕ_discrete a b) [
      | yes q ↦ eq-eqb a b q ∙ sym (eq-eqb x y (to q))
      | no q ↦ ne_eqb a b q ∙ sym (ne_eqb x y (λ r. q (from r)))
    ]

pub eqb_turned : (a b : ℕ) → eqb a b ≡ eqb b a
eqb_turned a b = eqb_alike a b b a sym sym
