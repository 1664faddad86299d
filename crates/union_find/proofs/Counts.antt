-- Counts below a bound: of what is somewhere, and of two sets that have nothing in common. Assumes nothing.
use Prim.Native.Nat.{ℕ, zero, suc, ◌+◌, ◌≤◌, ◌<◌}
use mathlib.Core.Path.{◌≡◌, refl, sym, ap, ◌∙◌}
use mathlib.Core.Bool.{Bool, true, false, ◌||◌}
use native.Mathlib.Nat.{le_refl, not-suc-le-zero}
use native.Mathlib.Omega.{arith}
use borrow.Author.Tests.{eq-eqb, ne_eqb}
use lib.Dec.{eqb}
use Rattle.model.specs.Sums.{Set, bit, count_up_to}
use Rattle.model.proofs.SumLaws.{below_suc, count_none}

pub count_some : (n i : ℕ) (f : Set) → i < n → f i ≡ true → 1 ≤ count_up_to n f
unfolding count_up_to
count_some zero i f h p = absurd (not-suc-le-zero h)
count_some (suc n) i f h p =
    below_suc n i h
    (λ l. omega (arith, count_some n i f l p))
    (λ q. omega (arith, ap bit (sym (ap f q) ∙ p)))

pub count_disjoint : (n : ℕ) (f g : Set) → ((i : ℕ) → i < n → f i ≡ true → g i ≡ true → ⊥)
    → count_up_to n (λ i. f i || g i) ≡ count_up_to n f + count_up_to n g
unfolding count_up_to
count_disjoint zero f g apart = refl
count_disjoint (suc n) f g apart =
    omega (arith, count_disjoint n f g (λ i h. apart i (omega arith)), bits (f n) (g n) (apart n (le_refl _)))
  where
    bits : (a b : Bool) → (a ≡ true → b ≡ true → ⊥) → bit (a || b) ≡ bit a + bit b
    bits true true p = absurd (p refl refl)
    bits true false p = refl
    bits false b p = omega arith

-- the one number a
pub count_one : (n a : ℕ) → a < n → count_up_to n (λ i. eqb i a) ≡ 1
unfolding count_up_to
count_one zero a h = absurd (not-suc-le-zero h)
count_one (suc n) a h =
    below_suc n a h
    (λ l. rw (count_one n a l, ne_eqb n a (λ e. omega arith)))
    (λ q. rw (count_none n (λ i. eqb i a) (λ i l. ne_eqb i a (λ e. omega arith)), eq-eqb n a (sym q)))
