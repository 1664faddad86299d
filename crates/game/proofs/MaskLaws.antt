-- Masks: an edge taken out of one and put into another. Assumes nothing.
use Prim.Native.Nat.{ℕ, zero, suc, ◌+◌, ◌-◌, ◌^◌, ◌≤◌, ◌<◌}
use mathlib.Core.Path.{◌≡◌, refl, sym, ap, ◌∙◌}
use mathlib.Core.Bool.{Bool, true, false, not, ◌&&◌, and-true, and-false, false≢true}
use native.Mathlib.Nat.{not-suc-le-zero, le_of_suc-le-suc, pow-succ', div-eq_of_lt}
use native.Mathlib.Decide.{dec_lt}
use native.Mathlib.Omega.{arith}
use borrow.Author.Tests.{eq-eqb, ne_eqb}
use Rattle.model.specs.Sums.{Set, bit, count_up_to}
use Rattle.model.specs.Correction.{without}
use Rattle.model.specs.Words.{bit_of, number_with}
use Rattle.model.proofs.Bits.{bit_bound}
use Rattle.model.proofs.CountLaws.{count_more}
use Rattle.model.proofs.EqualTests.{eqb_alike}
use Rattle.theory.proofs.BitLaws.{number_cong, number_bit, number_of_bits}

-- an edge more is its power more
pub number_more : (d e : ℕ) (f : Set) → e < d → f e ≡ true → number_with d f ≡ number_with d (without f e) + 2 ^ e
unfolding number_with
number_more zero e f h p = absurd (not-suc-le-zero h)
number_more (suc d) zero f h p =
    let rest = number_cong d (λ k. f (suc k)) (λ k. without f 0 (suc k)) (λ k l. rw (ne_eqb (suc k) 0 (λ q. omega arith)) (sym (and-true (f (suc k))))) in
    let gone : bit (without f 0 0) ≡ 0 = ap bit (and-false (f 0)) in
    omega (arith, ap bit p, rest, gone)
number_more (suc d) (suc e) f h p =
    let rest = number_more d e (λ k. f (suc k)) (le_of_suc-le-suc h) p in
    let same =
    number_cong d (without (λ k. f (suc k)) e) (λ k. without f (suc e) (suc k))
    (λ k l. ap (λ b. f (suc k) && not b) (eqb_alike k e (suc k) (suc e) (λ q. ap suc q) (λ q. omega arith)))
    in
    let first : bit (without f (suc e) 0) ≡ bit (f 0) = rw (ne_eqb 0 (suc e) (λ q. omega arith), and-true (f 0)) in
    rw (pow-succ' 2 e) (omega (arith, rest, same, first))

-- a member less is one less in count
pub count_without : (d e : ℕ) (f : Set) → e < d → f e ≡ true → count_up_to d f ≡ suc (count_up_to d (without f e))
count_without d e f h p =
    count_more d e (without f e) f h (ap (λ b. f e && not b) (eq-eqb e e refl) ∙ and-false (f e)) p
    (λ i apart. sym (ap (λ b. f i && not b) (ne_eqb i e apart) ∙ and-true (f i)))

-- two sets without a common member: their masks have room for both
pub apart_below : (d : ℕ) (f g : Set) → ((k : ℕ) → k < d → f k ≡ true → g k ≡ false) → number_with d f + number_with d g < 2 ^ d
unfolding number_with
apart_below zero f g apart = omega arith
apart_below (suc d) f g apart =
    let rest = apart_below d (λ k. f (suc k)) (λ k. g (suc k)) (λ k h p. apart (suc k) (omega arith) p) in
    rw (pow-succ' 2 d) (omega (arith, rest, one (f 0) (g 0) (apart 0 (omega arith))))
  where
    one : (a b : Bool) → (a ≡ true → b ≡ false) → bit a + bit b ≤ 1
    one true b p = rw (p refl) (omega arith)
    one false b p = omega (arith, bit_bound b)

-- an edge of a mask: its power is no more than the mask
pub power_within : (x e : ℕ) → bit_of x e ≡ true → 2 ^ e ≤ x
power_within x e p = elim (dec_lt x (2 ^ e)) [ yes h ↦ absurd (false≢true (sym (none h) ∙ p)) | no h ↦ omega arith ]
  where
    none : x < 2 ^ e → bit_of x e ≡ false
    none h = rw (div-eq_of_lt h)

module _ (m x e : ℕ) (within : x < 2 ^ m) (edge : e < m) (there : bit_of x e ≡ true) where
  -- the mask without it
  mask_without : x - 2 ^ e ≡ number_with m (without (bit_of x) e)
  mask_without = omega (arith, sym (number_of_bits m x within) ∙ number_more m e (bit_of x) edge there)

  -- has the other edges
  pub bits_without : (k : ℕ) → k < m → bit_of (x - 2 ^ e) k ≡ without (bit_of x) e k
  bits_without k h = ap (λ y. bit_of y k) mask_without ∙ number_bit m (without (bit_of x) e) k h
