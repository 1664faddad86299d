-- Parity round a cycle of the numbers below L, each after the one before it modulo L. The differences of a set along the whole cycle
-- cancel; and differences that cancel are those of a set as soon as they are so at all numbers but 0.
-- Assumes nothing.
use Prim.Native.Nat.{ℕ, zero, suc, ◌-◌, ◌≤◌, ◌<◌}
use mathlib.Core.Path.{◌≡◌, sym, ap, ◌∙◌}
use mathlib.Core.Bool.{false}
use native.Mathlib.Nat.{not-suc-le-zero}
use native.Mathlib.Omega.{arith}
use Rattle.model.specs.Sums.{Set, ◌⊕◌, odd_up_to}
use Rattle.model.proofs.Xor.{xor_false, xor_self, xor_comm, xor_assoc, xor_equal, equal_xor}
use Rattle.model.proofs.SumLaws.{odd_cong, odd_xor}
use Rattle.theory.proofs.Totals.{xor_through}
use Rattle.torus.proofs.TorusCells.{prev}

-- the first number apart
odd_first : (n : ℕ) (f : Set) → odd_up_to (suc n) f ≡ f 0 ⊕ odd_up_to n (λ i. f (suc i))
unfolding odd_up_to
odd_first zero f = sym (xor_false (f 0))
odd_first (suc n) f =
    ap (λ t. t ⊕ f (suc n)) (odd_first n f) ∙ xor_assoc (f 0) (odd_up_to n (λ i. f (suc i))) (f (suc n))

-- a sum round a cycle may begin one earlier
odd_turned : (L : ℕ) → 1 ≤ L → (g : Set) → odd_up_to L (λ k. g (prev L k)) ≡ odd_up_to L g
unfolding odd_up_to
odd_turned zero some g = absurd (not-suc-le-zero some)
odd_turned (suc n) some g =
    let last : suc n - 1 ≡ n = omega arith in
    odd_first n (λ k. g (prev (suc n) k)) ∙ ap (λ k. g k ⊕ odd_up_to n g) last ∙ xor_comm (g n) (odd_up_to n g)

-- so its differences cancel
pub odd_round : (L : ℕ) → 1 ≤ L → (g : Set) → odd_up_to L (λ k. g k ⊕ g (prev L k)) ≡ false
odd_round L some g =
    odd_xor L g (λ k. g (prev L k)) ∙ equal_xor (odd_up_to L g) (odd_up_to L (λ k. g (prev L k))) (sym (odd_turned L some g))

-- the differences up to n make up that of its two ends
odd_telescope : (n : ℕ) (g : Set) → odd_up_to n (λ k. g (suc k) ⊕ g k) ≡ g n ⊕ g 0
unfolding odd_up_to
odd_telescope zero g = sym (xor_self (g 0))
odd_telescope (suc n) g =
    ap (λ t. t ⊕ (g (suc n) ⊕ g n)) (odd_telescope n g)
    ∙ xor_comm (g n ⊕ g 0) (g (suc n) ⊕ g n)
    ∙ xor_through (g (suc n)) (g n) (g 0)

-- where d is even, and the difference of g at every number but 0, it is that at 0 too
pub round_back : (L : ℕ) (g d : Set) → ((k : ℕ) → suc k < L → g (suc k) ⊕ g k ≡ d (suc k)) → odd_up_to L d ≡ false
    → (k : ℕ) → k < L → g k ⊕ g (prev L k) ≡ d k
round_back zero g d steps even k h = absurd (not-suc-le-zero h)
round_back (suc n) g d steps even zero h =
    let last : suc n - 1 ≡ n = omega arith in
    ap (λ k. g 0 ⊕ g k) last
    ∙ xor_comm (g 0) (g n)
    ∙ sym (odd_telescope n g)
    ∙ odd_cong n (λ k. g (suc k) ⊕ g k) (λ k. d (suc k)) (λ k l. steps k (omega arith))
    ∙ sym (xor_equal (d 0) (odd_up_to n (λ k. d (suc k))) (sym (odd_first n d) ∙ even))
round_back (suc n) g d steps even (suc k) h = steps k h
