-- Further laws of what is counted or added up below a bound. Assumes nothing.
use Prim.Native.Nat.{ℕ, zero, suc, ◌+◌, ◌≤◌, ◌<◌}
use mathlib.Core.Path.{◌≡◌, refl}
use mathlib.Core.Bool.{Bool, true, false, cond, not-not}
use native.Mathlib.Nat.{le_refl, not-suc-le-zero}
use native.Mathlib.Omega.{arith}
use borrow.Author.Tests.{eqb-true, eq-eqb, ne_eqb}
use lib.Dec.{eqb}
use Rattle.model.specs.Sums.{Set, ◌⊕◌, bit, count_up_to}
use Rattle.model.proofs.Xor.{xor_false}
use Rattle.model.proofs.SumLaws.{below_suc, count_none}

-- Exclusive or

-- what stands twice cancels
pub xor_through : (a b c : Bool) → (a ⊕ b) ⊕ (b ⊕ c) ≡ a ⊕ c
xor_through true true c = refl
xor_through true false c = refl
xor_through false true c = not-not c
xor_through false false c = refl

pub xor_cancel : (a b : Bool) → a ⊕ (b ⊕ a) ≡ b
xor_cancel true true = refl
xor_cancel true false = refl
xor_cancel false b = xor_false b

-- Counts

-- what two sets have together is at most what they have apart
pub count_xor : (n : ℕ) (f g : Set) → count_up_to n (λ i. f i ⊕ g i) ≤ count_up_to n f + count_up_to n g
unfolding count_up_to
count_xor zero f g = omega arith
count_xor (suc n) f g = omega (arith, count_xor n f g, bits (f n) (g n))
  where
    bits : (a b : Bool) → bit (a ⊕ b) ≤ bit a + bit b
    bits true true = omega arith
    bits true false = omega arith
    bits false b = omega arith

-- one number is counted once at most
pub count_at : (n a : ℕ) → count_up_to n (λ i. eqb a i) ≤ 1
unfolding count_up_to
count_at zero a = omega arith
count_at (suc n) a = go (count_at n a) (eqb a n) refl
  where
    go : count_up_to n (λ i. eqb a i) ≤ 1 → (t : Bool) → eqb a n ≡ t → count_up_to n (λ i. eqb a i) + bit t ≤ 1
    go less true q = omega (arith, count_none n (λ i. eqb a i) (λ i h. ne_eqb a i (λ r. omega (arith, eqb-true a n q))))
    go less false q = omega arith

-- Sums

-- f 0 + f 1 + .. + f (n - 1)
unfoldable pub sum_up_to : ℕ → (ℕ → ℕ) → ℕ
sum_up_to zero f = 0
sum_up_to (suc n) f = sum_up_to n f + f n

pub sum_mono : (n : ℕ) (f g : ℕ → ℕ) → ((i : ℕ) → i < n → f i ≤ g i) → sum_up_to n f ≤ sum_up_to n g
unfolding sum_up_to
sum_mono zero f g less = le_refl _
sum_mono (suc n) f g less = omega (arith, sum_mono n f g (λ i h. less i (omega arith)), less n (le_refl _))

pub sum_add : (n : ℕ) (f g : ℕ → ℕ) → sum_up_to n (λ i. f i + g i) ≡ sum_up_to n f + sum_up_to n g
unfolding sum_up_to
sum_add zero f g = refl
sum_add (suc n) f g = omega (arith, sum_add n f g)

pub sum_zero : (n : ℕ) → sum_up_to n (λ i. 0) ≡ 0
unfolding sum_up_to
sum_zero zero = refl
sum_zero (suc n) = omega (arith, sum_zero n)

-- d at the one index a
abbrev pub only : ℕ → ℕ → ℕ → ℕ
only a d i = cond (eqb a i) d 0

pub sum_only : (n a d : ℕ) → a < n → sum_up_to n (only a d) ≡ d
unfolding sum_up_to
sum_only zero a d h = absurd (not-suc-le-zero h)
sum_only (suc n) a d h =
    below_suc n a h
    (λ l. rw (sum_only n a d l, ne_eqb a n (λ q. omega arith)) (omega arith))
    (λ q. rw (eq-eqb a n q) (omega (arith, before n (omega arith))))
  where
    before : (k : ℕ) → k ≤ a → sum_up_to k (only a d) ≡ 0
    before zero l = refl
    before (suc k) l = rw (before k (omega arith), ne_eqb a k (λ q. omega arith)) (omega arith)
