-- The bits of a number: its lowest bit and the others, how many are set, numbers made of bits, and bits past a length. Assumes nothing.
use Prim.Native.Nat.{ℕ, zero, suc, ◌+◌, ◌*◌, ◌/◌, ◌%◌, ◌^◌, ◌≤◌, ◌<◌}
use mathlib.Core.Path.{◌≡◌, refl, sym, ap, ap₂, ◌∙◌, subst}
use mathlib.Core.Bool.{false}
use native.Mathlib.Nat.{le_of_suc-le-suc, not-suc-le-zero, pow-succ', div-div-eq-div-mul, div-eq_of_lt, lt_of_lt_of_le}
use native.Mathlib.Omega.{arith}
use lib.Count.{ones, ones_step, ones-le}
use lib.Pow.{pow_mono}
use Rattle.model.specs.Sums.{Set, bit, count_up_to}
use Rattle.model.specs.Words.{bit_of, number_with}
use Rattle.model.proofs.Bits.{eqb_bit, bit_bound, byte_bit}
use Rattle.model.proofs.SumLaws.{count_cong, count_bound}
use Rattle.model.proofs.CountLaws.{count_first}

-- One number

-- the lowest bit
pub lowest_bit : (x : ℕ) → bit (bit_of x 0) ≡ x % 2
lowest_bit x = let one : x / 1 % 2 ≡ x % 2 = omega arith in rw one (sym (byte_bit (x % 2) (omega arith)))

-- each bit, as a number
pub bit_is : (x k : ℕ) → x / 2 ^ k % 2 ≡ bit (bit_of x k)
bit_is x k = byte_bit (x / 2 ^ k % 2) (omega arith)

-- the others are those of the half
pub higher_bit : (x k : ℕ) → bit_of x (suc k) ≡ bit_of (x / 2) k
higher_bit x k = rw (pow-succ' 2 k, ← div-div-eq-div-mul x 2 (2 ^ k))

-- a number of few bits has no higher ones
pub no_higher : (x r k : ℕ) → x < 2 ^ r → r ≤ k → bit_of x k ≡ false
no_higher x r k few h = rw (div-eq_of_lt (lt_of_lt_of_le few (pow_mono h)))

-- half of it has one bit less
pub half_below : (x d : ℕ) → x < 2 ^ suc d → x / 2 < 2 ^ d
half_below x d h = half (2 ^ d) (subst (λ b. x < b) (pow-succ' 2 d) h)
  where
    half : (b : ℕ) → x < 2 * b → x / 2 < b
    half b l = omega arith

-- count_ones of a number of few bits
pub ones_counted : (d x : ℕ) → x < 2 ^ d → ones x ≡ count_up_to d (bit_of x)
ones_counted zero x h = omega (arith, ones-le 0 x h, count_bound 0 (bit_of x))
ones_counted (suc d) x h =
    let rest =
    ones_counted d (x / 2) (half_below x d h) ∙ count_cong d (bit_of (x / 2)) (λ k. bit_of x (suc k)) (λ k l. sym (higher_bit x k))
    in
    omega (arith, ones_step x, lowest_bit x, rest, count_first d (bit_of x))

-- Numbers made of bits

pub number_cong : (d : ℕ) (f g : Set) → ((k : ℕ) → k < d → f k ≡ g k) → number_with d f ≡ number_with d g
unfolding number_with
number_cong zero f g same = refl
number_cong (suc d) f g same =
    ap₂ (λ b x. bit b + 2 * x) (same 0 (omega arith)) (number_cong d (λ k. f (suc k)) (λ k. g (suc k)) (λ k h. same (suc k) (omega arith)))

pub number_below : (d : ℕ) (f : Set) → number_with d f < 2 ^ d
unfolding number_with
number_below zero f = omega arith
number_below (suc d) f =
    let later = number_below d (λ k. f (suc k)) in
    rw (pow-succ' 2 d) (omega (arith, later, bit_bound (f 0)))

-- each bit is as it was given
pub number_bit : (d : ℕ) (f : Set) (k : ℕ) → k < d → bit_of (number_with d f) k ≡ f k
unfolding number_with
number_bit zero f k h = absurd (not-suc-le-zero h)
number_bit (suc d) f zero h =
    let x = number_with d (λ k. f (suc k)) in
    let low : (bit (f 0) + 2 * x) / 1 % 2 ≡ bit (f 0) = omega (arith, bit_bound (f 0)) in
    rw low (eqb_bit (f 0))
number_bit (suc d) f (suc k) h =
    let x = number_with d (λ k. f (suc k)) in
    let half : (bit (f 0) + 2 * x) / 2 ≡ x = omega (arith, bit_bound (f 0)) in
    higher_bit (bit (f 0) + 2 * x) k ∙ ap (λ y. bit_of y k) half ∙ number_bit d (λ k. f (suc k)) k (le_of_suc-le-suc h)

-- a number is made of its bits
pub number_of_bits : (d x : ℕ) → x < 2 ^ d → number_with d (bit_of x) ≡ x
unfolding number_with
number_of_bits zero x h = omega arith
number_of_bits (suc d) x h =
    let others = number_cong d (λ k. bit_of x (suc k)) (bit_of (x / 2)) (λ k l. higher_bit x k) ∙ number_of_bits d (x / 2) (half_below x d h) in
    omega (arith, others, lowest_bit x)

-- no bits from place c on change nothing
pub number_short : (c d : ℕ) (f : Set) → c ≤ d → ((k : ℕ) → c ≤ k → k < d → f k ≡ false) → number_with d f ≡ number_with c f
unfolding number_with
number_short zero zero f h out = refl
number_short zero (suc d) f h out =
    let none = ap bit (out 0 (omega arith) (omega arith)) in
    omega (arith, none, number_short zero d (λ k. f (suc k)) (omega arith) (λ k a b. out (suc k) (omega arith) (omega arith)))
number_short (suc c) zero f h out = absurd (not-suc-le-zero h)
number_short (suc c) (suc d) f h out =
    ap (λ x. bit (f 0) + 2 * x)
    (number_short c d (λ k. f (suc k)) (le_of_suc-le-suc h) (λ k a b. out (suc k) (omega arith) (omega arith)))

-- a number none of whose bits from place r on is set is below 2 ^ r
pub few_bits : (r d x : ℕ) → r ≤ d → x < 2 ^ d → ((k : ℕ) → r ≤ k → k < d → bit_of x k ≡ false) → x < 2 ^ r
few_bits r d x h below out =
    subst (λ y. y < 2 ^ r) (sym (number_short r d (bit_of x) h out) ∙ number_of_bits d x below) (number_below r (bit_of x))
