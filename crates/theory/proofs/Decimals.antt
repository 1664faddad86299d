-- Printing a number and reading it undo each other: `number` reads exactly the lists of digits that `decimal` prints.
-- Assumes nothing.
use Prim.Native.Nat.{ℕ, zero, suc, ◌+◌, ◌*◌, ◌-◌, ◌/◌, ◌%◌, ◌≤◌, ◌<◌}
use mathlib.Core.Path.{◌≡◌, refl, sym, ap, ◌∙◌}
use mathlib.Core.Bool.{true, ◌&&◌}
use mathlib.Core.List.{List, [], ◌∷◌, ◌++◌, append-nil, append_assoc}
use mathlib.Core.Option.{some, none-ne-some, some-injective}
use native.Mathlib.Nat.{le_refl}
use native.Mathlib.Omega.{arith}
use borrow.Author.Tests.{leb-true, ltb-true, le-leb, lt-ltb}
use lib.Dec.{leb, ltb}
use Rattle.model.specs.Text.{digit_zero, before, decimal_up_to, decimal, is_digit, number_from, number}
use Rattle.model.proofs.Xor.{and_left, and_right}
use Rattle.theory.proofs.Options.{passed}

-- the byte of the digit d
abbrev pub digit : ℕ → ℕ
digit d = digit_zero + d

-- the test for digits passes on these
pub digit_test : (d : ℕ) → d < 10 → is_digit (digit d) ≡ true
digit_test d h = rw (le-leb digit_zero (digit d) (omega arith), lt-ltb (digit d) (digit_zero + 10) (omega arith))

-- and on no other byte
pub record Digit (b : ℕ) : Type 0 where
  pub low : digit_zero ≤ b
  pub high : b < digit_zero + 10

pub test_digit : (b : ℕ) → is_digit b ≡ true → Digit b
test_digit b p =
    record {
      low = leb-true _ _ (and_left (leb digit_zero b) (ltb b (digit_zero + 10)) p);
      high = ltb-true _ _ (and_right (leb digit_zero b) (ltb b (digit_zero + 10)) p);
    }

-- Printing

-- a bound that is large enough does not matter
bound_free : (k j n : ℕ) → n ≤ k → n ≤ j → decimal_up_to k n ≡ decimal_up_to j n
unfolding decimal_up_to
bound_free zero zero n h l = refl
bound_free zero (suc j) n h l = let e : n / 10 ≡ 0 = omega arith in rw e
bound_free (suc k) zero n h l = let e : n / 10 ≡ 0 = omega arith in rw e
bound_free (suc k) (suc j) n h l = go (bound_free k j) (n / 10) refl
  where
    go : ((q : ℕ) → q ≤ k → q ≤ j → decimal_up_to k q ≡ decimal_up_to j q) → (q : ℕ) → n / 10 ≡ q
        → before q (decimal_up_to k) ++ (digit (n % 10) ∷ []) ≡ before q (decimal_up_to j) ++ (digit (n % 10) ∷ [])
    go earlier zero e = refl
    go earlier (suc q) e = ap (λ ds. ds ++ (digit (n % 10) ∷ [])) (earlier (suc q) (omega arith) (omega arith))

-- a number's digits are those of its tenth, where there are any, and its last digit
decimal_is : (n : ℕ) → decimal n ≡ before (n / 10) decimal ++ (digit (n % 10) ∷ [])
unfolding decimal decimal_up_to
decimal_is n =
    bound_free n (suc n) n (le_refl _) (omega arith)
    ∙ ap (λ ds. ds ++ (digit (n % 10) ∷ [])) (go (n / 10) (omega arith))
  where
    go : (q : ℕ) → q ≤ n → before q (decimal_up_to n) ≡ before q (λ m. decimal_up_to m m)
    go zero h = refl
    go (suc q) h = bound_free n (suc q) (suc q) h (le_refl _)

pub decimal_digit : (d : ℕ) → d < 10 → decimal d ≡ digit d ∷ []
decimal_digit d h =
    let q : d / 10 ≡ 0 = omega arith in
    let r : d % 10 ≡ d = omega arith in
    decimal_is d ∙ rw (q, r)

pub decimal_append : (n d : ℕ) → 0 < n → d < 10 → decimal (10 * n + d) ≡ decimal n ++ (digit d ∷ [])
decimal_append zero d p h = absurd (omega arith)
decimal_append (suc n) d p h =
    let q : (10 * suc n + d) / 10 ≡ suc n = omega arith in
    let r : (10 * suc n + d) % 10 ≡ d = omega arith in
    decimal_is (10 * suc n + d) ∙ rw (q, r)

-- Reading

-- one digit more, after a number that is not 0
from_append : (n : ℕ) (ds : List ℕ) (m d : ℕ) → number_from n ds ≡ some m → 0 < m → d < 10
    → number_from n (ds ++ (digit d ∷ [])) ≡ some (10 * m + d)
unfolding number_from
from_append n [] m d p l h =
    let e : n ≡ m = some-injective _ _ p in
    let f : digit d - digit_zero ≡ d = omega arith in
    rw (digit_test d h, lt-ltb 0 n (omega arith), f, e)
from_append n (b ∷ bs) m d p l h =
    let w = passed (is_digit b && ltb 0 n) (number_from (10 * n + (b - digit_zero)) bs) p in
    rw w.test (from_append (10 * n + (b - digit_zero)) bs m d w.kept l h)

number_append : (ds : List ℕ) (m d : ℕ) → number ds ≡ some m → 0 < m → d < 10 → number (ds ++ (digit d ∷ [])) ≡ some (10 * m + d)
unfolding number
number_append [] m d p l h = absurd (none-ne-some _ p)
number_append (b ∷ bs) m d p l h =
    let w = passed (is_digit b) (number_from (b - digit_zero) bs) p in
    rw w.test (from_append (b - digit_zero) bs m d w.kept l h)

number_digit : (d : ℕ) → d < 10 → number (digit d ∷ []) ≡ some d
unfolding number number_from
number_digit d h = rw (digit_test d h) (ap some (omega arith))

-- what is printed is read
read_below : (k n : ℕ) → n < k → number (decimal n) ≡ some n
read_below zero n h = absurd (omega arith)
read_below (suc k) n h = rw (decimal_is n) (go (read_below k) (n / 10) refl)
  where
    go : ((m : ℕ) → m < k → number (decimal m) ≡ some m) → (q : ℕ) → n / 10 ≡ q
        → number (before q decimal ++ (digit (n % 10) ∷ [])) ≡ some n
    go earlier zero e = number_digit (n % 10) (omega arith) ∙ ap some {x = n % 10} {y = n} (omega arith)
    go earlier (suc q) e =
        number_append (decimal (suc q)) (suc q) (n % 10) (earlier (suc q) (omega arith)) (omega arith) (omega arith)
        ∙ ap some {x = 10 * suc q + n % 10} {y = n} (omega arith)

pub number_decimal : (n : ℕ) → number (decimal n) ≡ some n
number_decimal n = read_below (suc n) n (le_refl _)

-- what is read is what is printed
from_decimal : (n : ℕ) (bs : List ℕ) (m : ℕ) → number_from n bs ≡ some m → decimal n ++ bs ≡ decimal m
unfolding number_from
from_decimal n [] m p = append-nil _ ∙ ap decimal (some-injective _ _ p)
from_decimal n (b ∷ bs) m p =
    let w = passed (is_digit b && ltb 0 n) (number_from (10 * n + (b - digit_zero)) bs) p in
    let g = test_digit b (and_left (is_digit b) (ltb 0 n) w.test) in
    let l : 0 < n = ltb-true 0 n (and_right (is_digit b) (ltb 0 n) w.test) in
    let f : digit (b - digit_zero) ≡ b = omega arith in
    sym (append_assoc (decimal n) (b ∷ []) bs)
    ∙ ap (λ c. decimal n ++ (c ∷ []) ++ bs) (sym f)
    ∙ ap (λ ds. ds ++ bs) (sym (decimal_append n (b - digit_zero) l (omega arith)))
    ∙ from_decimal (10 * n + (b - digit_zero)) bs m w.kept

pub number_is : (ds : List ℕ) (n : ℕ) → number ds ≡ some n → ds ≡ decimal n
unfolding number
number_is [] n p = absurd (none-ne-some _ p)
number_is (b ∷ bs) n p =
    let w = passed (is_digit b) (number_from (b - digit_zero) bs) p in
    let g = test_digit b w.test in
    let f : digit (b - digit_zero) ≡ b = omega arith in
    ap (λ c. c ∷ bs) (sym f)
    ∙ ap (λ ds. ds ++ bs) (sym (decimal_digit (b - digit_zero) (omega arith)))
    ∙ from_decimal (b - digit_zero) bs n w.kept
