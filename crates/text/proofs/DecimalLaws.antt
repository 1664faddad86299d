-- A number's digits from those of its tenth, and how many there are. Assumes nothing.
use Prim.Native.Nat.{ℕ, zero, suc, ◌+◌, ◌*◌, ◌/◌, ◌%◌, ◌≤◌}
use mathlib.Core.Path.{◌≡◌, refl, ap, ◌∙◌}
use mathlib.Core.Bool.{Bool, true, false}
use mathlib.Core.List.{[], ◌∷◌, ◌++◌}
use native.Mathlib.Nat.{le_refl}
use native.Mathlib.Omega.{arith}
use lib.ListN.{length, length-append}
use lib.Dec.{ltb}
use borrow.Author.Tests.{ltb-true, ltb-false}
use Rattle.model.specs.Text.{digit_zero, decimal}
use Rattle.theory.proofs.Decimals.{decimal_digit, decimal_append}

pub decimal_step : (n : ℕ) → 10 ≤ n → decimal n ≡ decimal (n / 10) ++ ((digit_zero + n % 10) ∷ [])
decimal_step n h =
    let parts : n ≡ 10 * (n / 10) + n % 10 = omega arith in
    ap decimal parts ∙ decimal_append (n / 10) (n % 10) (omega arith) (omega arith)

-- no number up to b has more than k digits
pub record Digits (b k : ℕ) : Type 0 where
  pub few : (n : ℕ) → n ≤ b → length (decimal n) ≤ k

-- the largest number of k + 1 digits
abbrev pub nines : ℕ → ℕ
nines zero = 9
nines (suc k) = 10 * nines k + 9

-- ten times as much has one digit more
one_more : (b k : ℕ) → Digits b k → Digits (10 * b + 9) (suc k)
one_more b k w = record { few = λ n h. go n h (ltb n 10) refl }
  where
    go : (n : ℕ) → n ≤ 10 * b + 9 → (t : Bool) → ltb n 10 ≡ t → length (decimal n) ≤ suc k
    go n h true p = rw (decimal_digit n (ltb-true n 10 p)) (omega arith)
    go n h false p =
        let rest : length (decimal (n / 10)) ≤ k = w.few (n / 10) (omega arith) in
        rw (decimal_step n (ltb-false n 10 p), length-append) (omega arith)

pub digits : (k : ℕ) → Digits (nines k) (suc k)
digits zero = record { few = λ n h. rw (decimal_digit n (omega arith)) (le_refl _) }
digits (suc k) = one_more (nines k) (suc k) (digits k)
