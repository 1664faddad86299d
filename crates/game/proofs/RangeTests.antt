-- A test of all numbers of a range, as a search below a bound. Assumes nothing.
use Prim.Native.Nat.{ℕ, zero, suc, ◌+◌}
use mathlib.Core.Path.{◌≡◌, refl, sym, ap, ◌∙◌}
use mathlib.Core.Bool.{Bool, true, false, ◌||◌, or-false}
use native.Mathlib.Nat.{add-zero}
use native.Mathlib.Omega.{arith}
use Rattle.std.specs.List.{list_any, range_with_len}
use Rattle.model.specs.Sums.{Set, some_up_to}
use Rattle.model.proofs.SumLaws.{some_cong}

-- the first number apart
some_front : (n : ℕ) (f : Set) → some_up_to (suc n) f ≡ (f 0 || some_up_to n (λ i. f (suc i)))
unfolding some_up_to
some_front zero f = sym (or-false (f 0))
some_front (suc n) f = ap (λ b. b || f (suc n)) (some_front n f) ∙ regroup (f 0) (some_up_to n (λ i. f (suc i))) (f (suc n))
  where
    regroup : (a b d : Bool) → ((a || b) || d) ≡ (a || (b || d))
    regroup true b d = refl
    regroup false b d = refl

-- some number of the range passes
any_from : (a n : ℕ) (f : Set) → list_any f (range_with_len a n) ≡ some_up_to n (λ i. f (a + i))
unfolding some_up_to
any_from a zero f = refl
any_from a (suc n) f =
    ap (λ b. f a || b) (any_from (a + 1) n f ∙ some_cong n _ (λ i. f (a + suc i)) (λ i h. ap f (shift i)))
    ∙ sym (some_front n (λ i. f (a + i)) ∙ ap (λ k. f k || some_up_to n (λ i. f (a + suc i))) (add-zero a))
  where
    shift : (i : ℕ) → a + 1 + i ≡ a + suc i
    shift i = omega arith

pub any_below : (n : ℕ) (f : Set) → list_any f (range_with_len 0 n) ≡ some_up_to n f
any_below n f = any_from 0 n f ∙ some_cong n _ f (λ i h. ap f (same i))
  where
    same : (i : ℕ) → 0 + i ≡ i
    same i = omega arith
