-- Further laws of parity: a set with one member at most, and a set with an odd number of members. Assumes nothing.
use Prim.Native.Nat.{ℕ, ◌<◌}
use mathlib.Core.Path.{◌≡◌, refl, sym, ap, ◌∙◌}
use mathlib.Core.Bool.{Bool, true, false, ◌&&◌, and-false, and-true, true≢false}
use borrow.Author.Tests.{eqb-false}
use lib.Dec.{eqb}
use Rattle.std.proofs.lemmas.Bool.{true_from_ne_false}
use Rattle.model.specs.Sums.{Set, odd_up_to, some_up_to}
use Rattle.model.proofs.SumLaws.{odd_cong, odd_at, odd_none, Some, some_found, some_none}

-- a set of which only the number a may be a member
pub odd_one : (n a : ℕ) (f : Set) → a < n → ((i : ℕ) → i < n → (a ≡ i → ⊥) → f i ≡ false) → odd_up_to n f ≡ f a
odd_one n a f h others = odd_cong n f (λ i. f i && eqb a i) (λ i l. go i l (eqb a i) refl) ∙ odd_at n a f h
  where
    go : (i : ℕ) → i < n → (t : Bool) → eqb a i ≡ t → f i ≡ (f i && eqb a i)
    go i l true p = rw p (sym (and-true (f i)))
    go i l false p = others i l (eqb-false a i p) ∙ sym (ap (λ t. f i && t) p ∙ and-false (f i))

-- an odd number of members: some member
pub odd_found : (n : ℕ) (f : Set) → odd_up_to n f ≡ true → Some n f
odd_found n f p = some_found n f (true_from_ne_false (some_up_to n f) (λ q. true≢false (sym p ∙ odd_none n f (some_none n f q))))
