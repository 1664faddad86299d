-- How large the place of a refusal is, from the tests that give it. Assumes nothing.
use Prim.Native.Nat.{ℕ, ◌≤◌, ◌<◌}
use mathlib.Core.Path.{◌≡◌, refl, subst}
use mathlib.Core.Bool.{Bool, true, false}
use mathlib.Core.List.{List, [], ◌∷◌, map}
use mathlib.Core.Option.{Option, none, some, none-ne-some, some-injective}
use native.Mathlib.Omega.{arith}
use Rattle.model.specs.declared.refusal.Refusal.{Refusal}
use Rattle.model.specs.Sums.{Set, or_else, first_up_to}
use Rattle.model.specs.Refusals.{place_of, Test, unless, refused_at, first_place, first_failure, Rule, tested, refusal_of}
use Rattle.model.specs.Outcomes.{answer}
use Rattle.model.proofs.SumLaws.{first_found}

-- where the test fails, the place is below b
pub record PlaceBelow (b : ℕ) (t : Test) : Type 0 where
  pub below : (n : Refusal) → t ≡ some n → place_of n < b

pub wider : {a b : ℕ} {t : Test} → a ≤ b → PlaceBelow a t → PlaceBelow b t
wider h w = record { below = λ n p. omega (arith, w.below n p) }

-- of one test
passes_below : (b : ℕ) → PlaceBelow b none
passes_below b = record { below = λ n p. absurd (none-ne-some n p) }

fails_below : (b : ℕ) (n : Refusal) → place_of n < b → PlaceBelow b (some n)
fails_below b n h = record { below = λ m p. subst (λ k. place_of k < b) (some-injective n m p) h }

pub unless_below : {b : ℕ} (ok : Bool) (n : Refusal) → place_of n < b → PlaceBelow b (unless ok n)
unless_below {b} true n h = passes_below b
unless_below {b} false n h = fails_below b n h

pub at_below : {b : ℕ} (o : Option ℕ) (at : ℕ → Refusal) → ((i : ℕ) → o ≡ some i → place_of (at i) < b) → PlaceBelow b (refused_at o at)
at_below {b} none at h = passes_below b
at_below {b} (some i) at h = fails_below b (at i) (h i refl)

-- a pass over n places fails at one below n
pub first_below : {b : ℕ} (n : ℕ) (f : Set) (at : ℕ → Refusal) → ((i : ℕ) → i < n → place_of (at i) < b) → PlaceBelow b (first_place n f at)
first_below n f at h = at_below (first_up_to n f) at (λ i p. h i (first_found n f i p).less)

-- of a row of tests
pub else_below : {b : ℕ} (t u : Test) → PlaceBelow b t → (t ≡ none → PlaceBelow b u) → PlaceBelow b (or_else t u)
else_below none u w later = later refl
else_below (some n) u w later = w

-- a list of rules
abbrev pub EachBelow : ℕ → List Rule → Type 0
EachBelow b [] = Unit {0}
EachBelow b (R ∷ rs) = PlaceBelow b (tested R) × EachBelow b rs

pub rules_below : {b : ℕ} (rs : List Rule) → EachBelow b rs → PlaceBelow b (refusal_of rs)
rules_below {b} [] w = passes_below b
rules_below {b} (R ∷ rs) w = go (tested R) w.0 (rules_below rs w.1)
  where
    go : (t : Test) → PlaceBelow b t → PlaceBelow b (refusal_of rs) → PlaceBelow b (first_failure (t ∷ map tested rs))
    go none here later = later
    go (some n) here later = here

-- before an answer that is no refusal the tests have passed
pub answer_passed : {A : Type 0} {refused : Refusal → A} (t : Test) (else a : A) → a ≡ answer t refused else → ((n : Refusal) → a ≡ refused n → ⊥)
    → t ≡ none
answer_passed none else a p apart = refl
answer_passed (some n) else a p apart = absurd (apart n p)

-- what holds of every refusal that the test gives, and of what follows where it passes, holds of the answer
pub answer_holds : {A : Type 0} (P : A → Type 0) (t : Test) (refused : Refusal → A) (else : A)
    → ((n : Refusal) → t ≡ some n → P (refused n)) → (t ≡ none → P else) → P (answer t refused else)
answer_holds P none refused else fails passes = passes refl
answer_holds P (some n) refused else fails passes = fails n refl
