-- The first failure of a list of rules, found in its parts. Assumes nothing.
use mathlib.Core.Path.{◌≡◌, refl, sym, ap, ◌∙◌}
use mathlib.Core.List.{List, [], ◌∷◌, map}
use mathlib.Core.Option.{none, some, some-ne-none}
use Rattle.model.specs.declared.refusal.Refusal.{Refusal}
use Rattle.model.specs.Sums.{or_else}
use Rattle.model.specs.Refusals.{Rule, Test, tested, first_failure, refusal_of}
use Rattle.std.specs.Prelude.{Result, Ok, Err}
use Rattle.std.specs.Result.{IsErrAnd}
use Rattle.std.proofs.lemmas.Result.{err_from_is_err_and}
use Rattle.board.specs.Checks.{test_of}

pub neither_fails : (t u : Test) → or_else t u ≡ none → (t ≡ none) × (u ≡ none)
neither_fails none u p = (refl, p)
neither_fails (some n) u p = absurd (some-ne-none n p)

-- nothing of a list fails exactly where none of its tests does
abbrev pub Each : List Rule → Type 0
Each [] = Unit {0}
Each (R ∷ rs) = (tested R ≡ none) × Each rs

pub each_passes : (rs : List Rule) → refusal_of rs ≡ none → Each rs
each_passes [] p = tt
each_passes (R ∷ rs) p = go (tested R) refl (each_passes rs) p
  where
    go : (t : Test) → tested R ≡ t → (refusal_of rs ≡ none → Each rs) → first_failure (t ∷ map tested rs) ≡ none → (tested R ≡ none) × Each rs
    go none e rest q = (e, rest q)
    go (some n) e rest q = absurd (some-ne-none n q)

pub passes_each : (rs : List Rule) → Each rs → refusal_of rs ≡ none
passes_each [] e = refl
passes_each (R ∷ rs) e = rw e.0 (passes_each rs e.1)

-- Two checks after each other: the first, which answers r, refuses, or it passes and the second decides.
pub refuses : (t u : Test) (r : Result Unit Refusal) {n : Refusal} → test_of r ≡ t → r ≡ Err n → or_else t u ≡ some n
refuses t u r e g = rw (← e, g)

-- .. as `?` hands its refusal on: the answer is a refusal too, the same
pub hands_on : {A : Type 0} (t u : Test) (r : Result Unit Refusal) (s : Result A Refusal) {n : Refusal}
    → test_of r ≡ t → r ≡ Err n → IsErrAnd s (λ m. m ≡ n) → (s ≡ Err n) × (or_else t u ≡ some n)
hands_on t u r s e g q = let p = err_from_is_err_and s q in (p.1 ∙ ap Err p.2, refuses t u r e g)

pub passes_on : (t u : Test) (r : Result Unit Refusal) → test_of r ≡ t → r ≡ Ok tt → or_else t u ≡ u
passes_on t u r e g = rw (← e, g)

pub passed : (t : Test) (r : Result Unit Refusal) → test_of r ≡ t → r ≡ Ok tt → t ≡ none
passed t r e g = rw (← e, g)

-- The same of one rule and those after it.
pub refuses_first : (R : Rule) (rs : List Rule) (r : Result Unit Refusal) {n : Refusal} → test_of r ≡ refusal_of (R ∷ []) → r ≡ Err n → refusal_of (R ∷ rs) ≡ some n
refuses_first R rs r {n} e g = go (tested R) (sym (ap test_of g) ∙ e)
  where
    go : (t : Test) → some n ≡ first_failure (t ∷ []) → first_failure (t ∷ map tested rs) ≡ some n
    go none q = absurd (some-ne-none n q)
    go (some k) q = sym q

pub passes_first : (R : Rule) (rs : List Rule) (r : Result Unit Refusal) → test_of r ≡ refusal_of (R ∷ []) → r ≡ Ok tt → refusal_of (R ∷ rs) ≡ refusal_of rs
passes_first R rs r e g = rw (each_passes (R ∷ []) (passed _ r e g)).0
