-- A rule that is kept or broken as a whole, and lists of rules, one after the other. Assumes nothing.
use mathlib.Core.Path.{◌≡◌, refl}
use mathlib.Core.Bool.{Bool, true, false}
use mathlib.Core.List.{List, [], ◌∷◌, ◌++◌, map}
use mathlib.Core.Option.{none, some, some-ne-none}
use Rattle.model.specs.declared.refusal.Refusal.{Refusal}
use Rattle.model.specs.Sums.{or_else}
use Rattle.model.specs.Refusals.{Rule, Test, unless, tested, first_failure, refusal_of}

-- a test by a flag passes only where the flag is set
pub unless_passes : (ok : Bool) (n : Refusal) → unless ok n ≡ none → ok ≡ true
unless_passes true n p = refl
unless_passes false n p = absurd (some-ne-none n p)

-- of two lists the first decides, unless nothing of it fails
pub refusal_append : (rs qs : List Rule) → refusal_of (rs ++ qs) ≡ or_else (refusal_of rs) (refusal_of qs)
refusal_append [] qs = refl
refusal_append (R ∷ rs) qs = go (tested R) (refusal_append rs qs)
  where
    go : (t : Test) → refusal_of (rs ++ qs) ≡ or_else (refusal_of rs) (refusal_of qs)
        → first_failure (t ∷ map tested (rs ++ qs)) ≡ or_else (first_failure (t ∷ map tested rs)) (refusal_of qs)
    go none p = p
    go (some n) p = refl
