-- A number outside its range is refused, whatever is tested after it, and one in range passes; so it is with the side of a torus, whose
-- number is 11. Assumes nothing.
use Prim.Native.Nat.{ℕ, ◌≤◌}
use mathlib.Core.Path.{◌≡◌, refl, ap}
use mathlib.Core.Bool.{Bool, true, false, ◌&&◌}
use mathlib.Core.List.{List, ◌∷◌, map}
use mathlib.Core.Option.{none, some}
use borrow.Author.Tests.{le-leb, leb-true}
use lib.Dec.{leb}
use Rattle.model.specs.declared.refusal.Refusal.{Refusal}
use Rattle.model.specs.declared.refusal.Refusal.TheVariants.{TorusSide}
use Rattle.model.specs.Torus.{least_side, largest_side}
use Rattle.model.specs.Refusals.{Rule, whole, unless, tested, first_failure, refusal_of, side_rule}
use Rattle.model.proofs.RuleLists.{unless_passes}
use Rattle.model.proofs.Xor.{and_left, and_right}
use Rattle.torus.specs.Sides.{SideWithin}

module _ (r : Refusal) (least most n : ℕ) where
  abbrev kept : Bool
  kept = leb least n && leb n most

  passed_in_range : unless kept r ≡ none → (least ≤ n) × (n ≤ most)
  passed_in_range p =
      let both = unless_passes kept r p in
      (leb-true least n (and_left (leb least n) (leb n most) both), leb-true n most (and_right (leb least n) (leb n most) both))

  pub out_of_range : (rules : List Rule) → ((least ≤ n) × (n ≤ most) → ⊥) → refusal_of (whole kept r ∷ rules) ≡ some r
  out_of_range rules out = go kept refl
    where
      go : (b : Bool) → kept ≡ b → first_failure (unless b r ∷ map tested rules) ≡ some r
      go true p = absurd (out (passed_in_range (ap (λ b. unless b r) p)))
      go false p = refl

  pub in_range : (rules : List Rule) → (least ≤ n) × (n ≤ most) → refusal_of (whole kept r ∷ rules) ≡ refusal_of rules
  in_range rules w = rw (le-leb least n w.0, le-leb n most w.1)

pub passed_within : (L : ℕ) → tested (side_rule L) ≡ none → SideWithin L
passed_within L p =
    let w = passed_in_range (TorusSide L) least_side largest_side L p in record { least = w.0; most = w.1 }

module _ (L : ℕ) (rules : List Rule) where
  pub outside_refused : (SideWithin L → ⊥) → refusal_of (side_rule L ∷ rules) ≡ some (TorusSide L)
  outside_refused out = out_of_range (TorusSide L) least_side largest_side L rules (λ w. out (record { least = w.0; most = w.1 }))

  pub within_passes : SideWithin L → refusal_of (side_rule L ∷ rules) ≡ refusal_of rules
  within_passes w = in_range (TorusSide L) least_side largest_side L rules (w.least, w.most)
