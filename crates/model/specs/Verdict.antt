-- Document 01, "Verdict": how a handed-in set H compares with the correction C, and what a marker may rely on.
-- Assumes nothing.
use Rattle.std.specs.Prelude.{ℕ, ◌+◌, ◌*◌, ◌≡◌, true, false, cond, ◌↔◌, eqb}
use Rattle.std.proofs.Math.Option.{Option, none, some}
use Rattle.model.specs.declared.answers.Verdict.{Verdict}
use Rattle.model.specs.declared.answers.Verdict.TheVariants.{Off, Same, Wound, Refused}
use Rattle.model.specs.Sums.{Set, ◌⊕◌, first_up_to}
use Rattle.model.specs.Board.{Board}
use Rattle.model.specs.Syndrome.{syndrome, HasSyndrome}
use Rattle.model.specs.Winding.{closed, winds, crossings, together}
use Rattle.model.specs.Demand3.{AnswersNone, Unmet, EveryLoopAbove, lost_edges, kept_edges}

-- the smallest vertex where the syndrome of H is not S, if there is one
unfoldable pub differs : Board → Set → Set → Option ℕ
differs B S H = first_up_to B.vertices (λ v. syndrome B H v ⊕ S v)

-- by x, the exclusive or over the marks of H and C together: 0 is same, and 1 to 3 is wound with this x
abbrev pub compared : ℕ → Verdict
compared x = cond (eqb x 0) Same (Wound x)

-- Off with v, the smallest vertex where the two syndromes differ. Without one, H has the syndrome of C, so that H and C together are closed,
-- and x decides.
abbrev pub judged_at : Option ℕ → ℕ → Verdict
judged_at (some v) x = Off (record { 0 = v })
judged_at none x = compared x

unfoldable pub judged : Board → Set → Set → Set → Verdict
judged B S C H = judged_at (differs B S H) (crossings B (together H C))

-- What a marker may rely on, of a verdict r on H beside the correction C: 10 exactly when no set has the syndrome; under same and wound
-- the two together are closed, and it is wound exactly when they wind; and H is the same as the correction wherever it has the
-- syndrome and every winding loop has more than t + 2s edges, s of H's edges not being lost.
pub record SoundVerdict (B : Board) (S lost C H : Set) (r : Verdict) : Type 0 where
  pub none_exactly : AnswersNone Refused r ↔ Unmet B S
  pub same : r ≡ Same → (closed B (together H C) ≡ true) × (winds B (together H C) ≡ false)
  pub wound : (x : ℕ) → r ≡ Wound x → (closed B (together H C) ≡ true) × (winds B (together H C) ≡ true)
  pub promise : HasSyndrome B H S → EveryLoopAbove B (lost_edges B lost + 2 * kept_edges B lost H) → r ≡ Same
