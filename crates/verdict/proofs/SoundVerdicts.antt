-- What a marker may rely on follows from the verdict's outcome. Assumes nothing.
use Prim.Native.Nat.{ℕ, ◌+◌, ◌*◌}
use mathlib.Core.Path.{◌≡◌, refl, sym, ◌∙◌}
use mathlib.Core.Bool.{false}
use mathlib.Core.List.{List}
use mathlib.Core.Option.{Option, none, some}
use Rattle.model.specs.declared.answers.Verdict.{Verdict}
use Rattle.model.specs.declared.answers.Verdict.TheVariants.{Refused}
use Rattle.model.specs.Sums.{Set, ones}
use Rattle.model.specs.Board.{Board, Sheet, ValidSheet, Inside}
use Rattle.model.specs.Syndrome.{HasSyndrome}
use Rattle.model.specs.Winding.{winds, together}
use Rattle.model.specs.Decoding.{smallest_odd, corrected}
use Rattle.model.specs.Growth.{weighted}
use Rattle.model.specs.Demand3.{Unmet, EveryLoopAbove, lost_edges, kept_edges}
use Rattle.model.specs.Verdict.{judged, SoundVerdict}
use Rattle.model.specs.Refusals.{none_at, verdict_refusal}
use Rattle.model.specs.Outcomes.{judged_or_none, Judges, JudgesSoundly}
use Rattle.model.proofs.Contradiction.{zero_one}
use Rattle.theory.proofs.NoCorrection.{no_correction_unmet}
use Rattle.theory.proofs.WeightedGrowth.{weighted_feeds}
use Rattle.theory.proofs.Decodings.{key_reached, corrected_full, corrected_has_syndrome}
use Rattle.theory.proofs.NotWinding.{not_winding}
use Rattle.theory.proofs.VerdictGround.{judged_same, judged_wound, unwound_same, judged_answers}
use Rattle.board.proofs.Calls.{verdict_passes}
use Rattle.verdict.proofs.VerdictAnswers.{passed_verdict, none_verdict, judged_verdict}

module _ (B : Board) (S lost C H : Set) where
  -- number 10: no set has the syndrome
  sound_none : (shown : ℕ) (r : Verdict) → r ≡ Refused (none_at shown) → Unmet B S → SoundVerdict B S lost C H r
  sound_none shown r q unmet =
      record {
        none_exactly = (λ a. unmet, λ u. record { vertex = record { 0 = shown }; answer = q });
        same = λ p. zero_one (cc);
        wound = λ x p. zero_one (cc);
        promise = λ has above. absurd (unmet H has);
      }

  -- a comparison with the correction
  sound_judged : (r : Verdict) → r ≡ judged B S C H → HasSyndrome B C S →
      (HasSyndrome B H S → EveryLoopAbove B (lost_edges B lost + 2 * kept_edges B lost H) → winds B (together H C) ≡ false) →
      SoundVerdict B S lost C H r
  sound_judged r q has unwound =
      record {
        none_exactly = (λ a. absurd (judged_answers B S C H _ has (sym q ∙ a.answer)), λ unmet. absurd (unmet C has));
        same = λ p. let w = judged_same B S C H has (sym q ∙ p) in (w.is_closed, w.winding);
        wound = λ x p. let w = judged_wound B S C H x has (sym q ∙ p) in (w.is_closed, w.winding);
        promise = λ hands above. q ∙ unwound_same B S C H has hands (unwound hands above);
      }

module _ (X : Sheet) (handed : List ℕ) (r : Verdict) (j : Judges X handed r) where
  -- on a sheet and a set that pass the tests
  passed_sound : verdict_refusal X handed ≡ none →
      SoundVerdict X.board (ones X.syndrome) (ones X.loss) (corrected X) (ones handed) r
  passed_sound passed = go (smallest_odd B S) refl
    where
      B : Board
      B = X.board

      S : Set
      S = ones X.syndrome

      valid : ValidSheet X
      valid = (verdict_passes X handed passed).sheet

      within : Inside B
      within = valid.board.inside

      result : r ≡ judged_or_none X handed
      result = j.result ∙ passed_verdict X handed passed

      go : (o : Option ℕ) → smallest_odd B S ≡ o → SoundVerdict B S (ones X.loss) (corrected X) (ones handed) r
      go (some v) p =
          sound_none B S (ones X.loss) (corrected X) (ones handed) v r (result ∙ none_verdict X handed v p)
          (no_correction_unmet B within S v p)
      go none p =
          let has = corrected_has_syndrome weighted X within valid.unlit (weighted_feeds B S) p in
          sound_judged B S (ones X.loss) (corrected X) (ones handed) r (result ∙ judged_verdict X handed p) has
          (λ hands above.
          not_winding B within S (ones X.loss) (ones handed) (corrected X) hands has (key_reached weighted X) (corrected_full weighted X) above)

  -- whatever meets the verdict's outcome is what a marker may rely on
  pub judges_sound : JudgesSoundly X handed r
  judges_sound = record { sound = passed_sound }
