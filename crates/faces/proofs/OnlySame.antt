-- Where some faces make up the handed-in set and the correction together, and nothing is refused, the verdict is same: what faces make up
-- is closed, so that the handed-in set has the syndrome of the correction, and does not wind. Assumes nothing.
use Prim.Native.Nat.{ℕ}
use mathlib.Core.Path.{◌≡◌, refl, sym, ◌∙◌}
use mathlib.Core.List.{List}
use mathlib.Core.Option.{Option, none, some}
use Rattle.model.specs.declared.refusal.Refusal.{Refusal}
use Rattle.model.specs.declared.answers.Verdict.{Verdict}
use Rattle.model.specs.declared.answers.Verdict.TheVariants.{Same, Refused}
use Rattle.model.specs.Sums.{Set, ones}
use Rattle.model.specs.Board.{Board, Sheet, ValidSheet}
use Rattle.model.specs.Syndrome.{syndrome, HasSyndrome}
use Rattle.model.specs.Winding.{together}
use Rattle.model.specs.Growth.{weighted}
use Rattle.model.specs.Decoding.{smallest_odd, corrected}
use Rattle.model.specs.Torus.{torus}
use Rattle.model.specs.Faces.{MakesUp}
use Rattle.model.specs.Refusals.{none_at}
use Rattle.model.specs.Outcomes.{judged_or_none}
use Rattle.model.specs.FacesOutcomes.{torus_sheet, with_correction}
use Rattle.model.proofs.Xor.{xor_equal}
use Rattle.theory.proofs.Syndromes.{syndrome_together}
use Rattle.theory.proofs.CrossedLines.{Closed}
use Rattle.theory.proofs.WeightedGrowth.{weighted_feeds}
use Rattle.theory.proofs.Decodings.{corrected_has_syndrome}
use Rattle.theory.proofs.VerdictGround.{unwound_same}
use Rattle.verdict.proofs.VerdictAnswers.{none_verdict, judged_verdict}
use Rattle.faces.specs.Lent.{OnTorus}
use Rattle.faces.proofs.BuiltTorus.{sheet_valid}
use Rattle.faces.proofs.FaceSums.{made_up_closed, made_up_unwound}

-- of two sets that are closed together, one has the syndrome that the other has
other_has : (B : Board) (H C S : Set) → Closed B (together H C) → HasSyndrome B C S → HasSyndrome B H S
other_has B H C S shut has =
    record { at = λ v h. xor_equal (syndrome B H v) (syndrome B C v) (sym (syndrome_together B H C v) ∙ shut.at v h) ∙ has.at v h }

module _ (L : ℕ) (lit loss handed : List ℕ) (w : OnTorus L lit loss handed) (f : Set) (makes : MakesUp L f (with_correction L lit loss handed))
    (r : Verdict) (result : r ≡ judged_or_none (torus_sheet L lit loss) handed) (unrefused : (n : Refusal) → r ≡ Refused n → ⊥) where
  abbrev X : Sheet
  X = torus_sheet L lit loss

  valid : ValidSheet X
  valid = sheet_valid L lit loss handed w

  pub faces_are_same : r ≡ Same
  faces_are_same = go (smallest_odd (torus L) (ones lit)) refl
    where
      go : (o : Option ℕ) → smallest_odd (torus L) (ones lit) ≡ o → r ≡ Same
      go (some u) p = absurd (unrefused (none_at u) (result ∙ none_verdict X handed u p))
      go none p =
          let side = w.side.least in
          let has = corrected_has_syndrome weighted X valid.board.inside valid.unlit (weighted_feeds (torus L) (ones lit)) p in
          let hands = other_has (torus L) (ones handed) (corrected X) (ones lit) (made_up_closed L side f _ makes) has in
          result
          ∙ judged_verdict X handed p
          ∙ unwound_same (torus L) (ones lit) (corrected X) (ones handed) has hands (made_up_unwound L side f _ makes)
