-- Where the verdict with faces says "no correction", it shows vertex 0, since a torus is one part. Assumes nothing.
use Prim.Native.Nat.{ℕ}
use mathlib.Core.Path.{◌≡◌, refl, sym, ap, ◌∙◌}
use mathlib.Core.List.{List}
use mathlib.Core.Option.{Option, none, some}
use Rattle.model.specs.declared.answers.Verdict.TheVariants.{Refused}
use Rattle.model.specs.Sums.{ones}
use Rattle.model.specs.Board.{Sheet}
use Rattle.model.specs.Growth.{weighted}
use Rattle.model.specs.Decoding.{smallest_odd}
use Rattle.model.specs.Torus.{torus}
use Rattle.model.specs.Refusals.{place_of, none_at, faces_rules, faces_refusal}
use Rattle.model.specs.Outcomes.{answer, judged_or_none}
use Rattle.model.specs.FacesOutcomes.{torus_sheet, faces_answer}
use Rattle.theory.proofs.Precedence.{none_exactly}
use Rattle.theory.proofs.CallRefusals.{faces_last}
use Rattle.theory.proofs.WeightedGrowth.{weighted_feeds}
use Rattle.theory.proofs.Decodings.{corrected_has_syndrome}
use Rattle.theory.proofs.VerdictGround.{judged_answers}
use Rattle.verdict.proofs.VerdictAnswers.{none_verdict, judged_verdict}
use Rattle.torus.proofs.TorusConnected.{torus_shows_0}
use Rattle.faces.specs.Lent.{ForFaces}
use Rattle.faces.proofs.BuiltTorus.{sheet_valid}
use Rattle.faces.proofs.FaceTests.{faces_passes}

module _ (L : ℕ) (syndrome loss handed faces : List ℕ) (v : ℕ) (shown : faces_answer L syndrome loss handed faces ≡ Refused (none_at v)) where
  abbrev X : Sheet
  X = torus_sheet L syndrome loss

  passes : faces_refusal L syndrome loss handed faces ≡ none
  unfolding faces_refusal
  passes = (none_exactly (faces_rules L syndrome loss handed faces)).1 (faces_last L syndrome loss handed faces v shown)

  lent : ForFaces L syndrome loss handed faces
  lent = faces_passes L syndrome loss handed faces passes

  judged_none : judged_or_none X handed ≡ Refused (none_at v)
  unfolding faces_answer
  judged_none = sym (ap (λ t. answer t Refused (judged_or_none X handed)) passes) ∙ shown

  pub faces_shows_0 : v ≡ 0
  faces_shows_0 = go (smallest_odd (torus L) (ones syndrome)) refl
    where
      go : (o : Option ℕ) → smallest_odd (torus L) (ones syndrome) ≡ o → v ≡ 0
      go (some u) p =
          let both : Refused (none_at u) ≡ Refused (none_at v) = sym (none_verdict X handed u p) ∙ judged_none in
          let same : none_at v ≡ none_at u = cc in
          ap place_of same ∙ torus_shows_0 L lent.lent.side (ones syndrome) u p
      go none p =
          let valid = sheet_valid L syndrome loss handed lent.lent in
          let has = corrected_has_syndrome weighted X valid.board.inside valid.unlit (weighted_feeds (torus L) (ones syndrome)) p in
          absurd (judged_answers _ _ _ _ (none_at v) has (sym (judged_verdict X handed p) ∙ judged_none))
