-- The outcome of the verdict with faces, where a test fails and where all pass, and what may be relied on of it. Assumes nothing.
use Prim.Native.Nat.{ℕ, ◌*◌, ◌≤◌}
use mathlib.Core.Path.{◌≡◌, refl, sym, ap, subst, ◌∙◌}
use mathlib.Core.List.{List}
use mathlib.Core.Option.{none, some}
use native.Mathlib.Nat.{mul-le-mul}
use lib.ListN.{length, get_or}
use Rattle.model.specs.declared.refusal.Refusal.{Refusal}
use Rattle.model.specs.declared.answers.Verdict.{Verdict}
use Rattle.model.specs.declared.answers.Verdict.TheVariants.{Same, Refused}
use Rattle.model.specs.Sums.{Set, bit, ones}
use Rattle.model.specs.Board.{Sheet}
use Rattle.model.specs.Decoding.{corrected}
use Rattle.model.specs.Verdict.{SoundVerdict}
use Rattle.model.specs.Torus.{least_side, largest_side, torus}
use Rattle.model.specs.Faces.{MakesUp, face_of, face_bytes}
use Rattle.model.specs.Refusals.{faces_refusal}
use Rattle.model.specs.Outcomes.{answer, judged_or_none, verdict_answer, Judges}
use Rattle.model.specs.FacesOutcomes.{torus_sheet, faces_answer, with_correction, same_or, ShowsFaces, FacesSoundly}
use Rattle.model.proofs.Contradiction.{zero_one}
use Rattle.model.proofs.ListLaws.{get_d_values}
use Rattle.model.proofs.Places.{answer_passed}
use Rattle.verdict.proofs.SoundVerdicts.{judges_sound}
use Rattle.faces.specs.Lent.{Answered}
use Rattle.faces.proofs.FaceSteps.{face_0_out}
use Rattle.faces.proofs.OnlySame.{faces_are_same}
use Rattle.faces.proofs.FacesExactly.{faces_make_up}
use Rattle.faces.proofs.FaceBytes.{bytes_make_up}
use Rattle.faces.proofs.FaceTests.{faces_passes}
use Rattle.faces.proofs.AsVerdict.{refuses_alike}

-- face 0 has byte 0
first_byte : (L : ℕ) (D : Set) → 1 ≤ L → get_or (face_bytes L D) 0 1 ≡ 0
unfolding face_bytes
first_byte L D one =
    get_d_values (L * L) (λ i. bit (face_of L D i)) 0 1 (mul-le-mul one one) ∙ ap bit (face_0_out L D one)

module _ (L : ℕ) (syndrome loss handed faces : List ℕ) where
  abbrev X : Sheet
  X = torus_sheet L syndrome loss

  abbrev D : Set
  D = with_correction L syndrome loss handed

  module _ (r : Verdict) (faces' : List ℕ) (shows : ShowsFaces L syndrome loss handed faces r faces') where
    -- the verdict's answer
    as_verdict : least_side ≤ L → L ≤ largest_side → length faces ≡ L * L → Judges X handed r
    unfolding faces_answer verdict_answer
    as_verdict least most long =
        record {
          result =
              shows.result
              ∙ ap (λ t. answer t Refused (judged_or_none X handed))
              (refuses_alike L (record { least = least; most = most }) syndrome loss handed faces long);
        }

    -- it is as sound as that where nothing was refused
    relied : (p : faces_refusal L syndrome loss handed faces ≡ none)
        → SoundVerdict (torus L) (ones syndrome) (ones loss) (corrected X) (ones handed) r
    relied p =
        let w = faces_passes L syndrome loss handed faces p in
        let side = w.lent.side in
        (judges_sound X handed r (as_verdict side.least side.most w.faces_sized_lem)).sound
        (sym (refuses_alike L side syndrome loss handed faces w.faces_sized_lem) ∙ p)

    filled : r ≡ Same → faces' ≡ face_bytes L D
    filled same = shows.faces_filled ∙ ap (λ v. same_or v (face_bytes L D) faces) same

    module _ (same : r ≡ Same) where
      same_passes : faces_refusal L syndrome loss handed faces ≡ none
      unfolding faces_answer
      same_passes = answer_passed _ _ r shows.result (λ n p. zero_one (cc))

      same_side : 1 ≤ L
      same_side = (faces_passes L syndrome loss handed faces same_passes).lent.side.least

      made_up : MakesUp L (ones faces') D
      made_up =
          let s = (relied same_passes).same same in
          subst (λ l. MakesUp L (ones l) D) (sym (filled same)) (bytes_make_up L D (faces_make_up L same_side D s.0 s.1))

      without_0 : get_or faces' 0 1 ≡ 0
      without_0 = ap (λ l. get_or l 0 1) (filled same) ∙ first_byte L D same_side

    only_same : (f : Set) → MakesUp L f D → ((n : Refusal) → r ≡ Refused n → ⊥) → r ≡ Same
    unfolding faces_answer
    only_same f makes unrefused =
        let p = answer_passed _ _ r shows.result unrefused in
        faces_are_same L syndrome loss handed (faces_passes L syndrome loss handed faces p).lent f makes r (shows.result ∙ rw p) unrefused

    soundly : FacesSoundly L syndrome loss handed faces r faces'
    soundly =
        record {
          as_verdict = as_verdict;
          sound = λ least most long. judges_sound X handed r (as_verdict least most long);
          made_up = made_up;
          without_0 = without_0;
          only_same = only_same;
        }

  -- what the call promises
  abbrev pub Promised : Verdict → List ℕ → Type 0
  Promised r faces' = ShowsFaces L syndrome loss handed faces r faces' × FacesSoundly L syndrome loss handed faces r faces'

  pub faces_refused : (n : Refusal) → faces_refusal L syndrome loss handed faces ≡ some n → Promised (Refused n) faces
  unfolding faces_answer
  faces_refused n p =
      let shows : ShowsFaces L syndrome loss handed faces (Refused n) faces = record { result = rw p; faces_filled = refl } in
      (shows, soundly (Refused n) faces shows)

  pub faces_answered : (r : Verdict) (faces' : List ℕ) → faces_refusal L syndrome loss handed faces ≡ none
      → Answered L syndrome loss handed faces r faces' → Promised r faces'
  unfolding faces_answer
  faces_answered r faces' p a =
      let shows : ShowsFaces L syndrome loss handed faces r faces' = record { result = rw p a.result; faces_filled = a.faces_filled } in
      (shows, soundly r faces' shows)
