-- What is solved is the outcome of `decode`, and of `decode_rounds`, by renaming the cases of the answer; the promises on which a user may rely
-- follow from the outcomes.
-- Assumes nothing.
use Prim.Native.Nat.{ℕ}
use mathlib.Core.Path.{◌≡◌, refl, ap, ◌∙◌, subst}
use mathlib.Core.List.{List}
use mathlib.Core.Option.{none, some}
use Rattle.model.specs.declared.refusal.Refusal.{Refusal}
use Rattle.model.specs.Board.{Sheet}
use Rattle.model.specs.Growth.{weighted}
use Rattle.model.specs.Rounds.{all_odd}
use Rattle.model.specs.Refusals.{Test, odd_part_test, decode_refusal}
use Rattle.model.specs.Outcomes.{answer, key_or, key_or_none, decode_answer, Decodes, DecodesSoundly}
use Rattle.model.specs.RoundsOutcomes.{rounds_or, rounds_or_none, rounds_answer, DecodesInRounds, RoundsSoundly}
use Rattle.board.proofs.Calls.{decode_passes}
use Rattle.theory.proofs.Demand3.{decodes_demand3}
use Rattle.theory.proofs.SoundRounds.{rounds_sound}
use Rattle.decoder.specs.Keys.{solved_or, solved_or_none, Solves, Solving}
use Rattle.model.specs.Answers.{Decoded, RoundsDecoded, key_with, rounds_with}
use Rattle.std.specs.Prelude.{Ok, Err}

-- another name for each case of an answer
abbrev as_decoded : Solving → Decoded
as_decoded (Ok k) = key_with k.count k.edges
as_decoded (Err n) = Err n

abbrev as_rounds : Solving → RoundsDecoded
as_rounds (Ok k) = rounds_with k.count k.edges
as_rounds (Err n) = Err n

-- a function that keeps refusals goes past the test
past : {A C : Type 0} (f : A → C) (refused : Refusal → A) (refused' : Refusal → C) → ((n : Refusal) → f (refused n) ≡ refused' n) → (t : Test) (a : A)
    → f (answer t refused a) ≡ answer t refused' (f a)
past f refused refused' keeps none a = refl
past f refused refused' keeps (some n) a = keeps n

module _ (X : Sheet) (support correction support' correction' : List ℕ) where
  -- both promises of each call, of which the second follows from the first
  abbrev DecodePromises : Decoded → Type 0
  DecodePromises r = Decodes X support correction r support' correction' × DecodesSoundly X support correction r correction'

  abbrev RoundsPromises : RoundsDecoded → Type 0
  RoundsPromises r = DecodesInRounds X support correction r support' correction' × RoundsSoundly X support correction r support' correction'

  decode_promises : {r : Decoded} → Decodes X support correction r support' correction' → DecodePromises r
  decode_promises {r} d =
      (d, record { demand3 = λ p. decodes_demand3 X support correction r support' correction' (decode_passes X support correction p).sheet p d })

  rounds_promises : {r : RoundsDecoded} → DecodesInRounds X support correction r support' correction' → RoundsPromises r
  rounds_promises {r} d =
      (d, record { sound = λ p. rounds_sound X support correction r support' correction' (decode_passes X support correction p).sheet p d })

  -- Weighted growth

  decoded_is : as_decoded (answer (decode_refusal X support correction) Err (solved_or_none weighted X)) ≡ decode_answer X support correction
  unfolding solved_or_none decode_answer key_or_none
  decoded_is =
      past as_decoded Err Err (λ n. refl) (decode_refusal X support correction) (solved_or_none weighted X)
      ∙ ap (answer (decode_refusal X support correction) Err) (past as_decoded Err Err (λ n. refl) (odd_part_test X) _)

  pub decodes : {r y : Solving} → r ≡ y → Solves weighted X support correction r support' correction' → DecodePromises (as_decoded y)
  decodes {r} {y} p w =
      let s = subst (λ z. Solves weighted X support correction z support' correction') p w in
      decode_promises
      (record {
        result = ap as_decoded s.result ∙ decoded_is;
        support_bytes = s.support_bytes ∙ left y _ _;
        correction_bytes = s.correction_bytes ∙ left y _ _;
      })
    where
      left : (y : Solving) (new old : List ℕ) → solved_or y new old ≡ key_or (as_decoded y) new old
      left (Ok k) new old = refl
      left (Err n) new old = refl

  -- Rounds

  rounds_are : as_rounds (answer (decode_refusal X support correction) Err (solved_or_none all_odd X)) ≡ rounds_answer X support correction
  unfolding solved_or_none rounds_answer rounds_or_none
  rounds_are =
      past as_rounds Err Err (λ n. refl) (decode_refusal X support correction) (solved_or_none all_odd X)
      ∙ ap (answer (decode_refusal X support correction) Err) (past as_rounds Err Err (λ n. refl) (odd_part_test X) _)

  pub decodes_in_rounds : {r y : Solving} → r ≡ y → Solves all_odd X support correction r support' correction' → RoundsPromises (as_rounds y)
  decodes_in_rounds {r} {y} p w =
      let s = subst (λ z. Solves all_odd X support correction z support' correction') p w in
      rounds_promises
      (record {
        result = ap as_rounds s.result ∙ rounds_are;
        support_bytes = s.support_bytes ∙ left y _ _;
        correction_bytes = s.correction_bytes ∙ left y _ _;
      })
    where
      left : (y : Solving) (new old : List ℕ) → solved_or y new old ≡ rounds_or (as_rounds y) new old
      left (Ok k) new old = refl
      left (Err n) new old = refl
