-- The outcome of decoding a packed sheet is that of decoding its bytes, and as sound. Assumes nothing.
use Prim.Native.Nat.{ℕ}
use mathlib.Core.Path.{◌≡◌, refl, sym, ap, ap₂, ◌∙◌, subst}
use mathlib.Core.Logic.{◌↔◌}
use mathlib.Core.List.{List}
use mathlib.Core.Option.{none, some}
use lib.ListN.{length, replicate, length-replicate}
use Rattle.model.specs.declared.refusal.Refusal.{Refusal}
use Rattle.model.specs.Board.{Board, Sheet, sheet_of}
use Rattle.model.specs.Words.{bytes_in, unpacked_sheet}
use Rattle.model.specs.Refusals.{refusal_of, decode_refusal}
use Rattle.model.specs.WordRefusals.{packed_rules, decode_packed_refusal}
use Rattle.model.specs.Outcomes.{answer, key_or_none, decode_answer, Decodes}
use Rattle.model.specs.WordOutcomes.{decode_packed_answer, DecodesPacked, DecodesPackedSoundly}
use Rattle.board.proofs.Failures.{neither_fails}
use Rattle.board.proofs.Calls.{decode_passes}
use Rattle.theory.proofs.Demand3.{decodes_demand3}
use Rattle.packed.specs.Screened.{Unpackable}
use Rattle.packed.proofs.Screening.{as_decoding_refusal}
use Rattle.packed.proofs.WordTests.{packed_tests}
use Rattle.model.specs.Answers.{Decoded}
use Rattle.std.specs.Prelude.{Err}

-- as many zeros as there are
pub zeros_long : (n : ℕ) {l : List ℕ} → l ≡ replicate n 0 → length l ≡ n
zeros_long n p = ap length p ∙ length-replicate n 0

module _ (B : Board) (lit lost support correction : List ℕ) where
  abbrev X : Sheet
  X = unpacked_sheet B lit lost

  module _ (r : Decoded) (support' correction' : List ℕ) where
    -- where it is refused as decoding is, the outcome is decoding's
    pub same_outcome : decode_packed_refusal B lit lost support correction ≡ decode_refusal X support correction
        → DecodesPacked B lit lost support correction r support' correction' ↔ Decodes X support correction r support' correction'
    unfolding decode_answer decode_packed_answer unpacked_sheet
    same_outcome same = (
      λ d.
          record {
            result = d.result ∙ ap (λ t. answer t Err (key_or_none X)) same;
            support_bytes = d.support_bytes;
            correction_bytes = d.correction_bytes;
          },
      λ d.
          record {
            result = d.result ∙ ap (λ t. answer t Err (key_or_none X)) (sym same);
            support_bytes = d.support_bytes;
            correction_bytes = d.correction_bytes;
          },
    )

    packed_sound : DecodesPacked B lit lost support correction r support' correction'
        → DecodesPackedSoundly B lit lost support correction r support' correction'
    unfolding unpacked_sheet
    packed_sound d =
        let as_decoding : refusal_of (packed_rules B lit lost support correction) ≡ none → Decodes X support correction r support' correction' =
        λ p. (same_outcome (as_decoding_refusal B lit lost support correction p)).0 d in
        record {
          as_decoding = as_decoding;
          demand3 = λ p.
              let tests = packed_tests B lit lost support correction in
              let first = (neither_fails (refusal_of (packed_rules B lit lost support correction)) _ (sym tests ∙ p)).0 in
              let passed = sym (as_decoding_refusal B lit lost support correction first) ∙ p in
              let valid = (decode_passes X support correction passed).sheet in
              decodes_demand3 X support correction r support' correction' valid passed (as_decoding first);
        }

  -- decoding of the bytes that were unpacked is that of the sheet
  pub decoded_unpacked : {syndrome loss syndrome' loss' support' correction' : List ℕ} {r : Decoded} → Unpackable B lit lost syndrome loss
      → syndrome' ≡ bytes_in (length syndrome) lit → loss' ≡ bytes_in (length loss) lost
      → Decodes (sheet_of B syndrome' loss') support correction r support' correction' → Decodes X support correction r support' correction'
  unfolding unpacked_sheet
  decoded_unpacked {syndrome} {loss} {syndrome'} {loss'} {support'} {correction'} {r} u lit_is lost_is d =
      subst (λ Y. Decodes Y support correction r support' correction')
      (ap₂ (sheet_of B) (lit_is ∙ ap (λ k. bytes_in k lit) (zeros_long _ u.unlit)) (lost_is ∙ ap (λ k. bytes_in k lost) (zeros_long _ u.unlost)))
      d

  -- a test of the words, or one before it, fails
  pub packed_refused : (n : Refusal) → decode_packed_refusal B lit lost support correction ≡ some n
      → DecodesPacked B lit lost support correction (Err n) support correction
      × DecodesPackedSoundly B lit lost support correction (Err n) support correction
  unfolding decode_packed_answer
  packed_refused n p =
      let d : DecodesPacked B lit lost support correction (Err n) support correction =
      record {
        result = ap (λ t. answer t Err (key_or_none X)) (sym p);
        support_bytes = refl;
        correction_bytes = refl;
      } in
      (d, packed_sound (Err n) support correction d)

  -- the sheet is decoded
  pub packed_decoded : (r : Decoded) (support' correction' : List ℕ)
      → decode_packed_refusal B lit lost support correction ≡ decode_refusal X support correction
      → Decodes X support correction r support' correction'
      → DecodesPacked B lit lost support correction r support' correction' × DecodesPackedSoundly B lit lost support correction r support' correction'
  packed_decoded r support' correction' same d =
      let packed = (same_outcome r support' correction' same).1 d in
      (packed, packed_sound r support' correction' packed)
