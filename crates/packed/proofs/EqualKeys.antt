-- Theorem: packed and plain sheets give equal keys, for any numbers of vertices and edges, and are refused alike. Assumes nothing.
use Prim.Native.Nat.{ℕ}
use mathlib.Core.Path.{◌≡◌, ap, ap₂, ◌∙◌, subst}
use mathlib.Core.Logic.{◌↔◌}
use mathlib.Core.List.{List}
use Rattle.model.specs.Sums.{ones}
use Rattle.model.specs.Board.{Board, ValidBytes, sheet_of}
use Rattle.model.specs.Words.{words_of, unpacked_sheet}
use Rattle.model.specs.Refusals.{edges_of, decode_refusal}
use Rattle.model.specs.WordRefusals.{decode_packed_refusal}
use Rattle.model.specs.Outcomes.{answer, key_or_none, decode_answer, Decodes}
use Rattle.model.specs.WordOutcomes.{decode_packed_answer, DecodesPacked}
use Rattle.packed.proofs.PackedDecoding.{same_outcome}
use Rattle.packed.proofs.RoundTrips.{words_within, unpacks_packed}
use Rattle.packed.proofs.Screening.{as_unpacked}
use Rattle.model.specs.Answers.{Decoded}
use Rattle.std.specs.Prelude.{Err}

module _ (B : Board) (syndrome loss : List ℕ) (lit : ValidBytes B.vertices syndrome) (lost : ValidBytes (edges_of B.ends) loss) where
  -- the words of both
  abbrev lit_words : List ℕ
  lit_words = words_of B.vertices (ones syndrome)

  abbrev lost_words : List ℕ
  lost_words = words_of (edges_of B.ends) (ones loss)

  -- the sheet that they hold is the plain one
  same_sheet : unpacked_sheet B lit_words lost_words ≡ sheet_of B syndrome loss
  unfolding unpacked_sheet
  same_sheet = ap₂ (sheet_of B) (unpacks_packed B.vertices syndrome lit) (unpacks_packed (edges_of B.ends) loss lost)

  module _ (support correction : List ℕ) where
    as_own_sheet : decode_packed_refusal B lit_words lost_words support correction ≡ decode_refusal (unpacked_sheet B lit_words lost_words) support correction
    as_own_sheet =
        as_unpacked B lit_words lost_words support correction
        (words_within B.vertices (ones syndrome))
        (words_within (edges_of B.ends) (ones loss))

    -- it is refused alike, whatever is broken
    pub equal_refusals : decode_packed_refusal B lit_words lost_words support correction ≡ decode_refusal (sheet_of B syndrome loss) support correction
    equal_refusals = as_own_sheet ∙ ap (λ X. decode_refusal X support correction) same_sheet

    -- the answers are equal
    pub equal_answers : decode_packed_answer B lit_words lost_words support correction ≡ decode_answer (sheet_of B syndrome loss) support correction
    unfolding decode_packed_answer decode_answer
    equal_answers = ap₂ (λ t X. answer t Err (key_or_none X)) equal_refusals same_sheet

    -- and with them all that is written: an outcome of the one is an outcome of the other
    pub equal_keys : (r : Decoded) (support' correction' : List ℕ)
        → DecodesPacked B lit_words lost_words support correction r support' correction'
        ↔ Decodes (sheet_of B syndrome loss) support correction r support' correction'
    equal_keys r support' correction' =
        subst
        (λ X. DecodesPacked B lit_words lost_words support correction r support' correction' ↔ Decodes X support correction r support' correction')
        same_sheet
        (same_outcome B lit_words lost_words support correction r support' correction' as_own_sheet)
