-- Document 02, K7: packed sheets by hand, at the ends of words. Gathered as one list, each proved by computation.
-- Assumes nothing.
use Rattle.std.specs.Prelude.{ℕ, ◌^◌, ◌≡◌, refl, List, [], ◌∷◌, Err}
use Rattle.std.proofs.Math.Option.{none, some}
use Rattle.model.specs.declared.refusal.Refusal.{Refusal}
use Rattle.model.specs.declared.refusal.Refusal.TheVariants.{MarkRange, PastLast, LitOpen}
use Rattle.model.specs.Sums.{odd_up_to, count_up_to, some_up_to, first_up_to, values, bytes, members}
use Rattle.model.specs.Board.{Board, board_of}
use Rattle.model.specs.Components.{labels_up_to, labels}
use Rattle.model.specs.Growth.{start, clusters, oddly_lit, holds_open, odd, exposed, boundary, choice_up_to, choice, swell, weighted, grow_from, grown}
use Rattle.model.specs.Forest.{taken_up_to, forest}
use Rattle.model.specs.Correction.{odd_side, spanned, odd_ends, correction}
use Rattle.model.specs.Decoding.{parts, in_odd_part, smallest_odd, grown_by, peeled}
use Rattle.model.specs.Words.{word_count, number_with, words_of, bytes_in, unpacked_sheet, past_last, lit_total, lit_vertices}
use Rattle.model.specs.Refusals.{Test, board_rules}
use Rattle.model.specs.WordRefusals.{word_rule, word_rules, unpack_rules, unpack_refusal, packed_rules, decode_packed_rules, decode_packed_refusal}
use Rattle.model.specs.Outcomes.{key_or_none}
use Rattle.model.specs.WordOutcomes.{decode_packed_answer}
use Rattle.model.specs.MarkedSheets.{set_of}
use Rattle.model.specs.Answers.{Decoded, key_with}

-- n items as words, of which those on a list are set
abbrev pub words_with : ℕ → List ℕ → List ℕ
words_with n l = words_of n (set_of l)

-- unpacking 2 vertices and 65 edges
abbrev pub refused_words : List ℕ → List ℕ → Test
refused_words syndrome loss = unpack_refusal 2 65 syndrome loss (values 2 (λ i. 0)) (values 65 (λ i. 0))

-- the word of number 19
abbrev pub at_word : ℕ → Refusal
at_word w = PastLast (record { 0 = w })

-- the ring of four vertices, with the marks of its edges and its open vertices
abbrev pub ring_with : List ℕ → List ℕ → Board
ring_with marks opened = board_of 4 (0 ∷ 1 ∷ 1 ∷ 2 ∷ 2 ∷ 3 ∷ 3 ∷ 0 ∷ []) marks (bytes 4 (set_of opened))

-- its packed syndrome decoded, with no edge lost
abbrev pub ring_decoded : List ℕ → List ℕ → ℕ → Decoded
ring_decoded marks opened syndrome =
    decode_packed_answer (ring_with marks opened) (syndrome ∷ []) (0 ∷ []) (0 ∷ 0 ∷ 0 ∷ 0 ∷ []) (0 ∷ 0 ∷ 0 ∷ 0 ∷ [])

pub record WordSheets : Type 0 where
  -- no item fills no word, and 65 items fill two
  pub no_word : word_count 0 ≡ 0
  pub one_word : word_count 64 ≡ 1
  pub two_words : word_count 65 ≡ 2
  -- item 0 is the lowest bit of the first word, item 63 its highest, item 64 the lowest of the second
  pub lowest : words_with 64 (0 ∷ []) ≡ 1 ∷ []
  pub highest : words_with 64 (63 ∷ []) ≡ 2 ^ 63 ∷ []
  pub second : words_with 65 (1 ∷ 64 ∷ []) ≡ 2 ∷ 1 ∷ []
  -- what is no item fills no bit
  pub no_item : words_with 3 (0 ∷ 2 ∷ 3 ∷ []) ≡ 5 ∷ []
  pub back : bytes_in 3 (5 ∷ []) ≡ 1 ∷ 0 ∷ 1 ∷ []
  -- the total, and the list of vertices, rising
  pub total : lit_total (3 ∷ 2 ^ 63 ∷ []) ≡ 3
  pub listed : lit_vertices 128 (3 ∷ 2 ^ 63 ∷ []) ≡ 0 ∷ 1 ∷ 127 ∷ []
  -- Of two vertices bits 0 and 1 are items, bit 2 is past the last; of 65 edges bit 1 of the second word. Of both, the syndrome's is shown.
  pub within : refused_words (3 ∷ []) (0 ∷ 1 ∷ []) ≡ none
  pub past_vertices : refused_words (4 ∷ []) (0 ∷ 0 ∷ []) ≡ some (at_word 0)
  pub past_edges : refused_words (0 ∷ []) (2 ^ 63 ∷ 2 ∷ []) ≡ some (at_word 1)
  pub syndrome_first : refused_words (4 ∷ []) (0 ∷ 2 ∷ []) ≡ some (at_word 0)
  -- Sheet m1's key, of packed words. A mark comes before a bit past the last item, and that before an open vertex that is lit.
  pub key : ring_decoded (0 ∷ 0 ∷ 0 ∷ 1 ∷ []) [] 9 ≡ key_with 2 1
  pub mark_first : ring_decoded (0 ∷ 0 ∷ 0 ∷ 4 ∷ []) [] 16 ≡ Err (MarkRange (record { 0 = 3 }))
  pub word_first : ring_decoded (0 ∷ 0 ∷ 0 ∷ 1 ∷ []) (0 ∷ []) 17 ≡ Err (at_word 0)
  pub lit_open : ring_decoded (0 ∷ 0 ∷ 0 ∷ 1 ∷ []) (0 ∷ []) 1 ≡ Err (LitOpen (record { 0 = 0 }))

pub word_sheets : WordSheets
unfolding members set_of odd_up_to count_up_to some_up_to first_up_to values labels_up_to labels start clusters oddly_lit holds_open odd exposed boundary choice_up_to choice swell weighted grow_from grown taken_up_to forest odd_side spanned odd_ends correction parts in_odd_part smallest_odd grown_by peeled number_with words_of bytes_in unpacked_sheet past_last lit_total lit_vertices board_rules word_rule word_rules unpack_rules unpack_refusal packed_rules decode_packed_rules decode_packed_refusal key_or_none decode_packed_answer
word_sheets =
    record {
      no_word = refl;
      one_word = refl;
      two_words = refl;
      lowest = refl;
      highest = refl;
      second = refl;
      no_item = refl;
      back = refl;
      total = refl;
      listed = refl;
      within = refl;
      past_vertices = refl;
      past_edges = refl;
      syndrome_first = refl;
      key = refl;
      mark_first = refl;
      word_first = refl;
      lit_open = refl;
    }
