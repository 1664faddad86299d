-- Document 02, K7: the outcome of packing, of unpacking, of the lit total, of the list of lit vertices and of decoding a packed sheet, and
-- what may be relied on. The words of a syndrome are called `lit` here, those of the losses `lost`.
-- Assumes nothing.
use Rattle.std.specs.Prelude.{ℕ, ◌≡◌, true, List, ◌++◌, length, drop, Ok, Err}
use Rattle.std.proofs.Math.Option.{none}
use Rattle.model.specs.Sums.{ones, count_up_to, bytes}
use Rattle.model.specs.Board.{Board, edges}
use Rattle.model.specs.Decoding.{supports, corrected}
use Rattle.model.specs.Demand3.{Demand3}
use Rattle.model.specs.Words.{in_words, word_count, words_of, bytes_in, unpacked_sheet, lit_total, lit_vertices}
use Rattle.model.specs.Refusals.{refusal_of, sized}
use Rattle.model.specs.WordRefusals.{pack_refusal, unpack_refusal, lit_refusal, packed_rules, decode_packed_refusal}
use Rattle.model.specs.Outcomes.{answer, key_or, key_or_none, Decodes}
use Rattle.model.specs.Answers.{Decoded, Lit, Packed, Reading, counts_with, word_counts_with}

-- Packing answers with the words that it fills, of the syndrome and of the losses; its buffers end as these words, or as they were where it
-- refuses.
unfoldable pub pack_answer : ℕ → ℕ → List ℕ → List ℕ → List ℕ → List ℕ → Packed
pack_answer n m syndrome loss lit lost =
    answer (pack_refusal n m syndrome loss lit lost) Err (word_counts_with (word_count n) (word_count m))

abbrev pub packed_or : {A : Type 0} → Packed → A → A → A
packed_or (Ok c) new old = new
packed_or (Err n) new old = old

pub record Packs (n m : ℕ) (syndrome loss lit lost : List ℕ) (r : Packed) (lit' lost' : List ℕ) : Type 0 where
  pub result : r ≡ pack_answer n m syndrome loss lit lost
  pub syndrome_packed : lit' ≡ packed_or r (words_of n (ones syndrome)) lit
  pub loss_packed : lost' ≡ packed_or r (words_of m (ones loss)) lost

-- What a lab may rely on, of the words that were written: unpacking into as many bytes doesn't refuse them, and gives back the bytes.
pub record PacksSoundly (n m : ℕ) (syndrome loss : List ℕ) (r : Packed) (lit' lost' : List ℕ) : Type 0 where
  pub accepted : (i j : ℕ) → r ≡ word_counts_with i j → unpack_refusal n m lit' lost' syndrome loss ≡ none
  pub syndrome_back : (i j : ℕ) → r ≡ word_counts_with i j → bytes_in n lit' ≡ syndrome
  pub loss_back : (i j : ℕ) → r ≡ word_counts_with i j → bytes_in m lost' ≡ loss

-- Unpacking answers with both counts; its buffers end as the bytes, or as they were where it refuses.
unfoldable pub unpack_answer : ℕ → ℕ → List ℕ → List ℕ → List ℕ → List ℕ → Reading
unpack_answer n m lit lost syndrome loss =
    answer (unpack_refusal n m lit lost syndrome loss) Err (counts_with n m)

abbrev pub counts_or : {A : Type 0} → Reading → A → A → A
counts_or (Ok c) new old = new
counts_or (Err n) new old = old

pub record Unpacks (n m : ℕ) (lit lost syndrome loss : List ℕ) (r : Reading) (syndrome' loss' : List ℕ) : Type 0 where
  pub result : r ≡ unpack_answer n m lit lost syndrome loss
  pub syndrome_bytes : syndrome' ≡ counts_or r (bytes_in n lit) syndrome
  pub loss_bytes : loss' ≡ counts_or r (bytes_in m lost) loss

-- What a lab may rely on, of the bytes that were written: packing into as many words doesn't refuse them, and gives back the words.
pub record UnpacksSoundly (n m : ℕ) (lit lost : List ℕ) (r : Reading) (syndrome' loss' : List ℕ) : Type 0 where
  pub accepted : (i j : ℕ) → r ≡ counts_with i j → pack_refusal n m syndrome' loss' lit lost ≡ none
  pub syndrome_back : (i j : ℕ) → r ≡ counts_with i j → words_of n (ones syndrome') ≡ lit
  pub loss_back : (i j : ℕ) → r ≡ counts_with i j → words_of m (ones loss') ≡ lost

-- The lit total.
unfoldable pub lit_answer : ℕ → List ℕ → Lit
lit_answer n words = answer (lit_refusal n words true) Err (Ok (lit_total words))

pub record Totals (n : ℕ) (words : List ℕ) (r : Lit) : Type 0 where
  pub result : r ≡ lit_answer n words

-- What may be relied on of a total: it is the number of lit vertices, and the length of their list.
pub record TotalsSoundly (n : ℕ) (words : List ℕ) (r : Lit) : Type 0 where
  pub vertices : (t : ℕ) → r ≡ Ok t → t ≡ count_up_to n (in_words words)
  pub listed : (t : ℕ) → r ≡ Ok t → t ≡ length (lit_vertices n words)

-- The list of lit vertices stands at the front of its buffer, whose other entries stay.
unfoldable pub list_answer : ℕ → List ℕ → List ℕ → Lit
list_answer n words list = answer (lit_refusal n words (sized list n)) Err (Ok (lit_total words))

abbrev pub total_or : {A : Type 0} → Lit → A → A → A
total_or (Ok t) new old = new
total_or (Err n) new old = old

pub record Lists (n : ℕ) (words list : List ℕ) (r : Lit) (list' : List ℕ) : Type 0 where
  pub result : r ≡ list_answer n words list
  pub filled : list' ≡ total_or r (lit_vertices n words ++ drop (length (lit_vertices n words)) list) list

-- Decoding of a packed sheet: the refusal of its own tests, or what decoding answers on the sheet once its tests are passed.
unfoldable pub decode_packed_answer : Board → List ℕ → List ℕ → List ℕ → List ℕ → Decoded
decode_packed_answer B lit lost support correction =
    answer (decode_packed_refusal B lit lost support correction) Err (key_or_none (unpacked_sheet B lit lost))

pub record DecodesPacked (B : Board) (lit lost support correction : List ℕ) (r : Decoded) (support' correction' : List ℕ) : Type 0 where
  pub result : r ≡ decode_packed_answer B lit lost support correction
  pub support_bytes : support' ≡ key_or r (supports (unpacked_sheet B lit lost)) support
  pub correction_bytes : correction' ≡ key_or r (bytes (edges B) (corrected (unpacked_sheet B lit lost))) correction

-- What may be relied on. Where 1, 2, 3, 4, 6 and 19 pass, the outcome is decoding's own of the unpacked bytes, its refusals among them; and
-- where nothing that is lent is refused, demand 3 holds of it.
pub record DecodesPackedSoundly (B : Board) (lit lost support correction : List ℕ) (r : Decoded) (support' correction' : List ℕ) : Type 0 where
  pub as_decoding :
      refusal_of (packed_rules B lit lost support correction) ≡ none →
      Decodes (unpacked_sheet B lit lost) support correction r support' correction'
  pub demand3 :
      decode_packed_refusal B lit lost support correction ≡ none →
      Demand3 B (ones (unpacked_sheet B lit lost).syndrome) (ones (unpacked_sheet B lit lost).loss) r (ones correction')
