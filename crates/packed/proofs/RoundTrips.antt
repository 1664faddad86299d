-- Packing and unpacking undo each other, for any number of items. Assumes nothing.
use Prim.Native.Nat.{ℕ, ◌+◌, ◌*◌, ◌/◌, ◌%◌, ◌^◌, ◌<◌}
use mathlib.Core.Path.{◌≡◌, sym, ap, ◌∙◌, subst}
use mathlib.Core.Bool.{false, ◌&&◌}
use mathlib.Core.List.{List}
use native.Mathlib.Decide.{dec_lt}
use native.Mathlib.Omega.{arith}
use borrow.Author.Tests.{lt-ltb, le-ltb, le-leb, lt-leb}
use lib.ListN.{length, get_or}
use lib.Dec.{ltb}
use Rattle.model.specs.Sums.{Set, bit, ones}
use Rattle.model.specs.Board.{ValidBytes}
use Rattle.model.specs.Words.{bit_of, in_words, word_count, number_with, items_of, words_of, bytes_in, past_last}
use Rattle.model.proofs.ListLaws.{length_values, get_d_values, values_are, ones_bytes}
use Rattle.model.proofs.SumLaws.{none_some, some_none}
use Rattle.model.proofs.Bits.{byte_bit}
use Rattle.theory.proofs.BitLaws.{number_bit, number_cong, number_of_bits}
use Rattle.packed.proofs.PastLast.{in_word}
use Rattle.packed.proofs.WordTests.{WithinWords}

module _ (n : ℕ) (D : Set) where
  -- What packed words hold

  pub words_long : length (words_of n D) ≡ word_count n
  unfolding words_of
  words_long = length_values (word_count n) _

  word_is : (w : ℕ) → w < word_count n → get_or (words_of n D) w 0 ≡ number_with 64 (items_of n D w)
  unfolding words_of
  word_is w h = get_d_values (word_count n) (λ w. number_with 64 (items_of n D w)) w 0 h

  -- bit k of word w
  word_bit : (w k : ℕ) → w < word_count n → k < 64 → bit_of (get_or (words_of n D) w 0) k ≡ items_of n D w k
  word_bit w k h l = ap (λ x. bit_of x k) (word_is w h) ∙ number_bit 64 (items_of n D w) k l

  -- each item is there
  words_hold : (i : ℕ) → i < n → in_words (words_of n D) i ≡ D i
  words_hold i h =
      let split : 64 * (i / 64) + i % 64 ≡ i = omega arith in
      word_bit (i / 64) (i % 64) (omega arith) (omega arith)
      ∙ ap (λ j. ltb j n && D j) split
      ∙ ap (λ b. b && D i) (lt-ltb i n h)

  -- and nothing past the last
  words_end : (w : ℕ) → w < length (words_of n D) → past_last n (words_of n D) w ≡ false
  unfolding past_last
  words_end w h =
      none_some 64 _ (λ k l.
      rw (word_bit w k (subst (λ c. w < c) words_long h) l)
      (elim (dec_lt (64 * w + k) n) [
        | yes m ↦ rw (lt-leb n (64 * w + k) m)
        | no m ↦ rw (le-leb n (64 * w + k) (omega arith), le-ltb (64 * w + k) n (omega arith))
      ]))

-- So the words are those of n items.
pub words_within : (n : ℕ) (D : Set) → WithinWords n (words_of n D)
words_within n D = record { count = words_long n D; none_past = words_end n D }

-- Theorem: unpacking what was packed gives back the bytes.
pub unpacks_packed : (n : ℕ) (l : List ℕ) → ValidBytes n l → bytes_in n (words_of n (ones l)) ≡ l
unfolding bytes_in
unpacks_packed n l v =
    sym (values_are n _ l v.count (λ i h. byte_bit (get_or l i 0) (v.each i h) ∙ ap bit (sym (words_hold n (ones l) i h))))

-- Theorem: packing what was unpacked gives back the words, where no bit past the last item is set.
pub packs_unpacked : (n : ℕ) (words : List ℕ) → WithinWords n words → ((w : ℕ) → get_or words w 0 < 2 ^ 64)
    → words_of n (ones (bytes_in n words)) ≡ words
unfolding words_of bytes_in past_last
packs_unpacked n words within below =
    sym (values_are (word_count n) _ words within.count (λ w h.
    sym (number_cong 64 _ _ (λ k l. bit_back w k (omega (arith, within.count)) l) ∙ number_of_bits 64 (get_or words w 0) (below w))))
  where
    bit_back : (w k : ℕ) → w < length words → k < 64 → items_of n (ones (bytes_in n words)) w k ≡ bit_of (get_or words w 0) k
    bit_back w k h l =
        elim (dec_lt (64 * w + k) n) [
          | yes m ↦ rw (lt-ltb (64 * w + k) n m) (ones_bytes n (in_words words) (64 * w + k) m ∙ in_word words w k l)
          | no m ↦
              let past = some_none 64 _ (within.none_past w h) k l in
              rw (le-ltb (64 * w + k) n (omega arith))
              (sym (subst (λ b. (b && bit_of (get_or words w 0) k) ≡ false) (le-leb n (64 * w + k) (omega arith)) past))
        ]
