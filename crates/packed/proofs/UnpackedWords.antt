-- Bytes unpacked bit by bit and word by word. Assumes nothing.
use Prim.Native.Nat.{ℕ, ◌+◌, ◌-◌, ◌*◌, ◌/◌, ◌%◌, ◌^◌, ◌<◌}
use mathlib.Core.Path.{◌≡◌, refl, sym, ap, ◌∙◌}
use mathlib.Core.List.{List}
use native.Mathlib.Decide.{dec_lt}
use native.Mathlib.Omega.{arith}
use lib.ListN.{length, get_or, set, length-set, replicate}
use lib.Seq.{get_or-set_same, get_or-set_other}
use Rattle.model.specs.Sums.{bit}
use Rattle.model.specs.Words.{bit_of, word_count, bytes_in}
use Rattle.model.proofs.ListLaws.{values_are, zero_everywhere}
use Rattle.packed.specs.WordItems.{WordItems}
use Rattle.packed.specs.Unpacking.{BitsUnpacked, WordUnpacked, ZerosFrom, ItemsUnpacked}
use Rattle.theory.proofs.BitLaws.{bit_is, no_higher}
use Rattle.packed.proofs.PastLast.{in_word}

-- Bit by bit

pub bits_more : {word w k : ℕ} {bytes bytes' : List ℕ} → 64 * w + k < length bytes → BitsUnpacked word w k bytes bytes'
    → BitsUnpacked word w (k + 1) bytes (set bytes' (64 * w + k) (word / 2 ^ k % 2))
bits_more {word} {w} {k} {bytes} {bytes'} h s =
    record {
      long = length-set bytes' (64 * w + k) (word / 2 ^ k % 2) ∙ s.long;
      bits = λ j l.
          elim (dec_lt j k) [
            | yes m ↦ other (64 * w + j) (λ p. omega arith) ∙ s.bits j m
            | no m ↦
                let same : j ≡ k = omega arith in
                rw same (get_or-set_same bytes' (64 * w + k) (word / 2 ^ k % 2) 0 (omega (arith, s.long)) ∙ bit_is word k)
          ];
      before = λ i l. other i (λ p. omega arith) ∙ s.before i l;
      behind = λ j.
          let shift : 64 * w + (k + 1) + j ≡ 64 * w + k + (1 + j) = omega arith in
          rw shift (other (64 * w + k + (1 + j)) (λ p. omega arith) ∙ s.behind (1 + j));
    }
  where
    other : (i : ℕ) → (i ≡ 64 * w + k → ⊥) → get_or (set bytes' (64 * w + k) (word / 2 ^ k % 2)) i 0 ≡ get_or bytes' i 0
    other i apart = get_or-set_other bytes' (64 * w + k) i (word / 2 ^ k % 2) 0 apart

-- all bits of a word
pub word_unpacked : {word w k count : ℕ} {bytes bytes' : List ℕ} → WordItems (length bytes) w count → k ≡ count → BitsUnpacked word w k bytes bytes'
    → WordUnpacked word w bytes bytes'
word_unpacked {word} {w} {k} {count} {bytes} {bytes'} items all s =
    record {
      long = s.long;
      bits = λ j h l. s.bits j (reached j h l);
      before = s.before;
      behind = λ j.
          let shift : 64 * w + 64 + j ≡ 64 * w + k + (64 - k + j) = omega (arith, items.few) in
          rw shift (s.behind (64 - k + j));
    }
  where
    reached : (j : ℕ) → j < 64 → 64 * w + j < length bytes → j < k
    reached j h l =
        elim (dec_lt count 64) [
          | yes m ↦ omega (arith, items.last m)
          | no m ↦ omega arith
        ]

-- a word without a set bit, whose bytes are 0
pub word_passed : {word w : ℕ} {bytes : List ℕ} → word ≡ 0 → ZerosFrom w bytes → WordUnpacked word w bytes bytes
word_passed {word} {w} {bytes} none zeros =
    record {
      long = refl;
      bits = λ j h l. zeros.at j ∙ sym (ap bit (ap (λ x. bit_of x j) none ∙ no_higher 0 0 j (omega arith) (omega arith)));
      before = λ i h. refl;
      behind = λ j. refl;
    }

-- Word by word

pub items_more : {words : List ℕ} {w : ℕ} {rest bytes bytes' : List ℕ} → ItemsUnpacked words w rest bytes
    → WordUnpacked (get_or words w 0) w bytes bytes' → ItemsUnpacked words (w + 1) rest bytes'
items_more {words} {w} {rest} {bytes} {bytes'} s u =
    record {
      long = u.long ∙ s.long;
      items = λ i h l.
          elim (dec_lt i (64 * w)) [
            | yes m ↦ u.before i m ∙ s.items i m l
            | no m ↦
                let split : i ≡ 64 * w + (i - 64 * w) = omega arith in
                rw split (u.bits (i - 64 * w) (omega arith) (omega (arith, s.long)) ∙ sym (ap bit (in_word words w (i - 64 * w) (omega arith))))
          ];
      others = λ j.
          let next : 64 * (w + 1) + j ≡ 64 * w + 64 + j = omega arith in
          let shift : 64 * w + 64 + j ≡ 64 * w + (64 + j) = omega arith in
          rw next (u.behind j ∙ rw shift (s.others (64 + j)));
    }

-- all words
pub items_all : {words : List ℕ} {w : ℕ} {rest bytes : List ℕ} → ItemsUnpacked words w rest bytes → w ≡ length words
    → length words ≡ word_count (length rest) → bytes ≡ bytes_in (length rest) words
unfolding bytes_in
items_all {words} {w} {rest} {bytes} s all long = values_are (length rest) _ bytes s.long (λ i h. s.items i (omega arith) h)

-- where all bytes were 0, those from the next word on still are
pub zeros_left : (n : ℕ) {words : List ℕ} {w : ℕ} {rest bytes : List ℕ} → rest ≡ replicate n 0 → ItemsUnpacked words w rest bytes → ZerosFrom w bytes
zeros_left n {words} {w} {rest} zeros s = record { at = λ j. s.others j ∙ ap (λ l. get_or l (64 * w + j) 0) zeros ∙ zero_everywhere n (64 * w + j) }
