-- Bits past the last of n items, in words that n items fill: only the last word can have one, and it does where a shift by the rest leaves
-- something. Assumes nothing.
use Prim.Native.Nat.{ℕ, ◌+◌, ◌*◌, ◌/◌, ◌%◌, ◌^◌, ◌≤◌, ◌<◌}
use mathlib.Core.Path.{◌≡◌, sym, ap₂, subst}
use mathlib.Core.Bool.{false, true, ◌&&◌, and-false}
use mathlib.Core.Logic.{◌≢◌}
use mathlib.Core.List.{List}
use mathlib.Core.Option.{none, some}
use native.Mathlib.Decide.{dec_lt}
use native.Mathlib.Nat.{div-eq_of_lt, div-lt_iff_lt-mul}
use native.Mathlib.Omega.{arith}
use borrow.Author.Tests.{le-leb, lt-leb}
use lib.ListN.{length, get_or}
use lib.Dec.{leb}
use lib.Pow.{pow_pos}
use Rattle.std.proofs.lemmas.Bool.{true_from_ne_false}
use Rattle.model.specs.Sums.{some_up_to, first_up_to}
use Rattle.model.specs.Words.{bit_of, in_words, word_count, past_last}
use Rattle.model.proofs.SumLaws.{none_some, some_none, first_none, first_is}
use Rattle.theory.proofs.BitLaws.{no_higher, few_bits}

-- bit k of word w is item 64w + k
pub in_word : (words : List ℕ) (w k : ℕ) → k < 64 → in_words words (64 * w + k) ≡ bit_of (get_or words w 0) k
in_word words w k h =
    let at : (64 * w + k) / 64 ≡ w = omega arith in
    let place : (64 * w + k) % 64 ≡ k = omega arith in
    ap₂ (λ i j. bit_of (get_or words i 0) j) at place

-- a quotient of 0
below_power : (x r : ℕ) → x / 2 ^ r ≡ 0 → x < 2 ^ r
below_power x r p = quotient (2 ^ r) (pow_pos r) p
  where
    quotient : (b : ℕ) → 0 < b → x / b ≡ 0 → x < b
    quotient b h q = let l : x < 1 * b = (div-lt_iff_lt-mul {k = b} {x = x} {y = 1} h).0 (omega (arith, q)) in omega arith

module _ (n : ℕ) (words : List ℕ) where
  -- a word that the items fill has none
  full_word : (w : ℕ) → 64 * w + 64 ≤ n → past_last n words w ≡ false
  unfolding past_last
  full_word w h = none_some 64 _ (λ k l. rw (lt-leb n (64 * w + k) (omega arith)))

  -- nor has one with nothing above its r items
  nothing_above : (w r : ℕ) → n ≡ 64 * w + r → get_or words w 0 / 2 ^ r ≡ 0 → past_last n words w ≡ false
  unfolding past_last
  nothing_above w r split p =
      none_some 64 _ (λ k l.
      elim (dec_lt (64 * w + k) n) [
        | yes h ↦ rw (lt-leb n (64 * w + k) h)
        | no h ↦ rw (no_higher (get_or words w 0) r k (below_power (get_or words w 0) r p) (omega arith), and-false)
      ])

  -- and where there is something above them, it has one
  something_above : (w r : ℕ) → n ≡ 64 * w + r → r ≤ 64 → get_or words w 0 < 2 ^ 64 → get_or words w 0 / 2 ^ r ≢ 0 → past_last n words w ≡ true
  unfolding past_last
  something_above w r split few below p =
      true_from_ne_false (some_up_to 64 (λ k. leb n (64 * w + k) && bit_of (get_or words w 0) k)) (λ q.
      p (div-eq_of_lt (few_bits r 64 (get_or words w 0) few below (λ k h l.
      subst (λ b. (b && bit_of (get_or words w 0) k) ≡ false) (le-leb n (64 * w + k) (omega arith)) (some_none 64 _ q k l)))))

  module _ (long : length words ≡ word_count n) where
    -- What the test finds: nothing where all words are full, or where there is nothing above the items of the last ..
    pub none_full : n % 64 ≡ 0 → none ≡ first_up_to (length words) (past_last n words)
    none_full p = sym (first_none (length words) (past_last n words) (λ w h. full_word w (omega arith)))

    pub none_above : get_or words (n / 64) 0 / 2 ^ (n % 64) ≡ 0 → none ≡ first_up_to (length words) (past_last n words)
    none_above p = sym (first_none (length words) (past_last n words) (λ w h.
        elim (dec_lt w (n / 64)) [
          | yes l ↦ full_word w (omega arith)
          | no l ↦
              let last : w ≡ n / 64 = omega arith in
              nothing_above w (n % 64) (omega arith) (subst (λ i. get_or words i 0 / 2 ^ (n % 64) ≡ 0) (sym last) p)
        ]))

    -- .. and else that word
    pub last_above : n % 64 ≢ 0 → get_or words (n / 64) 0 < 2 ^ 64 → get_or words (n / 64) 0 / 2 ^ (n % 64) ≢ 0
        → some (n / 64) ≡ first_up_to (length words) (past_last n words)
    last_above more below p =
        sym (first_is (length words) (past_last n words) (n / 64)
        (record {
          less = omega arith;
          holds = something_above (n / 64) (n % 64) (omega arith) (omega arith) below p;
          before = λ w h. full_word w (omega arith);
        }))
