-- The lit vertices word by word, and where no bit past the last item is set. Assumes nothing.
use Prim.Native.Nat.{ℕ, zero, suc, ◌+◌, ◌-◌, ◌*◌, ◌/◌, ◌%◌, ◌^◌, ◌≤◌, ◌<◌}
use mathlib.Core.Path.{◌≡◌, refl, sym, ap, ap₂, ◌∙◌, subst}
use mathlib.Core.Bool.{false, ◌&&◌}
use mathlib.Core.List.{List, ◌++◌}
use native.Mathlib.Numerals.{add-one}
use native.Mathlib.Omega.{arith}
use borrow.Author.Tests.{le-leb}
use lib.ListN.{length, get_or, take, length-append}
use lib.Seq.{take-length, length-sets}
use lib.Count.{ones}
use Rattle.std.specs.List.{sum_by}
use Rattle.std.proofs.lemmas.List.Sums.{sum_by_more}
use Rattle.model.specs.Sums.{count_up_to, members}
use Rattle.model.specs.Words.{bit_of, in_words, past_last, lit_total, lit_vertices}
use Rattle.model.proofs.SumLaws.{some_none}
use Rattle.model.proofs.CountLaws.{count_less}
use Rattle.packed.specs.Listing.{bits_from, items_in}
use Rattle.packed.specs.Storing.{Stored}
use Rattle.packed.proofs.PastLast.{in_word}
use Rattle.packed.proofs.BitLists.{members_bits, members_past, members_long, bits_counted}
use Rattle.packed.proofs.WordTests.{WithinWords}

-- one word more
pub next_items : (words : List ℕ) (w : ℕ) → items_in (w + 1) words ≡ items_in w words ++ bits_from 64 (64 * w) (get_or words w 0)
next_items words w =
    let next : 64 * (w + 1) ≡ 64 * w + 64 = omega arith in
    ap (λ m. members m (in_words words)) next
    ∙ members_bits 64 (64 * w) (get_or words w 0) (in_words words) (λ k h. in_word words w k h)

-- its bits are counted by count_ones
pub next_total : (words : List ℕ) (w : ℕ) → get_or words w 0 < 2 ^ 64
    → count_up_to (64 * (w + 1)) (in_words words) ≡ count_up_to (64 * w) (in_words words) + ones (get_or words w 0)
next_total words w below =
    sym (members_long (64 * (w + 1)) (in_words words))
    ∙ ap length (next_items words w)
    ∙ length-append (items_in w words) (bits_from 64 (64 * w) (get_or words w 0))
    ∙ ap₂ ◌+◌ (members_long (64 * w) (in_words words)) (bits_counted 64 (64 * w) (get_or words w 0) below)

-- so the total is the sum of what it counts in each word
pub total_summed : (words : List ℕ) → ((w : ℕ) → get_or words w 0 < 2 ^ 64) → sum_by ones words ≡ lit_total words
unfolding lit_total count_up_to
total_summed words fits = ap (sum_by ones) (sym (take-length words)) ∙ front (length words) (omega arith)
  where
    front : (w : ℕ) → w ≤ length words → sum_by ones (take w words) ≡ count_up_to (64 * w) (in_words words)
    front zero h = refl
    front (suc w) h =
        rw (← add-one w) (sum_by_more ones words w 0 (omega arith) ∙ ap (λ n. n + ones (get_or words w 0)) (front w (omega arith)) ∙ sym (next_total words w (fits w)))

-- a list with an entry for each lit vertex has room for those of the next word behind those that are stored
pub next_room : (words : List ℕ) (w : ℕ) {list list' : List ℕ} {listed : ℕ} → w < length words → lit_total words ≤ length list
    → Stored (items_in w words) list 0 list' listed → listed + length (bits_from 64 (64 * w) (get_or words w 0)) ≤ length list'
unfolding lit_total
next_room words w {list} h room s =
    omega (
      arith,
      room,
      s.ended,
      ap length s.stored,
      length-sets list 0 (items_in w words),
      length-append (items_in w words) (bits_from 64 (64 * w) (get_or words w 0)),
      ap length (next_items words w),
      members_long (64 * (w + 1)) (in_words words),
      count_less (64 * (w + 1)) (64 * length words) (in_words words) (omega arith),
    )

-- Where no bit past the last of n items is set

module _ (n : ℕ) (words : List ℕ) (within : WithinWords n words) where
  item_past : (i : ℕ) → n ≤ i → i < 64 * length words → in_words words i ≡ false
  unfolding past_last
  item_past i h l =
      let split : 64 * (i / 64) + i % 64 ≡ i = omega arith in
      subst (λ b. (b && bit_of (get_or words (i / 64) 0) (i % 64)) ≡ false) (le-leb n (64 * (i / 64) + i % 64) (omega arith))
      (some_none 64 _ (within.none_past (i / 64) (omega arith)) (i % 64) (omega arith))

  -- all items of the words are vertices
  pub items_are : items_in (length words) words ≡ lit_vertices n words
  unfolding lit_vertices
  items_are =
      let rest = 64 * length words - n in
      let all : 64 * length words ≡ n + rest = omega (arith, within.count) in
      ap (λ m. members m (in_words words)) all
      ∙ members_past rest n (in_words words) (λ i h l. item_past i h (omega arith))

  -- Theorem: the total is the number of lit vertices, and the length of their list.
  pub total_listed : lit_total words ≡ length (lit_vertices n words)
  unfolding lit_total
  total_listed = sym (members_long (64 * length words) (in_words words)) ∙ ap length items_are

  pub total_lit : lit_total words ≡ count_up_to n (in_words words)
  unfolding lit_vertices
  total_lit = total_listed ∙ members_long n (in_words words)
