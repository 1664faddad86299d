-- The bits of the items that a word stands for, put together. Assumes nothing.
use Prim.Native.Nat.{ℕ, ◌+◌, ◌*◌, ◌≤◌, ◌<◌}
use mathlib.Core.Path.{◌≡◌, sym, ◌∙◌}
use mathlib.Core.Bool.{false}
use mathlib.Core.List.{List}
use native.Mathlib.Omega.{arith}
use borrow.Author.Tests.{lt-ltb, le-ltb}
use lib.ListN.{get_or}
use Rattle.model.specs.Sums.{Set, bit, ones}
use Rattle.model.specs.Board.{ValidBytes}
use Rattle.model.specs.Words.{number_with, items_of}
use Rattle.model.proofs.Bits.{byte_bit}
use Rattle.packed.specs.WordItems.{WordItems}
use Rattle.theory.proofs.BitLaws.{number_short}
use Rattle.theory.proofs.PackedBits.{PackedFrom, packed_whole}

-- The items of a word

-- the byte of an item of word w
pub item_byte : (n : ℕ) (l : List ℕ) (w k : ℕ) → ValidBytes n l → 64 * w + k < n → get_or l (64 * w + k) 0 ≡ bit (items_of n (ones l) w k)
item_byte n l w k v h = rw (lt-ltb (64 * w + k) n h) (byte_bit (get_or l (64 * w + k) 0) (v.each (64 * w + k) h))

-- past the last there is none
pub no_item : (n : ℕ) (D : Set) (w k : ℕ) → n ≤ 64 * w + k → items_of n D w k ≡ false
no_item n D w k h = rw (le-ltb (64 * w + k) n h)

-- all bits of the items of a word
pub packed_all : (n : ℕ) (D : Set) (w : ℕ) {count k word : ℕ} → WordItems n w count → k ≡ 0 → PackedFrom (items_of n D w) count k word
    → word ≡ number_with 64 (items_of n D w)
packed_all n D w {count} items done s =
    packed_whole done s ∙ sym (number_short count 64 (items_of n D w) items.few (λ j h l. none_behind j h l))
  where
    none_behind : (j : ℕ) → count ≤ j → j < 64 → items_of n D w j ≡ false
    none_behind j h l = no_item n D w j (omega (arith, items.last (omega arith)))
