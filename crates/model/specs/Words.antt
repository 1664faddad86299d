-- Document 02, K7: sheets packed into 64-bit words. The items of a packed syndrome are vertices, those of packed losses are edges.
-- Assumes nothing.
use Rattle.std.specs.Prelude.{ℕ, zero, suc, ◌+◌, ◌*◌, ◌/◌, ◌%◌, ◌^◌, ◌&&◌, List, length, get_or, eqb, leb, ltb}
use Rattle.model.specs.Sums.{Set, bit, count_up_to, some_up_to, values, bytes, members}
use Rattle.model.specs.Board.{Board, Sheet, sheet_of}
use Rattle.model.specs.Refusals.{edges_of}

-- bit k of a number, the lowest being bit 0
abbrev pub bit_of : ℕ → Set
bit_of x k = eqb (x / 2 ^ k % 2) 1

-- what words hold: item i is bit i modulo 64 of word i / 64
abbrev pub in_words : List ℕ → Set
in_words words i = bit_of (get_or words (i / 64) 0) (i % 64)

-- how many words n items fill
abbrev pub word_count : ℕ → ℕ
word_count n = (n + 63) / 64

-- Packing

-- the number whose d lowest bits are f 0, f 1, .., f (d - 1), and which has no others
unfoldable pub number_with : ℕ → Set → ℕ
number_with zero f = 0
number_with (suc d) f = bit (f 0) + 2 * number_with d (λ k. f (suc k))

-- what word w of n items holds of a set: bit k is item 64w + k, where that is one of the n
abbrev pub items_of : ℕ → Set → ℕ → Set
items_of n D w k = ltb (64 * w + k) n && D (64 * w + k)

unfoldable pub words_of : ℕ → Set → List ℕ
unfolding number_with
words_of n D = values (word_count n) (λ w. number_with 64 (items_of n D w))

-- Unpacking: a byte for each of n items

unfoldable pub bytes_in : ℕ → List ℕ → List ℕ
bytes_in n words = bytes n (in_words words)

-- the sheet of a board whose syndrome and losses are packed in the words `lit` and `lost`
unfoldable pub unpacked_sheet : Board → List ℕ → List ℕ → Sheet
unfolding bytes_in
unpacked_sheet B lit lost = sheet_of B (bytes_in B.vertices lit) (bytes_in (edges_of B.ends) lost)

-- Bits past the last of n items: word w has one

unfoldable pub past_last : ℕ → List ℕ → Set
past_last n words w = some_up_to 64 (λ k. leb n (64 * w + k) && bit_of (get_or words w 0) k)

-- The lit vertices of a packed syndrome: their total, which is the number of set bits in all words, and their list, rising

unfoldable pub lit_total : List ℕ → ℕ
lit_total words = count_up_to (64 * length words) (in_words words)

unfoldable pub lit_vertices : ℕ → List ℕ → List ℕ
lit_vertices n words = members n (in_words words)
