-- Bytes while they are being unpacked word by word. No part of what a reader must believe. Assumes nothing.
use Rattle.std.specs.Prelude.{ℕ, ◌+◌, ◌*◌, ◌<◌, ◌≡◌, List, length, get_or}
use Rattle.model.specs.Sums.{bit}
use Rattle.model.specs.Words.{bit_of, in_words}

-- the first k bits of word w stand in their bytes, and the bytes before and behind them are as they were
pub record BitsUnpacked (word w k : ℕ) (bytes bytes' : List ℕ) : Type 0 where
  pub long : length bytes' ≡ length bytes
  pub bits : (j : ℕ) → j < k → get_or bytes' (64 * w + j) 0 ≡ bit (bit_of word j)
  pub before : (i : ℕ) → i < 64 * w → get_or bytes' i 0 ≡ get_or bytes i 0
  pub behind : (j : ℕ) → get_or bytes' (64 * w + k + j) 0 ≡ get_or bytes (64 * w + k + j) 0

-- all bits of the word that have a byte
pub record WordUnpacked (word w : ℕ) (bytes bytes' : List ℕ) : Type 0 where
  pub long : length bytes' ≡ length bytes
  pub bits : (j : ℕ) → j < 64 → 64 * w + j < length bytes → get_or bytes' (64 * w + j) 0 ≡ bit (bit_of word j)
  pub before : (i : ℕ) → i < 64 * w → get_or bytes' i 0 ≡ get_or bytes i 0
  pub behind : (j : ℕ) → get_or bytes' (64 * w + 64 + j) 0 ≡ get_or bytes (64 * w + 64 + j) 0

-- the bytes from word w on are 0
pub record ZerosFrom (w : ℕ) (bytes : List ℕ) : Type 0 where
  pub at : (j : ℕ) → get_or bytes (64 * w + j) 0 ≡ 0

-- the items of the first w words stand in their bytes, and the other bytes are those of `rest`
pub record ItemsUnpacked (words : List ℕ) (w : ℕ) (rest bytes : List ℕ) : Type 0 where
  pub long : length bytes ≡ length rest
  pub items : (i : ℕ) → i < 64 * w → i < length rest → get_or bytes i 0 ≡ bit (in_words words i)
  pub others : (j : ℕ) → get_or bytes (64 * w + j) 0 ≡ get_or rest (64 * w + j) 0
