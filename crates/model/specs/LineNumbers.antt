-- Document 01, "Numbers and places" (the place of number 13), and document 02, K4: which number the line has that begins at a position of
-- a text, counted from 1, and which line is the first malformed one. Assumes nothing.
use Rattle.std.specs.Prelude.{ℕ, zero, suc, ◌+◌, ◌≤◌, ◌≡◌, cond, ◌⊎◌, List, [], ◌∷◌, ◌++◌, length, get_or, take, drop, eqb}
use Rattle.model.specs.Sums.{Set, count_up_to}
use Rattle.model.specs.Board.{Sheet}
use Rattle.model.specs.Text.{newline, complete, read_text}

-- the positions of a text that hold a newline byte
abbrev pub newlines : List ℕ → Set
newlines text i = eqb (get_or text i 0) newline

-- how many newline bytes stand before a position
unfoldable pub newlines_before : List ℕ → ℕ → ℕ
newlines_before text at = count_up_to at (newlines text)

-- The line that begins at a position has the number one more than that.
abbrev pub line_number : List ℕ → ℕ → ℕ
line_number text at = newlines_before text at + 1

-- a line begins at 0, and right after each newline byte
abbrev pub LineBegins : List ℕ → ℕ → Type 0
LineBegins text zero = Unit {0}
LineBegins text (suc i) = get_or text i 0 ≡ newline

-- the bytes of the first line, with its newline where it has one
unfoldable pub first_line_of : List ℕ → List ℕ
first_line_of [] = []
first_line_of (b ∷ bs) = b ∷ cond (eqb b newline) [] (first_line_of bs)

-- a text that reads as some sheet
pub record IsText (text : List ℕ) : Type 0 where
  pub sheet : Sheet
  pub reading : read_text text ≡ complete sheet

-- The first malformed line begins at a position: the lines before it, if there are any, are a text that reads, and with this line they are none.
pub record FirstMalformed (text : List ℕ) (at : ℕ) : Type 0 where
  pub inside : at ≤ length text
  pub begins : LineBegins text at
  pub lines_before : (at ≡ 0) ⊎ IsText (take at text)
  pub with_this_line : IsText (take at text ++ first_line_of (drop at text)) → ⊥

-- .. and k is its number
pub record FirstMalformedNumber (text : List ℕ) (k : ℕ) : Type 0 where
  pub at : ℕ
  pub first : FirstMalformed text at
  pub numbered : k ≡ line_number text at
