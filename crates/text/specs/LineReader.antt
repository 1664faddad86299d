-- What the line reader holds where it is made and where it moves on: its number is always that of the line at its position. No part of
-- what a reader must believe: inner contracts name it. Assumes nothing.
use Rattle.std.specs.Prelude.{ℕ, ◌≡◌, List}
use Rattle.std.specs.Borrow.{Bor}
use Rattle.model.specs.LineNumbers.{line_number}
use Rattle.text.specs.declared.reader.Lines.{Lines}

-- the reader's number is that of the line at its position
abbrev pub Numbered : Lines → Type 0
Numbered r = r.number ≡ line_number r.text.now r.at

-- a reader before the first line of a text
pub record AtStart (text : Bor (List ℕ)) (r : Lines) : Type 0 where
  pub text_is : r.text ≡ text
  pub at_is : r.at ≡ 0
  pub numbered : Numbered r

-- a reader of the same text before a later line
pub record MovedOn (lines : Lines) (at k : ℕ) (r : Lines) : Type 0 where
  pub text_is : r.text ≡ lines.text
  pub at_is : r.at ≡ at
  pub number_is : r.number ≡ k
  pub numbered : Numbered r
