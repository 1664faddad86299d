-- What is known of a sheet, a handed-in set and a correction before they are compared, and afterwards. No part of what a reader must
-- believe. Assumes nothing.
use Rattle.std.specs.Prelude.{List, ℕ, length, ◌≡◌, Bool, true, false}
use Rattle.model.specs.declared.answers.Verdict.{Verdict}
use Rattle.model.specs.declared.answers.Verdict.TheVariants.{Off, Same, Wound, Refused}
use Rattle.model.specs.Sums.{ones, bytes}
use Rattle.model.specs.Board.{Board, Sheet, Inside, ValidBytes, ValidSheet, Unlit, edges}
use Rattle.model.specs.Decoding.{supports, corrected}
use Rattle.model.specs.Outcomes.{Judges}

-- the ends lie on the board, each vertex has an open byte, every byte of the syndrome and of the two sets is 0 or 1, and no open vertex is
-- lit
pub record Judgeable (B : Board) (syndrome handed correction : List ℕ) : Type 0 where
  pub inside : Inside B
  pub open_bytes : length B.opened ≡ B.vertices
  pub syndrome_bytes : ValidBytes B.vertices syndrome
  pub handed_bytes : ValidBytes (edges B) handed
  pub correction_bytes : ValidBytes (edges B) correction
  pub unlit : Unlit B (ones syndrome)

-- a verdict of wound
abbrev pub is_wound : Verdict → Bool
is_wound (Off v) = false
is_wound Same = false
is_wound (Wound x) = true
is_wound (Refused n) = false

-- a sheet and a handed-in set that pass the tests, with two buffers for decoding
pub record Comparable (X : Sheet) (handed support correction : List ℕ) : Type 0 where
  pub sheet : ValidSheet X
  pub handed_bytes : ValidBytes (edges X.board) handed
  pub support_long : length support ≡ edges X.board
  pub correction_long : length correction ≡ edges X.board

-- what a buffer holds after a comparison: what decoding wrote, or after a refusal, number 10, its old contents
abbrev pub decoded_or : {A : Type 0} → Verdict → A → A → A
decoded_or (Off v) new old = new
decoded_or Same new old = new
decoded_or (Wound x) new old = new
decoded_or (Refused n) new old = old

-- the answer is the verdict's, and the two buffers are decoding's
pub record Compares (X : Sheet) (handed support correction : List ℕ) (r : Verdict) (support' correction' : List ℕ) : Type 0 where
  pub judges : Judges X handed r
  pub support_bytes : support' ≡ decoded_or r (supports X) support
  pub correction_bytes : correction' ≡ decoded_or r (bytes (edges X.board) (corrected X)) correction
