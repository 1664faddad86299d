-- What the reader of a line answers. No part of what a reader must believe: inner contracts name it.
-- Assumes nothing.
use Rattle.std.specs.Prelude.{ℕ, ◌+◌, ◌≡◌, Bool, true, cond, ◌&&◌, List, [], ◌∷◌, length, drop, leb}
use Rattle.std.specs.declared.option.Option as answer
use Rattle.std.specs.Prelude.{Some, None}
use Rattle.std.proofs.Math.Option.{Option, none, some}
use Rattle.model.specs.Board.{edge_limit}
use Rattle.model.specs.Text as text
use Rattle.model.specs.Text.{newline, V_line, E_line, O_line, S_line, X_line, number, numbers_of, line_of, and_then, parted_by, line_from}
use Rattle.model.specs.LineNumbers.{line_number}
use Rattle.text.specs.declared.line.Line.{Line}
use Rattle.text.specs.declared.line.Line.TheVariants as line
use Rattle.text.specs.declared.line.LineRead.{LineRead}
use Rattle.text.specs.FieldReadings.{limited}

-- a line of the definitions as a value of the reader's
abbrev pub as_line : text.Line → Line
as_line (V_line n) = line.Vertices n
as_line (E_line a b m) = line.Edge (record { 0 = a }) (record { 0 = b }) m
as_line (O_line v) = line.Open (record { 0 = v })
as_line (S_line v) = line.Syndrome (record { 0 = v })
as_line (X_line e) = line.Lost (record { 0 = e })

abbrev pub as_parsed : Option text.Line → answer.Option Line
as_parsed none = None
as_parsed (some l) = Some (as_line l)

-- a line none of whose numbers is above the edge limit
abbrev pub small : List ℕ → Bool
small [] = true
small (n ∷ ns) = leb n edge_limit && small ns

abbrev pub limited_line : Option text.Line → Option text.Line
limited_line none = none
limited_line (some l) = cond (small (numbers_of l)) (some l) none

abbrev pub line_parsed : Option text.Line → answer.Option Line
line_parsed o = as_parsed (limited_line o)

-- the same by its letter and its fields
abbrev pub small_numbers : List (List ℕ) → Option (List ℕ)
small_numbers [] = some []
small_numbers (f ∷ fs) = and_then (limited (number f)) (λ n. and_then (small_numbers fs) (λ ns. some (n ∷ ns)))

unfoldable pub fields_parsed : ℕ → List (List ℕ) → answer.Option Line
fields_parsed letter fs = as_parsed (and_then (small_numbers fs) (line_of letter))

abbrev pub number_parsed : ℕ → ℕ → answer.Option Line
number_parsed letter n = as_parsed (line_of letter (n ∷ []))

-- what a line's bytes say, with the position and the number of the line after it
abbrev pub as_read : answer.Option Line → ℕ → ℕ → answer.Option LineRead
as_read None next k = None
as_read (Some l) next k = Some (record { line = l; next = next; number = k })

-- the line that begins at a position and has the number k, from the pieces between newlines from there on
unfoldable pub line_read_at : ℕ → ℕ → List (List ℕ) → answer.Option LineRead
line_read_at at k [] = None
line_read_at at k (piece ∷ []) = None
line_read_at at k (piece ∷ next ∷ rest) = as_read (line_parsed (line_from piece)) (at + length piece + 1) (k + 1)

-- the number that comes with a line is that of the line after it
abbrev pub NextNumbered : List ℕ → answer.Option LineRead → Type 0
NextNumbered t (Some r) = r.number ≡ line_number t r.next
NextNumbered t None = Unit {0}

-- what reading the line that begins at a position and has the number k gives
pub record ReadsLine (t : List ℕ) (at k : ℕ) (r : answer.Option LineRead) : Type 0 where
  pub line_read : r ≡ line_read_at at k (parted_by newline (drop at t))
  pub next_numbered : NextNumbered t r
