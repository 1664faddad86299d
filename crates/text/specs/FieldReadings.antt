-- What the reader of a field answers. No part of what a reader must believe: an inner contract names it.
-- Assumes nothing.
use Rattle.std.specs.Prelude.{ℕ, ◌+◌, ◌-◌, cond, List, length, leb}
use Rattle.std.proofs.Math.Option.{Option, none, some}
use Rattle.model.specs.Board.{edge_limit}
use Rattle.model.specs.Text.{digit_zero, is_digit, number}
use Rattle.std.specs.declared.option.Option as answer
use Rattle.std.specs.Prelude.{Some, None}
use Rattle.text.specs.declared.field.Field.{Field}

-- a byte as a digit
unfoldable pub digit_read : ℕ → answer.Option ℕ
digit_read b = cond (is_digit b) (Some (b - digit_zero)) None

-- a number that may stand in a field: none is above the edge limit
abbrev pub limited : Option ℕ → Option ℕ
limited none = none
limited (some n) = cond (leb n edge_limit) (some n) none

-- a field with this number, which ends at a position
abbrev pub found : ℕ → ℕ → answer.Option Field
found n end = Some (record { value = n; end = end })

abbrev pub as_field : Option ℕ → ℕ → answer.Option Field
as_field none end = None
as_field (some n) end = found n end

-- the field with these bytes, which begin at a position
unfoldable pub field_read : ℕ → List ℕ → answer.Option Field
field_read at bytes = as_field (limited (number bytes)) (at + length bytes)
