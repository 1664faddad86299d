-- `text::field::field_at` meets its contract. The loop's invariant: the field reads as what is left of it does after the number so far.
-- Assumes nothing.
use Prim.Native.Nat.{◌≤◌}
use mathlib.Core.Path.{◌≡◌}
use lib.ListN.{drop}
use Rattle.model.specs.Board.{edge_limit}
use Rattle.model.specs.Text.{tab}
use Rattle.text.specs.Pieces.{up_to}
use Rattle.text.specs.FieldReadings.{field_read}
use Rattle.text.proofs.FieldReadingLaws.{resumed}
use Rattle.text.proofs.field.field_at.Given as goal

abbrev pub invariant-loop-end : goal.invariant-loop-end
invariant-loop-end l = record {
  small : l.value ≤ edge_limit;
  left : field_read l.at (up_to tab (drop l.at l.line)) ≡ resumed l.value l.end (up_to tab (drop l.end l.line));
}
