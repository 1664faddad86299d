-- The loop's invariant: the reader has the text, and the reading stands before the reader's line with the sheet so far. The measure is what
-- is left of the text. Assumes nothing.
use Prim.Native.Nat.{◌-◌}
use mathlib.Core.Path.{◌≡◌}
use lib.ListN.{length}
use Rattle.text.specs.Scratch.{buffers_in}
use Rattle.text.proofs.StageLaws.{Reached}
use Rattle.text.proofs.reading.read_lines.Given as goal

abbrev pub invariant-loop-lines : goal.invariant-loop-lines
invariant-loop-lines l = record {
  text_is : l.lines.text.now ≡ l.text;
  reached : Reached l.text (buffers_in l.arrays) l.lines.at l.lines.number l.sofar;
}

abbrev pub decreases-loop-lines : goal.decreases-loop-lines
decreases-loop-lines l = length l.text - l.lines.at
