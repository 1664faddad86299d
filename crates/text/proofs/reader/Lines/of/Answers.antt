-- `text::reader::Lines::of` meets its contract: the line at 0 has number 1. Assumes nothing.
use mathlib.Core.Path.{refl, sym}
use Rattle.text.proofs.NumberLaws.{first_number}
use Rattle.text.proofs.reader.Lines.of.Goals as goal

pub returns : goal.returns
returns c = record { text_is = refl; at_is = refl; numbered = sym (first_number c.args.text.now) }
