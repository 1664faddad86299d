-- The number is the packed answer of the definition; what it is taken apart into is what `faces` answered, with the buffer that it left.
-- Assumes nothing.
use borrow.Author.Rules.{rules}
use Rattle.table.proofs.Exported.{faces_exported}
use Rattle.table.proofs.surface_faces.Goals as goal

pub returns : goal.returns
returns c = let all = faces_exported (search rules) c.verdict_as_number.ensures (c.faces.ensures.outcome, c.faces.ensures.sound) in record { number = all.0; outcome = all.1.0; sound = all.1.1 }
