-- The number is the packed answer of the definition; what it is taken apart into is what `planar` answered, with the buffers that it left.
-- Assumes nothing.
use borrow.Author.Rules.{rules}
use Rattle.table.proofs.Exported.{planar_exported}
use Rattle.table.proofs.surface_planar.Goals as goal

pub returns : goal.returns
returns c = let all = planar_exported (search rules) c.as_number.ensures c.planar.ensures in record { number = all.0; outcome = all.1 }
