-- The number is the packed answer of the definition; what it is taken apart into is what `torus` answered, with the buffers that it left.
-- Assumes nothing.
use borrow.Author.Rules.{rules}
use Rattle.table.proofs.Exported.{torus_exported}
use Rattle.table.proofs.surface_torus.Goals as goal

pub returns : goal.returns
returns c = let all = torus_exported (search rules) c.as_number.ensures c.torus.ensures in record { number = all.0; outcome = all.1 }
