-- The number is the packed answer of the definition; what it is taken apart into is what `write` answered, with the buffer that it left.
-- Assumes nothing.
use Rattle.table.proofs.Exported.{write_exported}
use Rattle.table.proofs.surface_write.Goals as goal

pub returns : goal.returns
returns c = let all = write_exported c.as_number.ensures c.write.ensures in record { number = all.0; outcome = all.1 }
