-- The number is the packed answer of the definition; what it is taken apart into is what `read` answered, with the buffers that it left.
-- Assumes nothing.
use Rattle.table.proofs.Exported.{read_exported}
use Rattle.table.proofs.surface_read.Goals as goal

pub returns : goal.returns
returns c = let all = read_exported c.as_number.ensures c.read.ensures in record { number = all.0; outcome = all.1 }
