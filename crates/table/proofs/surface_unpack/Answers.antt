-- The number is the packed answer of the definition; what it is taken apart into is what `unpack` answered, with the buffers that it left.
-- Assumes nothing.
use Rattle.table.proofs.Exported.{unpack_exported}
use Rattle.table.proofs.surface_unpack.Goals as goal

pub returns : goal.returns
returns c = let all = unpack_exported c.as_number.ensures (c.unpack.ensures.outcome, c.unpack.ensures.sound) in record { number = all.0; outcome = all.1.0; sound = all.1.1 }
