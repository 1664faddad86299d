-- The number is the packed answer of the definition; what it is taken apart into is what `pack` answered, with the buffers that it left.
-- Assumes nothing.
use Rattle.table.proofs.Exported.{pack_exported}
use Rattle.table.proofs.surface_pack.Goals as goal

pub returns : goal.returns
returns c = let all = pack_exported c.as_number.ensures (c.pack.ensures.outcome, c.pack.ensures.sound) in record { number = all.0; outcome = all.1.0; sound = all.1.1 }
