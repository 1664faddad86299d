-- The number is the packed answer of the definition; what it is taken apart into is what `decode_packed` answered, with the buffers that it
-- left. Assumes nothing.
use Rattle.table.proofs.Exported.{decode_packed_exported}
use Rattle.table.proofs.surface_decode_packed.Goals as goal

pub returns : goal.returns
returns c = let all = decode_packed_exported c.as_number.ensures (c.decode_packed.ensures.key, c.decode_packed.ensures.sound) in record { number = all.0; outcome = all.1.0; sound = all.1.1 }
