-- The number is the packed answer of the definition; what it is taken apart into is what `decode_rounds` answered, with the buffers that it
-- left.
-- Assumes nothing.
use Rattle.table.proofs.Exported.{rounds_exported}
use Rattle.table.proofs.surface_decode_rounds.Goals as goal

pub returns : goal.returns
returns c = let all = rounds_exported c.as_number.ensures (c.decode_rounds.ensures.key, c.decode_rounds.ensures.sound) in record { number = all.0; outcome = all.1.0; sound = all.1.1 }
