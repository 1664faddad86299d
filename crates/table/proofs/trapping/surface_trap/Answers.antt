-- The number is the packed answer of the definition; what it is taken apart into is what `trap` answered, with the buffer that it left.
-- Assumes nothing.
use Rattle.table.proofs.Exported.{trap_exported}
use Rattle.table.proofs.trapping.surface_trap.Goals as goal

pub returns : goal.returns
returns c = let all = trap_exported c.as_number.ensures (c.trap.ensures.outcome, c.trap.ensures.sound) in record { number = all.0; outcome = all.1.0; sound = all.1.1 }
