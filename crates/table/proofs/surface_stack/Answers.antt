-- The number is the packed answer of the definition; what it is taken apart into is what `stack` answered, with the buffers that it left.
-- Assumes nothing.
use borrow.Author.Rules.{rules}
use Rattle.table.proofs.Exported.{stack_exported}
use Rattle.table.proofs.surface_stack.Goals as goal

pub returns : goal.returns
returns c = let all = stack_exported (search rules) c.as_number.ensures (c.stack.ensures.outcome, c.stack.ensures.sound) in record { number = all.0; outcome = all.1.0; sound = all.1.1 }
