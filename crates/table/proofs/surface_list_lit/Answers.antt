-- The number is the packed answer of the definition; what it is taken apart into is what `list_lit` answered, with the buffer that it left.
-- Assumes nothing.
use Rattle.table.proofs.Exported.{list_exported}
use Rattle.table.proofs.surface_list_lit.Goals as goal

pub returns : goal.returns
returns c = let all = list_exported c.as_number.ensures (c.list_lit.ensures.outcome, c.list_lit.ensures.sound) in record { number = all.0; outcome = all.1.0; sound = all.1.1 }
