-- The number is the packed answer of the definition; what it is taken apart into is what `lit_total` answered. Assumes nothing.
use Rattle.table.proofs.Exported.{lit_exported}
use Rattle.table.proofs.surface_lit_total.Goals as goal

pub returns : goal.returns
returns c = let all = lit_exported c.as_number.ensures (c.lit_total.ensures.outcome, c.lit_total.ensures.sound) in record { number = all.0; outcome = all.1.0; sound = all.1.1 }
