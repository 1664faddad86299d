-- The number is the packed answer of the definition; what it is taken apart into is what `verdict` answered.
-- Assumes nothing.
use Rattle.table.proofs.Exported.{verdict_exported}
use Rattle.table.proofs.surface_verdict.Goals as goal

pub returns : goal.returns
returns c = let all = verdict_exported c.verdict_as_number.ensures (c.verdict.ensures.answer, c.verdict.ensures.sound) in record { number = all.0; outcome = all.1.0; sound = all.1.1 }
