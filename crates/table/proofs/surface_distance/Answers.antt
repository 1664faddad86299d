-- The number is the packed answer of the definition; what it is taken apart into is what `distance` answered, with the buffer that it left.
-- Assumes nothing.
use Rattle.table.proofs.Exported.{distance_exported}
use Rattle.table.proofs.surface_distance.Goals as goal

pub returns : goal.returns
returns c = let all = distance_exported c.as_number.ensures c.distance.ensures in record { number = all.0; outcome = all.1 }
