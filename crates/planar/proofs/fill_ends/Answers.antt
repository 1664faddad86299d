-- After the last turn all ends are written.
use Rattle.std.proofs.Common.{arith}
use Rattle.model.specs.Planar.{planar_ends}
use Rattle.torus.proofs.Filling.{filled_all}
use Rattle.planar.proofs.fill_ends.Goals as goal

pub returns : goal.returns
unfolding planar_ends
returns c = filled_all _ c.loop-e.invariant (omega arith) (omega arith)
