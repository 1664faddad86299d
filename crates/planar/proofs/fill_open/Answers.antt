-- After the last turn all open bytes are written.
use Rattle.std.proofs.Common.{arith}
use Rattle.model.specs.Planar.{planar_opens}
use Rattle.torus.proofs.Filling.{filled_all}
use Rattle.planar.proofs.fill_open.Goals as goal

pub returns : goal.returns
unfolding planar_opens
returns c = filled_all _ c.loop-v.invariant (omega arith) (omega arith)
