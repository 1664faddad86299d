-- After the last turn all marks are written.
use Rattle.std.proofs.Common.{arith}
use Rattle.model.specs.Planar.{planar_marks}
use Rattle.torus.proofs.Filling.{filled_all}
use Rattle.planar.proofs.fill_marks.Goals as goal

pub returns : goal.returns
unfolding planar_marks
returns c = filled_all _ c.loop-e.invariant (omega arith) (omega arith)
