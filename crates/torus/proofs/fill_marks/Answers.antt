-- After the last turn all marks are written.
use Rattle.std.proofs.Common.{arith}
use Rattle.model.specs.Torus.{torus_marks}
use Rattle.torus.proofs.Filling.{filled_all}
use Rattle.torus.proofs.fill_marks.Goals as goal

pub returns : goal.returns
unfolding torus_marks
returns c = filled_all _ c.loop-v.invariant (omega arith) (omega arith)
