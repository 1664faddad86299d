-- After the last turn all marks are written.
use Rattle.std.proofs.Common.{arith}
use Rattle.model.specs.Stack.{stack_marks}
use Rattle.torus.proofs.Filling.{filled_all}
use Rattle.stack.proofs.marks.fill_marks.Goals as goal

pub returns : goal.returns
unfolding stack_marks
returns c = filled_all _ c.loop-e.invariant (omega arith) (omega arith)
