-- After the last turn all syndrome bytes are written.
use Rattle.std.proofs.Common.{arith}
use Rattle.model.specs.Stack.{stack_syndrome}
use Rattle.torus.proofs.Filling.{filled_all}
use Rattle.stack.proofs.syndrome.fill_syndrome.Goals as goal

pub returns : goal.returns
unfolding stack_syndrome
returns c = filled_all _ c.loop-u.invariant (omega arith) (omega arith)
