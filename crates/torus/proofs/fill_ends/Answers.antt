-- One turn writes the four ends of a vertex's two edges, and after the last turn all ends are written.
use Rattle.std.proofs.Common.{arith}
use Rattle.model.specs.Torus.{torus_ends}
use Rattle.torus.proofs.Writing.{ends_more}
use Rattle.torus.proofs.Filling.{filled_all}
use Rattle.torus.proofs.fill_ends.Goals as goal

pub loop-v-preserved : goal.loop-v-preserved
loop-v-preserved c =
    ends_more _ _ _ _ _ c.loop-v.invariant (omega arith) c.right_of-right.ensures c.below_of-below.ensures

pub returns : goal.returns
unfolding torus_ends
returns c = filled_all _ c.loop-v.invariant (omega arith) (omega arith)
