-- One turn writes both ends of an edge between layers, and after the last turn all ends are written.
use Rattle.std.proofs.Common.{arith}
use Rattle.model.specs.Stack.{stack_ends}
use Rattle.torus.proofs.Filling.{filled_all}
use Rattle.stack.proofs.Numbering.{edge_count}
use Rattle.stack.proofs.Writing.{upright_more}
use Rattle.stack.proofs.upright.fill_upright.Goals as goal

pub loop-u-preserved : goal.loop-u-preserved
loop-u-preserved c =
    let a = c.args in
    upright_more a.side a.rounds c.loop-u.u c.loop-u.ends c.loop-u.invariant (omega (arith, edge_count a.side a.rounds c.requires.0))

pub returns : goal.returns
unfolding stack_ends
returns c =
    filled_all _ c.loop-u.invariant (omega arith) (omega (arith, edge_count c.args.side c.args.rounds c.requires.0))
