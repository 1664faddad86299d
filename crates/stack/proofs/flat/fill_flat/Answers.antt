-- One turn writes both ends of an edge in a layer.
use Rattle.std.proofs.Common.{arith}
use Rattle.stack.proofs.Numbering.{flat_count, edge_count}
use Rattle.stack.proofs.Writing.{flat_more}
use Rattle.stack.proofs.flat.fill_flat.Goals as goal

pub loop-e-preserved : goal.loop-e-preserved
loop-e-preserved c =
    let a = c.args in
    flat_more a.side a.rounds c.loop-e.e c.loop-e.ends _ (omega (arith, flat_count a.side a.rounds)) c.loop-e.invariant
    (omega (arith, edge_count a.side a.rounds c.requires.0)) c.other_end-other.ensures
