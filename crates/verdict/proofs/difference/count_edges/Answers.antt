use Rattle.model.specs.Sums.{ones}
use Rattle.verdict.proofs.ByteFlips.{counted_none, counted_more}
use Rattle.verdict.proofs.difference.count_edges.Goals as goal

pub loop-e-init : goal.loop-e-init
loop-e-init c = counted_none c.args.ends.now (ones c.args.handed.now) c.requires.1

pub loop-e-preserved : goal.loop-e-preserved
loop-e-preserved c = counted_more c.args.ends.now (ones c.args.handed.now) _ c.loop-e.invariant c.count_edge.ensures
