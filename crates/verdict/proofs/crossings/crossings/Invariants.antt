-- The loop's two parities are those of the edges passed. Assumes nothing.
use Rattle.model.specs.Sums.{ones}
use Rattle.model.specs.Winding.{together}
use Rattle.verdict.proofs.CrossingCounts.{Counted}
use Rattle.verdict.proofs.crossings.crossings.Given as goal

abbrev pub invariant-loop-e : goal.invariant-loop-e
invariant-loop-e l = Counted l.marks (together (ones l.handed) (ones l.correction)) l.a l.b l.e
