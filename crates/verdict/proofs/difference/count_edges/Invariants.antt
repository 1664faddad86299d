-- The bytes flipped are those of the edges passed. Assumes nothing.
use Rattle.model.specs.Sums.{ones}
use Rattle.verdict.specs.VertexParities.{Flipped, met_by}
use Rattle.verdict.proofs.difference.count_edges.Given as goal

abbrev pub invariant-loop-e : goal.invariant-loop-e
invariant-loop-e l = Flipped (met_by l.ends (ones l.handed) l.e) l.vertices l.initial.parity l.parity
