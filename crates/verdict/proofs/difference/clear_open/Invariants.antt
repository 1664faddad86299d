-- The bytes cleared are those of the open vertices passed. Assumes nothing.
use Rattle.verdict.specs.VertexParities.{Cleared}
use Rattle.verdict.proofs.difference.clear_open.Given as goal

abbrev pub invariant-loop-v : goal.invariant-loop-v
invariant-loop-v l = Cleared l.v l.opened l.initial.parity l.parity
