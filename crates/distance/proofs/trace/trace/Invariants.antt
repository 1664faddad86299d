-- `distance::trace::trace` meets its contract: each turn passes one kept edge, by the laws of `Tracing`. Assumes nothing.
use Rattle.distance.specs.Search.{at}
use Rattle.distance.proofs.Tracing.{Tracing}
use Rattle.distance.proofs.trace.trace.Given as goal

abbrev pub invariant-loop-state : goal.invariant-loop-state
invariant-loop-state l = Tracing l.ends l.marks l.visits.depth l.visits.via l.initial.state.0 l.state.0 l.found

abbrev pub decreases-loop-state : goal.decreases-loop-state
decreases-loop-state l = at l.visits.depth l.state.0
