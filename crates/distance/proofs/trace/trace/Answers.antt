use native.Mathlib.Omega.{arith}
use Rattle.distance.proofs.Tracing.{tracing_start, found_byte, kept_place, tracing_step, tracing_end}
use Rattle.distance.proofs.trace.trace.Goals as goal

pub loop-state-init : goal.loop-state-init
loop-state-init c = tracing_start c.requires

pub overflow_sub-found : goal.overflow_sub-found
overflow_sub-found c =
    let known = c.loop-state.invariant in
    omega (arith, found_byte known _ (kept_place known (omega (arith, c.loop-state-test.true))))

pub loop-state-preserved : goal.loop-state-preserved
loop-state-preserved c = rw c.across-state.ensures (tracing_step c.loop-state.invariant (omega (arith, c.loop-state-test.true)))

pub returns : goal.returns
returns c = tracing_end c.loop-state.invariant (omega (arith, c.loop-state-test.false))
