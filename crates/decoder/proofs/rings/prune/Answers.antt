use native.Mathlib.Omega.{arith}
use Rattle.decoder.proofs.Pruning.{prune_begins, prune_ends, prune_keeps, prune_drops, kept_below, v_below, keeps_fewer, drops_fewer}
use Rattle.decoder.proofs.rings.prune.Goals as goal

pub loop-v-init : goal.loop-v-init
loop-v-init c w = prune_begins w

pub bounds-ring-v : goal.bounds-ring-v
bounds-ring-v c = v_below c.requires (c.loop-v.invariant c.requires) c.loop-v-test.true

pub bounds-exposure-v : goal.bounds-exposure-v
bounds-exposure-v c = v_below c.requires (c.loop-v.invariant c.requires) c.loop-v-test.true

pub bounds-ring-kept : goal.bounds-ring-kept
bounds-ring-kept c = kept_below c.requires (c.loop-v.invariant c.requires)

pub loop-v-smaller-then-exposure-v-eq0 : goal.loop-v-smaller-then-exposure-v-eq0
loop-v-smaller-then-exposure-v-eq0 c =
    drops_fewer c.requires (c.loop-v.invariant c.requires) c.loop-v-test.true c.if-exposure-v-eq0.true

pub loop-v-preserved-then-exposure-v-eq0 : goal.loop-v-preserved-then-exposure-v-eq0
loop-v-preserved-then-exposure-v-eq0 c w = prune_drops w (c.loop-v.invariant w) c.loop-v-test.true c.if-exposure-v-eq0.true

pub loop-v-smaller : goal.loop-v-smaller
loop-v-smaller c =
    keeps_fewer c.requires (c.loop-v.invariant c.requires) c.loop-v-test.true

pub loop-v-preserved : goal.loop-v-preserved
loop-v-preserved c w = prune_keeps w (c.loop-v.invariant w) c.loop-v-test.true

pub returns : goal.returns
returns c = record { each = λ w. prune_ends w (c.loop-v.invariant w) (omega (arith, c.loop-v-test.false)) }
