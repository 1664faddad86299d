use Rattle.decoder.proofs.RingRaising.{ring_begins, ring_ends, ring_inside, raisable_next, ring_goes_on, ring_fewer}
use Rattle.decoder.proofs.raising.raise_ring.Goals as goal

pub loop-v-init : goal.loop-v-init
loop-v-init c w = ring_begins w

pub raise_at-total-requires : goal.raise_at-total-requires
raise_at-total-requires c =
    let pre = c.requires in
    raisable_next pre (c.loop-v.invariant pre)

pub bounds-ring-v : goal.bounds-ring-v
bounds-ring-v c = ring_inside c.requires (c.loop-v.invariant c.requires)

pub returns-then-v-name : goal.returns-then-v-name
returns-then-v-name c = record { each = λ w. ring_ends w (c.loop-v.invariant w) _ _ _ c.raise_at-total.ensures c.if-v-name.true }

pub loop-v-smaller : goal.loop-v-smaller
loop-v-smaller c =
    let pre = c.requires in
    ring_fewer pre (c.loop-v.invariant pre) _ _ _ c.raise_at-total.ensures c.if-v-name.false

pub loop-v-preserved : goal.loop-v-preserved
loop-v-preserved c w = ring_goes_on w (c.loop-v.invariant w) _ _ _ c.raise_at-total.ensures c.if-v-name.false
