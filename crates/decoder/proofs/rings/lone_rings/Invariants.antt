-- `lone_rings` meets its contract: each turn makes one ring. Assumes nothing.
use Rattle.decoder.specs.Rings.{LoneRings}
use Rattle.decoder.proofs.rings.lone_rings.Given as goal

abbrev pub invariant-loop-v : goal.invariant-loop-v
invariant-loop-v l = LoneRings l.v l.ring
