-- `raise_ring` meets its contract: each turn grows one vertex of the ring. Assumes nothing.
use lib.ListN.{length}
use Rattle.model.specs.Board.{vertex_limit}
use Rattle.union_find.specs.Trees.{at}
use Rattle.decoder.specs.Rings.{way}
use Rattle.decoder.specs.Raising.{RingRaisable}
use Rattle.decoder.proofs.RingRaising.{Going}
use Rattle.decoder.proofs.raising.raise_ring.Given as goal

abbrev pub invariant-loop-v : goal.invariant-loop-v
invariant-loop-v l = (w : RingRaisable l.lists.latest l.lists.earlier l.ring l.name.0 l.initial.support l.initial.filled l.count) → Going w l.v l.support l.filled l.total

abbrev pub decreases-loop-v : goal.decreases-loop-v
decreases-loop-v l = length (way vertex_limit l.ring (at l.ring l.v) l.name.0)
