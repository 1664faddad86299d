-- `peeling::flips::flip` meets its contract. The loop's invariant: what lies from the vertex reached on is still to flip. Assumes nothing.
use Rattle.union_find.specs.Packed.{parents_of}
use Rattle.union_find.proofs.Roots.{steps}
use Rattle.peeling.proofs.FlipLaws.{Flipping}
use Rattle.peeling.proofs.flips.flip.Given as goal

abbrev pub invariant-loop-w : goal.invariant-loop-w
invariant-loop-w l = Flipping (parents_of l.tree) l.initial.w l.initial.odd l.w l.odd

abbrev pub decreases-loop-w : goal.decreases-loop-w
decreases-loop-w l = steps (parents_of l.tree) l.w
