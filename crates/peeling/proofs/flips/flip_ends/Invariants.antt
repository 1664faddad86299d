-- `peeling::flips::flip_ends` meets its contract. The loop's invariant: the vertices passed that hold 1 have flipped. Assumes nothing.
use lib.ListN.{length}
use Rattle.model.specs.Sums.{ones}
use Rattle.union_find.specs.Packed.{parents_of}
use Rattle.peeling.specs.TreeFlips.{AllFlippable, AllFlipped}
use Rattle.peeling.proofs.flips.flip_ends.Given as goal

abbrev pub invariant-loop-v : goal.invariant-loop-v
invariant-loop-v l =
    AllFlippable (length l.lit) (parents_of l.tree) l.odd × AllFlipped (parents_of l.tree) l.v (ones l.lit) l.initial.odd l.odd
