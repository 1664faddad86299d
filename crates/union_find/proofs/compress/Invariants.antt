-- `union_find::compress` meets its contract. The loop's invariant: the vertices passed on the way up hang under the root. Assumes nothing.
use Rattle.union_find.proofs.Roots.{steps}
use Rattle.union_find.proofs.CompressLoop.{Passing}
use Rattle.union_find.specs.Packed.{parents_of}
use Rattle.union_find.proofs.compress.Given as goal

abbrev pub invariant-loop-w : goal.invariant-loop-w
invariant-loop-w l = Passing l.initial.tree l.initial.w l.root.0 l.w l.tree

abbrev pub decreases-loop-w : goal.decreases-loop-w
decreases-loop-w l = steps (parents_of l.initial.tree) l.w
