-- `union_find::root_of` meets its contract. The loop's invariant: the vertex reached has v's root. Assumes nothing.
use mathlib.Core.Path.{◌≡◌}
use Rattle.union_find.specs.Trees.{root_of, InTrees}
use Rattle.union_find.specs.Packed.{parents_of}
use Rattle.union_find.proofs.Roots.{steps}
use Rattle.union_find.proofs.root_of.Given as goal

abbrev pub invariant-loop-w : goal.invariant-loop-w
invariant-loop-w l = InTrees (parents_of l.tree) l.w × (root_of (parents_of l.tree) l.w ≡ root_of (parents_of l.tree) l.initial.w)

abbrev pub decreases-loop-w : goal.decreases-loop-w
decreases-loop-w l = steps (parents_of l.tree) l.w
