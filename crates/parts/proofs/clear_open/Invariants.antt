-- `parts::clear_open` meets its contract. The loop's invariant: the entries of the roots of the open vertices passed are cleared.
-- Assumes nothing.
use Rattle.union_find.specs.Packed.{parents_of}
use Rattle.parts.specs.RootParities.{Cleared}
use Rattle.parts.proofs.clear_open.Given as goal

abbrev pub invariant-loop-v : goal.invariant-loop-v
invariant-loop-v l = Cleared l.v (parents_of l.tree) l.opened l.initial.odd l.odd
