-- `parts::parities` meets its contract. The loop's invariant: the parities are those of the vertices passed. Assumes nothing.
use Rattle.union_find.specs.Packed.{parents_of}
use Rattle.parts.specs.RootParities.{Parities}
use Rattle.parts.proofs.parities.Given as goal

abbrev pub invariant-loop-v : goal.invariant-loop-v
invariant-loop-v l = Parities l.v (parents_of l.tree) l.syndrome l.odd
