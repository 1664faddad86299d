-- `parts::first_marked` meets its contract. The loop's invariant: no vertex before `next` has a marked root. Assumes nothing.
use Rattle.board.proofs.Searching.{Passed}
use Rattle.union_find.specs.Packed.{parents_of}
use Rattle.parts.specs.RootParities.{marked}
use Rattle.parts.proofs.first_marked.Given as goal

abbrev pub invariant-loop-next : goal.invariant-loop-next
invariant-loop-next l = Passed (marked (parents_of l.tree) l.odd) l.next
