-- `peeling::peel` meets its contract. The loop's invariant: all but k edges of the forest are cut. Assumes nothing.
use Rattle.union_find.specs.Packed.{parents_of}
use Rattle.peeling.proofs.PeelLoop.{PeelingFrom}
use Rattle.peeling.proofs.peel.Given as goal

abbrev pub invariant-loop-k : goal.invariant-loop-k
invariant-loop-k l = PeelingFrom l.vertices l.ends l.support l.lit (parents_of l.tree) l.correction l.odd l.k l.count
