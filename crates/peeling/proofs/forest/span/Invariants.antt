-- `peeling::forest::span` meets its contract. The loop's invariant: the edges passed that are in the forest are listed. Assumes nothing.
use Rattle.peeling.proofs.SpanLaws.{Spanning}
use Rattle.peeling.proofs.forest.span.Given as goal

abbrev pub invariant-loop-e : goal.invariant-loop-e
invariant-loop-e l = Spanning l.vertices l.ends l.support l.tree l.listed.taken l.listed.links l.e l.listed.count
