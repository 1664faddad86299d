-- `board::ends::edge_outside` meets its contract. The loop's invariant: no edge before `e` breaks the rule. Assumes nothing.
use Rattle.model.specs.Board.{plain}
use Rattle.model.specs.Refusals.{outside}
use Rattle.board.proofs.Searching.{Passed}
use Rattle.board.proofs.ends.edge_outside.Given as goal

abbrev pub invariant-loop-e : goal.invariant-loop-e
invariant-loop-e l = Passed (outside (plain l.vertices 0 l.ends)) l.e
