-- `text::writing::put_edges` meets its contract. The loop's invariant: so many edges' lines are put. Assumes nothing.
use Rattle.text.specs.Printing.{Puts, edges_bytes}
use Rattle.text.proofs.writing.put_edges.Given as goal

abbrev pub invariant-loop-e : goal.invariant-loop-e
invariant-loop-e l = Puts (edges_bytes l.board.ends.now l.board.marks.now l.e) l.initial.out l.at l.next l.out
