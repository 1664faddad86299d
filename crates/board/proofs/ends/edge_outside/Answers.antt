use borrow.Author.Tests.{le-leb, lt-leb}
use Rattle.board.proofs.Searching.{ends_at, ends_nowhere}
use Rattle.board.proofs.ends.edge_outside.Goals.{then-first-vertices-via-else-first-vertices+then-second-vertices, then-first-vertices-via-then-first-vertices}
use Rattle.board.proofs.ends.edge_outside.Goals as goal

pub returns-then-first-vertices : goal.returns-then-first-vertices
returns-then-first-vertices c = ends_at _ c.loop-e.invariant c.loop-e-test.true
    (rw (← c.first_end-first.ensures, ← c.second_end-second.ensures)
    (elim c.then-first-vertices.branch [ then-first-vertices-via-then-first-vertices w ↦ rw (le-leb _ _ w.if-first-vertices.true) | then-first-vertices-via-else-first-vertices+then-second-vertices w ↦ rw (lt-leb _ _ w.if-first-vertices.false, le-leb _ _ w.if-second-vertices.true) ]))

pub returns : goal.returns
returns c = ends_nowhere _ c.loop-e.invariant c.loop-e-test.false
