use native.Mathlib.Omega.{arith}
use borrow.Author.Tests.{eq-eqb}
use Rattle.board.proofs.Searching.{ends_at, ends_nowhere}
use Rattle.parts.proofs.Rooting.{root_limited}
use Rattle.parts.proofs.first_marked.Goals as goal

pub bounds-odd-root : goal.bounds-odd-root
bounds-odd-root c = root_limited c.requires.rooted c.loop-next-test.true c.root_of-root.ensures

pub returns-then-odd-root-eq1 : goal.returns-then-odd-root-eq1
returns-then-odd-root-eq1 c =
    ends_at _ c.loop-next.invariant (omega arith) (rw (← c.root_of-root.ensures) (eq-eqb _ _ c.if-odd-root-eq1.true))

pub returns : goal.returns
returns c = ends_nowhere _ c.loop-next.invariant (omega arith)
