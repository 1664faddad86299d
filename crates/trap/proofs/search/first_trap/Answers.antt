use mathlib.Core.Path.{sym, ◌∙◌}
use native.Mathlib.Omega.{arith}
use Rattle.board.proofs.Searching.{ends_at, ends_nowhere}
use Rattle.trap.proofs.search.first_trap.Goals as goal

pub returns-then-is_trap_of : goal.returns-then-is_trap_of
returns-then-is_trap_of c =
    ends_at _ c.loop-set.invariant (rw c.alone-set-end.ensures at c.loop-set-test.true) (sym c.is_trap_of.ensures ∙ c.if-is_trap_of.true)

pub returns : goal.returns
returns c = ends_nowhere _ c.loop-set.invariant (omega (arith, c.loop-set-test.false, c.alone-set-end.ensures))
