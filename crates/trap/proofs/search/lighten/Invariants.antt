-- `trap::search::lighten` meets its contract. The loop's invariant: no trap has fewer than `size` edges, and the loop is still shown.
-- Assumes nothing.
use mathlib.Core.Path.{◌≡◌}
use Rattle.model.specs.Lent.{board_lent}
use Rattle.trap.proofs.SearchLaws.{NoneBelow}
use Rattle.trap.proofs.search.lighten.Given as goal

abbrev pub invariant-loop-size : goal.invariant-loop-size
invariant-loop-size l = (l.set ≡ l.initial.set) × NoneBelow (board_lent l.board) l.loss l.size
