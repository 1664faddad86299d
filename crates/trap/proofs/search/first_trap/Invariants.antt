-- `trap::search::first_trap` meets its contract. The loop's invariant: no mask before `set` is a trap of this size. Assumes nothing.
use Rattle.model.specs.Lent.{board_lent}
use Rattle.board.proofs.Searching.{Passed}
use Rattle.trap.specs.Searching.{trap_of_size}
use Rattle.trap.proofs.search.first_trap.Given as goal

abbrev pub invariant-loop-set : goal.invariant-loop-set
invariant-loop-set l = Passed (trap_of_size (board_lent l.board) l.loss l.size) l.set
