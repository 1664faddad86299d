-- `game::loops::fill_loops` meets its contract. The loop's invariant: the bytes of all masks below `set` are right. Assumes nothing.
use Rattle.model.specs.Lent.{board_lent}
use Rattle.game.specs.LoopTable.{Filled}
use Rattle.game.proofs.loops.fill_loops.Given as goal

abbrev pub invariant-loop-set : goal.invariant-loop-set
invariant-loop-set l = Filled (board_lent l.board) l.set l.loops
