-- `board::largest::largest_lesser` meets its contract. The loop's invariant: of no place before this one the lesser byte is above `top`.
-- Assumes nothing.
use Rattle.board.specs.Bounds.{Bounded, lesser}
use Rattle.board.proofs.largest.largest_lesser.Given as goal

abbrev pub invariant-loop-i : goal.invariant-loop-i
invariant-loop-i l = Bounded l.i (lesser l.bytes l.others) l.top
