-- `board::largest::largest_end` meets its contract. The loop's invariant: no end before this one is above `top`.
-- Assumes nothing.
use Rattle.board.specs.Bounds.{Bounded, entry}
use Rattle.board.proofs.largest.largest_end.Given as goal

abbrev pub invariant-loop-end : goal.invariant-loop-end
invariant-loop-end l = Bounded l.end-index (entry l.ends) l.top
