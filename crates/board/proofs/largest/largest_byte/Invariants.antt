-- `board::largest::largest_byte` meets its contract. The loop's invariant: no byte before this one is above `top`.
-- Assumes nothing.
use Rattle.board.specs.Bounds.{Bounded, entry}
use Rattle.board.proofs.largest.largest_byte.Given as goal

abbrev pub invariant-loop-byte : goal.invariant-loop-byte
invariant-loop-byte l = Bounded l.byte-index (entry l.bytes) l.top
