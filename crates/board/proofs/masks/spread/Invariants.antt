-- `board::masks::spread` meets its contract. The loop's invariant: the first i bytes are those of the mask's items. Assumes nothing.
use lib.ListN.{length}
use Rattle.board.proofs.MaskBytes.{SpreadTo}
use Rattle.board.proofs.masks.spread.Given as goal

abbrev pub invariant-loop-i : goal.invariant-loop-i
invariant-loop-i l = SpreadTo l.mask (length l.initial.filled) l.i l.filled
