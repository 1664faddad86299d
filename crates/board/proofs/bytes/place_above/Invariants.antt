-- `board::bytes::place_above` meets its contract. The loop's invariant: no byte before `i` is above the limit. Assumes nothing.
use lib.ListN.{get_or}
use lib.Dec.{ltb}
use Rattle.board.proofs.Searching.{Passed}
use Rattle.board.proofs.bytes.place_above.Given as goal

abbrev pub invariant-loop-i : goal.invariant-loop-i
invariant-loop-i g l = Passed (λ k. ltb l.limit (get_or l.bytes k 0)) l.i
