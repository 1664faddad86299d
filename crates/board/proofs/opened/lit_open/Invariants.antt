-- `board::opened::lit_open` meets its contract. The loop's invariant: no vertex before `v` is open and lit. Assumes nothing.
use Rattle.model.specs.Refusals.{lit_open}
use Rattle.board.proofs.Searching.{Passed}
use Rattle.board.proofs.opened.lit_open.Given as goal

abbrev pub invariant-loop-v : goal.invariant-loop-v
invariant-loop-v l = Passed (lit_open l.opened l.syndrome) l.v
