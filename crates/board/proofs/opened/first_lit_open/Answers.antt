-- `board::opened::first_lit_open` meets its contract: where the largest of the lesser bytes is 0, no vertex is open and lit. Assumes nothing.
use Rattle.board.proofs.Bounding.{none_lit_open}
use Rattle.board.proofs.opened.first_lit_open.Goals as goal

pub returns-then-largest_lesser-eq0 : goal.returns-then-largest_lesser-eq0
returns-then-largest_lesser-eq0 c =
    let a = c.args in
    none_lit_open a.opened.now a.syndrome.now c.largest_lesser.ensures c.if-largest_lesser-eq0.true
