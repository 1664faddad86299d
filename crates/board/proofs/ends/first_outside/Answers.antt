-- `board::ends::first_outside` meets its contract: where the largest end is below the vertex count, all are. Assumes nothing.
use Rattle.board.proofs.Bounding.{none_outside}
use Rattle.board.proofs.ends.first_outside.Goals as goal

pub returns-then-top-vertices : goal.returns-then-top-vertices
returns-then-top-vertices c = none_outside _ c.args.ends.now c.largest_end-top.ensures c.if-top-vertices.true
