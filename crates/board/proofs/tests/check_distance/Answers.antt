-- `board::tests::check_distance` meets its contract: it is the whole board's check. Assumes nothing.
use Rattle.model.specs.Refusals.{distance_refusal}
use Rattle.board.proofs.tests.check_distance.Goals as goal

pub returns : goal.returns
unfolding distance_refusal
returns c = c.check_whole_board.ensures
