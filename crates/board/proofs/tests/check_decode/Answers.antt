-- `board::tests::check_decode` meets its contract: it is the sheet's check. Assumes nothing.
use Rattle.model.specs.Refusals.{decode_refusal}
use Rattle.board.proofs.tests.check_decode.Goals as goal

pub returns : goal.returns
unfolding decode_refusal
returns c = c.check_sheet.ensures
