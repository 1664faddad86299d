-- `board::tests::check_plain` meets its contract: the tests of the board decide, or else those of the bytes. Assumes nothing.
use mathlib.Core.Path.{sym, ap, ◌∙◌}
use Rattle.model.specs.Lent.{sheet_lent}
use Rattle.board.specs.Checks.{test_of}
use Rattle.board.proofs.Failures.{hands_on, passes_on, passed}
use Rattle.board.proofs.Validity.{plain_tests, board_allows}
use Rattle.board.proofs.tests.check_plain.Goals as goal

pub returns-in_err-check_board : goal.returns-in_err-check_board
returns-in_err-check_board c =
    let p = hands_on _ _ _ c.from_residual.result c.check_board.ensures c.in_err-check_board.was c.from_residual.ensures.1 in
    ap test_of p.0 ∙ sym (plain_tests (sheet_lent c.args.sheet) c.args.others ∙ p.1)

pub check_bytes-requires : goal.check_bytes-requires
check_bytes-requires c = board_allows (sheet_lent c.args.sheet) c.args.others (passed _ _ c.check_board.ensures c.in_ok-check_board.was)

pub returns : goal.returns
returns c =
    c.check_bytes.ensures
    ∙ sym (plain_tests (sheet_lent c.args.sheet) c.args.others ∙ passes_on _ _ _ c.check_board.ensures c.in_ok-check_board.was)
