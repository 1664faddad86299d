-- `board::tests::check_whole_board` meets its contract: the tests of the board decide, or else test 16. Assumes nothing.
use mathlib.Core.Path.{sym, ap, ◌∙◌}
use Rattle.model.specs.Lent.{board_lent}
use Rattle.board.specs.Checks.{test_of}
use Rattle.board.proofs.Failures.{hands_on, passes_on, passed}
use Rattle.board.proofs.Validity.{whole_tests, open_allowed}
use Rattle.board.proofs.tests.check_whole_board.Goals as goal

pub returns-in_err-check_board : goal.returns-in_err-check_board
returns-in_err-check_board c =
    let p = hands_on _ _ _ c.from_residual.result c.check_board.ensures c.in_err-check_board.was c.from_residual.ensures.1 in
    ap test_of p.0 ∙ sym (whole_tests (board_lent c.args.board) c.args.others ∙ p.1)

pub check_open_bytes-requires : goal.check_open_bytes-requires
check_open_bytes-requires c = open_allowed (board_lent c.args.board) c.args.others (passed _ _ c.check_board.ensures c.in_ok-check_board.was)

pub returns : goal.returns
returns c =
    c.check_open_bytes.ensures
    ∙ sym (whole_tests (board_lent c.args.board) c.args.others ∙ passes_on _ _ _ c.check_board.ensures c.in_ok-check_board.was)
