-- `board::tests::check_board` meets its contract: the tests 1 to 3 decide, or else those of the edges. Assumes nothing.
use mathlib.Core.Path.{sym, ap, ◌∙◌}
use Rattle.model.specs.Lent.{board_lent}
use Rattle.board.specs.Checks.{test_of}
use Rattle.board.proofs.Failures.{hands_on, passes_on, passed}
use Rattle.board.proofs.Validity.{board_tests, counts_allow}
use Rattle.board.proofs.tests.check_board.Goals as goal

pub returns-in_err-check_counts : goal.returns-in_err-check_counts
returns-in_err-check_counts c =
    let p = hands_on _ _ _ c.from_residual.result c.check_counts.ensures c.in_err-check_counts.was c.from_residual.ensures.1 in
    ap test_of p.0 ∙ sym (board_tests (board_lent c.args.board) c.args.others ∙ p.1)

pub check_edges-requires : goal.check_edges-requires
check_edges-requires c = counts_allow (board_lent c.args.board) c.args.others (passed _ _ c.check_counts.ensures c.in_ok-check_counts.was)

pub returns : goal.returns
returns c =
    c.check_edges.ensures
    ∙ sym (board_tests (board_lent c.args.board) c.args.others ∙ passes_on _ _ _ c.check_counts.ensures c.in_ok-check_counts.was)
