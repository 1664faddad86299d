-- `board::tests::check_sheet` meets its contract: the tests up to 8 decide, or else those of the open bytes. Assumes nothing.
use mathlib.Core.Path.{sym, ap, ◌∙◌}
use Rattle.model.specs.Lent.{sheet_lent}
use Rattle.board.specs.Checks.{test_of}
use Rattle.board.proofs.Failures.{hands_on, passes_on, passed}
use Rattle.board.proofs.Validity.{sheet_tests, plain_passes, plain_allows}
use Rattle.board.proofs.tests.check_sheet.Goals as goal

pub returns-in_err-check_plain : goal.returns-in_err-check_plain
returns-in_err-check_plain c =
    let p = hands_on _ _ _ c.from_residual.result c.check_plain.ensures c.in_err-check_plain.was c.from_residual.ensures.1 in
    ap test_of p.0 ∙ sym (sheet_tests (sheet_lent c.args.sheet) c.args.others ∙ p.1)

pub check_open-requires : goal.check_open-requires
check_open-requires c = plain_allows (sheet_lent c.args.sheet) c.args.others (plain_passes _ _ (passed _ _ c.check_plain.ensures c.in_ok-check_plain.was))

pub returns : goal.returns
returns c =
    c.check_open.ensures
    ∙ sym (sheet_tests (sheet_lent c.args.sheet) c.args.others ∙ passes_on _ _ _ c.check_plain.ensures c.in_ok-check_plain.was)
