-- `board::tests::check_verdict` meets its contract: the tests up to 8 decide, or else test 9, or else those of the open bytes. Assumes
-- nothing.
use mathlib.Core.Path.{refl, sym, ap, ◌∙◌}
use Rattle.model.specs.Lent.{sheet_lent}
use Rattle.board.specs.Checks.{edge_found, test_of}
use Rattle.board.proofs.Searching.{answered}
use Rattle.board.proofs.Failures.{hands_on, passes_on, passed}
use Rattle.board.proofs.Validity.{plain_passes, plain_allows}
use Rattle.board.proofs.Calls.{verdict_tests, handed_allowed}
use Rattle.board.proofs.tests.check_verdict.Goals as goal

pub returns-in_err-check_plain : goal.returns-in_err-check_plain
returns-in_err-check_plain c =
    let p = hands_on _ _ _ c.from_residual.result c.check_plain.ensures c.in_err-check_plain.was c.from_residual.ensures.1 in
    ap test_of p.0 ∙ sym (verdict_tests (sheet_lent c.args.sheet) c.args.handed.now ∙ p.1)

pub first_above-requires : goal.first_above-requires
first_above-requires c =
    handed_allowed (sheet_lent c.args.sheet) c.args.handed.now (passed _ _ c.check_plain.ensures c.in_ok-check_plain.was)

pub returns-in-Some : goal.returns-in-Some
returns-in-Some c =
    rw (
      verdict_tests (sheet_lent c.args.sheet) c.args.handed.now ∙ passes_on _ _ _ c.check_plain.ensures c.in_ok-check_plain.was,
      answered _ _ _ _ _ refl c.first_above.ensures (ap edge_found c.in-Some.is),
    )

pub check_open-requires : goal.check_open-requires
check_open-requires c = plain_allows _ _ (plain_passes _ _ (passed _ _ c.check_plain.ensures c.in_ok-check_plain.was))

pub returns : goal.returns
returns c =
    rw (
      verdict_tests (sheet_lent c.args.sheet) c.args.handed.now ∙ passes_on _ _ _ c.check_plain.ensures c.in_ok-check_plain.was,
      answered _ _ _ _ _ refl c.first_above.ensures (ap edge_found c.in_default.is),
    )
    c.check_open.ensures
