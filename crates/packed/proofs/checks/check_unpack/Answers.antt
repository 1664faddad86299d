-- `packed::checks::check_unpack` meets its contract: the tests 1 to 3 decide, or else those of the words. Assumes nothing.
use mathlib.Core.Path.{sym, ap, ◌∙◌}
use Rattle.board.specs.Checks.{test_of}
use Rattle.board.proofs.Failures.{hands_on, passes_on}
use Rattle.packed.proofs.WordTests.{unpack_tests}
use Rattle.packed.proofs.checks.check_unpack.Goals as goal

pub returns-in_err-check_items : goal.returns-in_err-check_items
returns-in_err-check_items c =
    let a = c.args in
    let p = hands_on _ _ _ c.from_residual.result c.check_items.ensures c.in_err-check_items.was c.from_residual.ensures.1 in
    ap test_of p.0 ∙ sym (unpack_tests a.vertices a.edges a.syndrome.now a.loss.now a.lit.now a.lost.now ∙ p.1)

pub returns : goal.returns
returns c =
    let a = c.args in
    c.check_words.ensures
    ∙ sym (unpack_tests a.vertices a.edges a.syndrome.now a.loss.now a.lit.now a.lost.now
    ∙ passes_on _ _ _ c.check_items.ensures c.in_ok-check_items.was)
