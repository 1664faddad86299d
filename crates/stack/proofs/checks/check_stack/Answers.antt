-- `stack::checks::check_stack` meets its contract: the tests 11 and 15 decide, or else 3 and 7. Assumes nothing.
use mathlib.Core.Path.{sym, ap, ◌∙◌}
use Rattle.board.specs.Checks.{test_of}
use Rattle.board.proofs.Failures.{hands_on, passes_on}
use Rattle.stack.proofs.StackTests.{stack_tests}
use Rattle.stack.proofs.checks.check_stack.Goals as goal

pub returns-in_err-check_layers : goal.returns-in_err-check_layers
returns-in_err-check_layers c =
    let a = c.args in
    let p = hands_on _ _ _ c.from_residual.result c.check_layers.ensures c.in_err-check_layers.was c.from_residual.ensures.1 in
    ap test_of p.0 ∙ sym (stack_tests a.side a.rounds a.readings.now a.ends.now a.marks.now a.syndrome.now ∙ p.1)

pub returns : goal.returns
returns c =
    let a = c.args in
    c.check_readings.ensures
    ∙ sym (stack_tests a.side a.rounds a.readings.now a.ends.now a.marks.now a.syndrome.now
    ∙ passes_on _ _ _ c.check_layers.ensures c.in_ok-check_layers.was)
