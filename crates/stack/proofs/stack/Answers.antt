-- `stack::stack` meets its contract: the refusal of the first test that fails, and otherwise what is filled; `sound` follows from the
-- outcome. Assumes nothing.
use mathlib.Core.Path.{sym, ap, ◌∙◌}
use Rattle.std.proofs.lemmas.Result.{err_from_is_err_and}
use Rattle.board.specs.Checks.{test_of}
use Rattle.board.proofs.Failures.{passed}
use Rattle.stack.proofs.StackPasses.{stack_passes}
use Rattle.stack.proofs.StackOutcome.{stack_refused, stack_built}
use Rattle.stack.proofs.stack.Goals as goal

pub returns-in_err-check_stack : goal.returns-in_err-check_stack
returns-in_err-check_stack c =
    let a = c.args in
    let p = err_from_is_err_and c.from_residual.result c.from_residual.ensures.1 in
    let done = stack_refused a.side a.rounds a.readings.now a.ends.now a.marks.now a.syndrome.now _
    (sym c.check_stack.ensures ∙ ap test_of c.in_err-check_stack.was) in
    rw (p.1, p.2) (record { outcome = done.0; sound = done.1 })

pub fill-requires : goal.fill-requires
fill-requires c =
    let a = c.args in
    stack_passes a.side a.rounds a.readings.now a.ends.now a.marks.now a.syndrome.now
    (passed _ _ c.check_stack.ensures c.in_ok-check_stack.was)

pub returns : goal.returns
returns c =
    let a = c.args in
    let w = c.fill.new in
    let done = stack_built a.side a.rounds a.readings.now a.ends.now a.marks.now a.syndrome.now c.fill.result w.ends w.marks w.syndrome
    (passed _ _ c.check_stack.ensures c.in_ok-check_stack.was) c.fill.ensures in
    record { outcome = done.0; sound = done.1 }
