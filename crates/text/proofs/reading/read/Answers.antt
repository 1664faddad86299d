-- `text::reading::read` meets its contract: the tests in their order, then the lines, then the entries copied, none where the lines are
-- refused. Assumes nothing.
use Rattle.std.proofs.lemmas.Result.{err_from_is_err_and}
use Rattle.text.proofs.HoldLaws.{zeros_clear}
use Rattle.text.proofs.ReadOutcome.{wrong_length, too_long, none_filled, reads}
use Rattle.text.proofs.reading.read.Goals as goal

pub returns-then-not-fit : goal.returns-then-not-fit
returns-then-not-fit c = wrong_length _ _ c.if-not-fit.true

pub returns-then-text-gt-TEXT : goal.returns-then-text-gt-TEXT
returns-then-text-gt-TEXT c = too_long _ _ c.if-not-fit.false c.if-text-gt-TEXT.true

pub read_lines-reading-requires-clause-clear : goal.read_lines-reading-requires-clause-clear
read_lines-reading-requires-clause-clear c = zeros_clear

pub returns-in_err-counts : goal.returns-in_err-counts
returns-in_err-counts c =
    let p = err_from_is_err_and c.from_residual.result c.from_residual.ensures.1 in
    rw (p.1, p.2) (none_filled _ _ c.if-not-fit.false c.if-text-gt-TEXT.false _ _ (rw c.in_err-counts.was at c.read_lines-reading.ensures))

pub returns : goal.returns
returns c =
    reads _ _ c.if-not-fit.false c.if-text-gt-TEXT.false _ _ _ _ _ _ _
    (rw c.in_ok-counts.was at c.read_lines-reading.ensures)
    c.copy_front.ensures
    c.copy_front-2.ensures
    c.copy_front-3.ensures
    c.copy_front-4.ensures
    c.copy_front-5.ensures
