-- `packed::checks::screen` meets its contract: the counts decide; then a word that is refused, after ends and marks; and where both pass,
-- the rest is decoding's. Assumes nothing.
use mathlib.Core.Path.{sym, ap, ◌∙◌}
use Rattle.std.proofs.lemmas.Result.{err_from_is_err_and}
use Rattle.board.specs.Checks.{test_of}
use Rattle.board.proofs.Failures.{hands_on, passes_on, passed}
use Rattle.packed.proofs.Screening.{screened_first, screened_later, screened_passed}
use Rattle.packed.proofs.checks.screen.Goals as goal

pub returns-in_err-check_counts : goal.returns-in_err-check_counts
returns-in_err-check_counts c =
    let p = err_from_is_err_and c.from_residual.result c.from_residual.ensures.1 in
    rw (p.1, p.2) (screened_first _ _ _ _ _ _ _ c.word_count.ensures c.word_count-2.ensures _ c.check_counts.ensures _ c.in_err-check_counts.was)

pub returns-in_err-check_edges : goal.returns-in_err-check_edges
returns-in_err-check_edges c =
    let p = hands_on _ _ _ c.from_residual-in_err-check_edges.result c.check_edges.ensures c.in_err-check_edges.was
    c.from_residual-in_err-check_edges.ensures.1 in
    screened_later _ _ _ _ _ _ _ c.word_count.ensures c.word_count-2.ensures _ c.check_counts.ensures _ _
    c.in_ok-check_counts.was (sym c.check_words.ensures ∙ ap test_of c.in-Err.is) (ap test_of p.0 ∙ sym p.1)

pub returns-in-Err : goal.returns-in-Err
returns-in-Err c =
    screened_later _ _ _ _ _ _ _ c.word_count.ensures c.word_count-2.ensures _ c.check_counts.ensures _ _
    c.in_ok-check_counts.was (sym c.check_words.ensures ∙ ap test_of c.in-Err.is)
    (sym (passes_on _ _ _ c.check_edges.ensures c.in_ok-check_edges.was))

pub returns : goal.returns
returns c =
    screened_passed _ _ _ _ _ _ _ c.word_count.ensures c.word_count-2.ensures _ c.check_counts.ensures
    c.in_ok-check_counts.was (passed _ _ c.check_words.ensures c.in_default.is)
