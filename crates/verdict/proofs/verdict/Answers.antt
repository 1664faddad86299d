-- A refusal of the verdict's own tests, or the comparison; what a marker may rely on follows from either. Assumes nothing.
use mathlib.Core.Path.{sym, ap, ◌∙◌}
use Rattle.board.specs.Checks.{test_of}
use Rattle.verdict.proofs.VerdictAnswers.{refused_judges, buffers_fit, front_whole, comparable}
use Rattle.verdict.proofs.SoundVerdicts.{judges_sound}
use Rattle.verdict.proofs.verdict.Goals as goal

pub returns-in-Err : goal.returns-in-Err
returns-in-Err c =
    let j = refused_judges _ _ _ (sym c.check_verdict.ensures ∙ ap test_of c.in-Err.is) in
    record { answer = j; sound = judges_sound _ _ _ j }

pub slice_bounds-support-end : goal.slice_bounds-support-end
slice_bounds-support-end c = buffers_fit _ _ c.check_verdict.ensures c.in_default.is

pub slice_bounds-compare-end : goal.slice_bounds-compare-end
slice_bounds-compare-end c = sym (front_whole _ _ c.check_verdict.ensures c.in_default.is)

pub slice_bounds-correction-end : goal.slice_bounds-correction-end
slice_bounds-correction-end c = buffers_fit _ _ c.check_verdict.ensures c.in_default.is

pub slice_bounds-compare-end-2 : goal.slice_bounds-compare-end-2
slice_bounds-compare-end-2 c = sym (front_whole _ _ c.check_verdict.ensures c.in_default.is)

pub compare-requires : goal.compare-requires
compare-requires c =
    let front = front_whole _ _ c.check_verdict.ensures c.in_default.is in
    comparable _ _ c.check_verdict.ensures c.in_default.is _ _ front front

pub returns : goal.returns
returns c = record { answer = c.compare.ensures.judges; sound = judges_sound _ _ _ c.compare.ensures.judges }
