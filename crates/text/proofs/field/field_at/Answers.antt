use mathlib.Core.Path.{sym, ◌∙◌}
use Rattle.text.proofs.FieldReadingLaws.{too_large, goes_on}
use Rattle.text.proofs.field.field_at.Goals as goal

pub returns-then-value-gt-LARGEST : goal.returns-then-value-gt-LARGEST
returns-then-value-gt-LARGEST c =
    let w = c.loop-end in
    sym
    (w.invariant.left
    ∙ goes_on c.args.line.now w.end c.loop-end-test.true w.value c.in_ok-digit.digit (sym c.digit_of-in-loop-end.ensures ∙ c.in_ok-digit.was) c.if-value-eq0.false
    ∙ too_large _ _ _ c.if-value-gt-LARGEST.true)
