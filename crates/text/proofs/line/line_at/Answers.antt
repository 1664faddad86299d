-- `text::line::line_at` meets its contract: the line stands before its newline, and the next one begins after that, with the next
-- number. Assumes nothing.
use Prim.Native.Nat.{◌+◌}
use mathlib.Core.Path.{sym, ap, ◌∙◌}
use native.Mathlib.Omega.{arith}
use Rattle.text.specs.LineReadings.{as_read}
use Rattle.text.proofs.LineReadingLaws.{no_newline, newline_at}
use Rattle.text.proofs.NumberLaws.{newlines_bound, next_number}
use Rattle.text.proofs.line.line_at.Goals as goal

pub returns-then-text-end : goal.returns-then-text-end
returns-then-text-end c =
    let a = c.args in
    record { line_read = sym (no_newline a.text.now a.at a.number _ c.line_end-end.ensures c.if-text-end.true); next_numbered = tt }

pub returns-in_err-line : goal.returns-in_err-line
returns-in_err-line c =
    let end = c.line_end-end in
    let a = c.args in
    rw c.from_residual.ensures
    record {
      line_read =
          ap (λ x. as_read x (end.result + 1) (a.number + 1)) (sym c.in_err-line.was ∙ c.line_of.ensures)
          ∙ sym (newline_at a.text.now a.at a.number end.result end.ensures c.if-text-end.false);
      next_numbered = tt;
    }

pub overflow_add-result-2 : goal.overflow_add-result-2
overflow_add-result-2 c =
    let end = c.line_end-end in
    omega (arith, c.requires, newlines_bound c.args.text.now c.args.at, end.ensures, c.if-text-end.false)

pub returns : goal.returns
returns c =
    let end = c.line_end-end in
    let a = c.args in
    record {
      line_read =
          ap (λ x. as_read x (end.result + 1) (a.number + 1)) (sym c.in_ok-line.was ∙ c.line_of.ensures)
          ∙ sym (newline_at a.text.now a.at a.number end.result end.ensures c.if-text-end.false);
      next_numbered =
          ap (λ i. i + 1) c.requires ∙ sym (next_number a.text.now a.at end.result end.ensures c.if-text-end.false);
    }
