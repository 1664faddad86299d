-- `text::writing::write` meets its contract: the tests in their order, then the text copied. Assumes nothing.
use mathlib.Core.Path.{sym, ap, ◌∙◌}
use native.Mathlib.Nat.{zero-add}
use Rattle.std.proofs.lemmas.Result.{err_from_is_err_and}
use Rattle.board.specs.Checks.{test_of}
use Rattle.text.proofs.PrintLaws.{text_short}
use Rattle.text.proofs.WriteOutcome.{sheet_refused, valid, too_long, no_room, all_written, in_front}
use Rattle.text.proofs.writing.write.Goals as goal

pub returns-in_err-check_sheet : goal.returns-in_err-check_sheet
returns-in_err-check_sheet c =
    let p = err_from_is_err_and c.from_residual.result c.from_residual.ensures.1 in
    rw (p.1, p.2) (sheet_refused _ _ _ (sym c.check_sheet.ensures ∙ ap test_of c.in_err-check_sheet.was))

pub put_sheet-length-requires : goal.put_sheet-length-requires
put_sheet-length-requires c =
    let v = valid _ c.args.text.now (sym c.check_sheet.ensures ∙ ap test_of c.in_ok-check_sheet.was) in
    record { ends_len = (v.board.inside.two_ends, v.board.inside.edges_limited); loss_in_bounds = text_short _ v }

pub returns-then-length-gt-TEXT : goal.returns-then-length-gt-TEXT
returns-then-length-gt-TEXT c =
    too_long _ _ (sym c.check_sheet.ensures ∙ ap test_of c.in_ok-check_sheet.was) _ (c.put_sheet-length.ensures.position ∙ zero-add _) c.if-length-gt-TEXT.true

pub returns-then-text-length : goal.returns-then-text-length
returns-then-text-length c =
    no_room _ _ (sym c.check_sheet.ensures ∙ ap test_of c.in_ok-check_sheet.was) _ (c.put_sheet-length.ensures.position ∙ zero-add _)
    c.if-length-gt-TEXT.false
    c.if-text-length.true

pub returns : goal.returns
returns c =
    let passes = sym c.check_sheet.ensures ∙ ap test_of c.in_ok-check_sheet.was in
    let done = c.put_sheet-length.ensures in
    all_written _ _ passes _ (done.position ∙ zero-add _) c.if-length-gt-TEXT.false c.if-text-length.false _ _
    (in_front _ _ _ _ done (text_short _ (valid _ c.args.text.now passes)))
    c.copy_front.ensures
