-- `report::report` meets its contract: the reader's refusal, or the report of the sheet in front in the buffers, which is valid and has
-- the counts that came back. Assumes nothing.
use mathlib.Core.Path.{sym}
use native.Mathlib.Omega.{arith}
use lib.Seq.{length-take-le}
use borrow.Author.Rules.{rules}
use Rattle.text.proofs.HoldLaws.{zeros_sized}
use Rattle.report.proofs.Readings.{refused_reads, counts_read}
use Rattle.report.proofs.report.Goals as goal

pub slice_bounds-opened-end : goal.slice_bounds-opened-end
slice_bounds-opened-end c = omega (arith, (counts_read c.in-Ok.ensures).few_vertices)

pub slice_bounds-board-end-in-Ok-2 : goal.slice_bounds-board-end-in-Ok-2
slice_bounds-board-end-in-Ok-2 c = sym (length-take-le _ _ (omega (arith, (counts_read c.in-Ok.ensures).few_vertices)))

pub slice_bounds-syndrome-end : goal.slice_bounds-syndrome-end
slice_bounds-syndrome-end c = omega (arith, (counts_read c.in-Ok.ensures).few_vertices)

pub slice_bounds-sheet-end : goal.slice_bounds-sheet-end
slice_bounds-sheet-end c = sym (length-take-le _ _ (omega (arith, (counts_read c.in-Ok.ensures).few_vertices)))

pub put_sheet-requires : goal.put_sheet-requires
put_sheet-requires c = ((counts_read c.in-Ok.ensures).valid, record { long = search rules })

pub returns-in-Err : goal.returns-in-Err
returns-in-Err c = rw (sym (refused_reads zeros_sized c.in-Err.ensures)) c.put_refusal.ensures

pub returns-in-Ok : goal.returns-in-Ok
returns-in-Ok c = rw (sym (counts_read c.in-Ok.ensures).report_is) c.put_sheet.ensures
