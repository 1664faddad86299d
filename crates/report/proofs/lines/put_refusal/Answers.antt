-- `report::lines::put_refusal` meets its contract: letter, two fields and newline, one after the other. A number has at most three digits
-- and a place at most twenty. Assumes nothing.
use mathlib.Core.Path.{sym}
use native.Mathlib.Omega.{arith}
use Rattle.text.proofs.PutLaws.{then}
use Rattle.report.proofs.ReportLineLaws.{refusal_bytes, refusal_short, fronts}
use Rattle.report.proofs.lines.put_refusal.Goals as goal

pub returns : goal.returns
returns c =
    let n = c.number-number in
    let p = c.place-place in
    let short = refusal_short c.args.refusal (omega (arith, n.type_inv, n.ensures)) (omega (arith, p.type_inv, p.ensures)) in
    fronts
    (rw (refusal_bytes c.args.refusal, sym n.ensures, sym p.ensures)
    (then
    (then (then c.put_byte-number_at.ensures c.put_field-place_at.ensures) c.put_field-end.ensures)
    c.put_byte.ensures))
    (omega (arith, short, c.requires))
