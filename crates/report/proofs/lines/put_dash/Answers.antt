-- `report::lines::put_dash` meets its contract: four bytes, one after the other. Assumes nothing.
use Rattle.text.proofs.PutLaws.{then}
use Rattle.report.proofs.ReportLineLaws.{dash_bytes}
use Rattle.report.proofs.lines.put_dash.Goals as goal

pub returns : goal.returns
returns c = rw dash_bytes
    (then
    (then (then c.put_byte-tab_at.ensures c.put_byte-dash_at.ensures) c.put_byte-end.ensures)
    c.put_byte.ensures)
