-- `text::writing::put_sheet` meets its contract: the five kinds of line, one after the other. Assumes nothing.
use Rattle.text.proofs.PutLaws.{then}
use Rattle.text.proofs.writing.put_sheet.Goals as goal

pub returns : goal.returns
returns c = then
    (then (then (then c.put_line-edges_at.ensures c.put_edges-opened_at.ensures) c.put_listed-syndrome_at.ensures) c.put_listed-loss_at.ensures)
    c.put_listed.ensures
