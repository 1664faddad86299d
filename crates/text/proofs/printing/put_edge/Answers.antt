-- `text::printing::put_edge` meets its contract: letter, three fields and newline, one after the other. Assumes nothing.
use Rattle.text.proofs.PutLaws.{then}
use Rattle.text.proofs.printing.put_edge.Goals as goal

pub returns : goal.returns
returns c =
    let ends = then (then c.put_byte-first_at.ensures c.put_field-second_at.ensures) c.put_field-mark_at.ensures in
    then (then ends c.put_field-end.ensures) c.put_byte.ensures
