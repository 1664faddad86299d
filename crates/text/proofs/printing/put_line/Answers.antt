-- `text::printing::put_line` meets its contract: letter, field and newline, one after the other. Assumes nothing.
use Rattle.text.proofs.PutLaws.{then}
use Rattle.text.proofs.printing.put_line.Goals as goal

pub returns : goal.returns
returns c = then (then c.put_byte-field.ensures c.put_field-end.ensures) c.put_byte.ensures
