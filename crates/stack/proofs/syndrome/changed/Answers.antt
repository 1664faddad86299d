-- `stack::syndrome::changed` meets its contract: above layer 0, the exclusive or of two readings. Assumes nothing.
use lib.ListN.{length}
use Rattle.stack.proofs.Numbering.{some_cell}
use Rattle.stack.proofs.Changes.{later_layer_byte}
use Rattle.stack.proofs.syndrome.changed.Goals as goal

pub returns : goal.returns
returns c =
    let a = c.args in
    later_layer_byte a.side (length a.readings.now) a.v.0 a.readings.now c.requires.1 c.requires.2
    (some_cell a.side c.requires.0) c.if-u-layer.false
