-- `packed::decoding::unpack_and_decode` meets its contract: what is decoded is the sheet that the words hold. Assumes nothing.
use Rattle.model.specs.Lent.{board_lent}
use Rattle.packed.proofs.PackedDecoding.{decoded_unpacked}
use Rattle.packed.proofs.decoding.unpack_and_decode.Goals as goal

pub returns : goal.returns
returns c =
    let a = c.args in
    decoded_unpacked (board_lent a.sheet.now.board) a.sheet.now.lit.now a.sheet.now.lost.now a.support.now a.correction.now
    c.requires c.unpack_in_zeros.ensures c.unpack_in_zeros-2.ensures c.decode.ensures.key
