-- `packed::decode_packed` meets its contract: the refusal of a look at the words, or what decoding answers on the sheet that they hold;
-- `sound` follows from the outcome. Assumes nothing.
use mathlib.Core.Path.{ap}
use Rattle.std.proofs.lemmas.Result.{err_from_is_err_and}
use Rattle.model.specs.Lent.{board_lent}
use Rattle.board.specs.Checks.{test_of}
use Rattle.packed.proofs.PackedDecoding.{packed_refused, packed_decoded}
use Rattle.packed.proofs.decode_packed.Goals as goal

pub returns-in_err-screen : goal.returns-in_err-screen
returns-in_err-screen c =
    let a = c.args in
    let p = err_from_is_err_and c.from_residual.result c.from_residual.ensures.1 in
    let all = packed_refused (board_lent a.sheet.board) a.sheet.lit.now a.sheet.lost.now a.support.now a.correction.now _
    (c.screen.ensures.refused _ (ap test_of c.in_err-screen.was)) in
    rw (p.1, p.2) (record { key = all.0; sound = all.1 })

pub returns : goal.returns
returns c =
    let a = c.args in
    let all = packed_decoded (board_lent a.sheet.board) a.sheet.lit.now a.sheet.lost.now a.support.now a.correction.now _ _ _
    (c.screen.ensures.the_rest (ap test_of c.in_ok-screen.was)) c.decode_words.ensures in
    record { key = all.0; sound = all.1 }
