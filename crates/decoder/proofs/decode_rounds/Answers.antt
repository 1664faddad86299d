-- `decode_rounds` meets both of its promises. Assumes nothing.
use Rattle.std.proofs.lemmas.Result.{err_from_is_err_and}
use Rattle.decoder.proofs.DecodeLaws.{decodes_in_rounds}
use Rattle.decoder.proofs.decode_rounds.Goals as goal

pub returns-in_err-solved : goal.returns-in_err-solved
returns-in_err-solved c =
    let p = err_from_is_err_and c.from_residual.result c.from_residual.ensures.1 in
    let all = decodes_in_rounds _ _ _ _ _ c.in_err-solved.was c.solve.ensures in
    rw (p.1, p.2) (record { key = all.0; sound = all.1 })

pub returns : goal.returns
returns c = let all = decodes_in_rounds _ _ _ _ _ c.in_ok-solved.was c.solve.ensures in record { key = all.0; sound = all.1 }
