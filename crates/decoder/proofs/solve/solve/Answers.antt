-- `solve` meets its contract. Assumes nothing.
use mathlib.Core.Path.{sym, ap, ◌∙◌}
use Rattle.std.proofs.lemmas.Result.{err_from_is_err_and}
use Rattle.board.specs.Checks.{test_of}
use Rattle.decoder.proofs.SolveLaws.{refuses, keyable, solves}
use Rattle.decoder.proofs.solve.solve.Goals as goal

pub returns-in_err-check_decode : goal.returns-in_err-check_decode
returns-in_err-check_decode c =
    let p = err_from_is_err_and c.from_residual.result c.from_residual.ensures.1 in
    rw (p.1, p.2) (refuses _ _ _ _ _ _ _ _ _ _ (ap test_of (sym c.in_err-check_decode.was) ∙ c.check_decode.ensures))

pub key-requires : goal.key-requires
key-requires c = keyable _ _ _ _ _ _ _ _ (ap test_of (sym c.in_ok-check_decode.was) ∙ c.check_decode.ensures)

pub returns : goal.returns
returns c = solves _ _ _ _ _ _ _ _ (ap test_of (sym c.in_ok-check_decode.was) ∙ c.check_decode.ensures) c.args.growth _ _ _ c.key.ensures
