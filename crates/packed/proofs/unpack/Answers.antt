-- `packed::unpack` meets its contract: the refusal of the first test that fails, or the bytes of both sheets; `sound` follows from the
-- outcome. Assumes nothing.
use mathlib.Core.Path.{sym, ap, ◌∙◌}
use native.Mathlib.Omega.{arith}
use Rattle.std.proofs.lemmas.Result.{err_from_is_err_and}
use Rattle.board.specs.Checks.{test_of}
use Rattle.board.proofs.Failures.{passed}
use Rattle.packed.proofs.WordTests.{unpack_passes}
use Rattle.packed.proofs.PackOutcome.{unpack_refused, unpack_written}
use Rattle.packed.proofs.unpack.Goals as goal

pub returns-in_err-check_unpack : goal.returns-in_err-check_unpack
returns-in_err-check_unpack c =
    let p = err_from_is_err_and c.from_residual.result c.from_residual.ensures.1 in
    let a = c.args in
    let all =
    unpack_refused a.vertices a.edges a.lit.now a.lost.now a.syndrome.now a.loss.now
    (λ w. (c.type_inv.lit w).fits) (λ w. (c.type_inv.lost w).fits) _
    (sym c.check_unpack.ensures ∙ ap test_of c.in_err-check_unpack.was) in
    rw (p.1, p.2) (record { outcome = all.0; sound = all.1 })

pub unpack_items-requires : goal.unpack_items-requires
unpack_items-requires c =
    let a = c.args in
    let v = unpack_passes a.vertices a.edges a.syndrome.now a.loss.now a.lit.now a.lost.now (passed _ _ c.check_unpack.ensures c.in_ok-check_unpack.was) in
    omega (arith, v.items.syndrome_long, v.items.syndrome_words)

pub unpack_items-requires-2 : goal.unpack_items-requires-2
unpack_items-requires-2 c =
    let a = c.args in
    let v = unpack_passes a.vertices a.edges a.syndrome.now a.loss.now a.lit.now a.lost.now (passed _ _ c.check_unpack.ensures c.in_ok-check_unpack.was) in
    omega (arith, v.items.loss_long, v.items.loss_words)

pub returns : goal.returns
returns c =
    let a = c.args in
    let all =
    unpack_written a.vertices a.edges a.lit.now a.lost.now a.syndrome.now a.loss.now
    (λ w. (c.type_inv.lit w).fits) (λ w. (c.type_inv.lost w).fits) _ _
    (passed _ _ c.check_unpack.ensures c.in_ok-check_unpack.was) c.unpack_items.ensures c.unpack_items-2.ensures in
    record { outcome = all.0; sound = all.1 }
