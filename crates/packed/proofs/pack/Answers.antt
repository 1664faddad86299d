-- `packed::pack` meets its contract: the refusal of the first test that fails, or both sheets in words; `sound` follows from the outcome.
-- Assumes nothing.
use mathlib.Core.Path.{sym, ap, ◌∙◌}
use native.Mathlib.Omega.{arith}
use Rattle.std.proofs.lemmas.Result.{err_from_is_err_and}
use Rattle.board.specs.Checks.{test_of}
use Rattle.board.proofs.Failures.{passed}
use Rattle.packed.proofs.WordTests.{pack_passes}
use Rattle.packed.proofs.PackOutcome.{as_many, pack_refused, pack_written}
use Rattle.packed.proofs.pack.Goals as goal

pub returns-in_err-check_pack : goal.returns-in_err-check_pack
returns-in_err-check_pack c =
    let p = err_from_is_err_and c.from_residual.result c.from_residual.ensures.1 in
    let a = c.args in
    let all =
    pack_refused a.vertices a.edges a.syndrome.now a.loss.now a.lit.now a.lost.now _
    (sym c.check_pack.ensures ∙ ap test_of c.in_err-check_pack.was) in
    rw (p.1, p.2) (record { outcome = all.0; sound = all.1 })

pub pack_items-requires : goal.pack_items-requires
pack_items-requires c =
    let a = c.args in
    let v = pack_passes a.vertices a.edges a.syndrome.now a.loss.now a.lit.now a.lost.now (passed _ _ c.check_pack.ensures c.in_ok-check_pack.was) in
    (as_many _ _ v.syndrome_bytes, omega (arith, v.items.syndrome_long, v.items.syndrome_words))

pub pack_items-requires-2 : goal.pack_items-requires-2
pack_items-requires-2 c =
    let a = c.args in
    let v = pack_passes a.vertices a.edges a.syndrome.now a.loss.now a.lit.now a.lost.now (passed _ _ c.check_pack.ensures c.in_ok-check_pack.was) in
    (as_many _ _ v.loss_bytes, omega (arith, v.items.loss_long, v.items.loss_words))

pub returns : goal.returns
returns c =
    let a = c.args in
    let all =
    pack_written a.vertices a.edges a.syndrome.now a.loss.now a.lit.now a.lost.now _ _
    (passed _ _ c.check_pack.ensures c.in_ok-check_pack.was) c.pack_items.ensures c.pack_items-2.ensures in
    record { outcome = all.0; sound = all.1 }
