-- `packed::lit_total` meets its contract: the refusal of the first test that fails, or the number of set bits. Assumes nothing.
use mathlib.Core.Path.{sym, ap, ◌∙◌}
use native.Mathlib.Omega.{arith}
use Rattle.std.proofs.lemmas.Result.{err_from_is_err_and}
use Rattle.board.specs.Checks.{test_of}
use Rattle.board.proofs.Failures.{passed}
use Rattle.packed.proofs.WordTests.{lit_passes}
use Rattle.packed.proofs.LitOutcome.{total_refused, total_counted}
use Rattle.packed.proofs.lit_total.Goals as goal

pub returns-in_err-check_lit : goal.returns-in_err-check_lit
returns-in_err-check_lit c =
    let p = err_from_is_err_and c.from_residual.result c.from_residual.ensures.1 in
    let a = c.args in
    let all = total_refused a.vertices a.lit.now _ (sym c.check_lit.ensures ∙ ap test_of c.in_err-check_lit.was) in
    rw (p.1, p.2) (record { outcome = all.0; sound = all.1 })

pub set_bits-requires : goal.set_bits-requires
set_bits-requires c =
    let lit = lit_passes _ _ _ (passed _ _ c.check_lit.ensures c.in_ok-check_lit.was) in
    omega (arith, lit.within.count, lit.counted.vertices_limited)

pub returns : goal.returns
returns c = let a = c.args in let all = total_counted a.vertices a.lit.now _ (passed _ _ c.check_lit.ensures c.in_ok-check_lit.was) c.set_bits.ensures in record { outcome = all.0; sound = all.1 }
