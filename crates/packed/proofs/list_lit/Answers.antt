-- `packed::list_lit` meets its contract: the refusal of the first test that fails, or the list of lit vertices with its total. Assumes
-- nothing.
use mathlib.Core.Path.{sym, ap, ◌∙◌}
use native.Mathlib.Omega.{arith}
use Rattle.std.proofs.lemmas.Result.{err_from_is_err_and}
use Rattle.board.specs.Checks.{test_of}
use Rattle.board.proofs.Failures.{passed}
use Rattle.packed.proofs.WordTests.{lit_passes}
use Rattle.packed.proofs.LitOutcome.{list_refused, list_room, list_filled}
use Rattle.packed.proofs.list_lit.Goals as goal

pub returns-in_err-check_lit : goal.returns-in_err-check_lit
returns-in_err-check_lit c =
    let p = err_from_is_err_and c.from_residual.result c.from_residual.ensures.1 in
    let a = c.args in
    let all = list_refused a.vertices a.lit.now a.list.now _ (sym c.check_lit.ensures ∙ ap test_of c.in_err-check_lit.was) in
    rw (p.1, p.2) (record { outcome = all.0; sound = all.1 })

pub list_bits-requires : goal.list_bits-requires
list_bits-requires c =
    let a = c.args in
    let none = passed _ _ c.check_lit.ensures c.in_ok-check_lit.was in
    let lit = lit_passes a.vertices a.lit.now _ none in
    (omega (arith, lit.within.count, lit.counted.vertices_limited), list_room a.vertices a.lit.now a.list.now none)

pub returns : goal.returns
returns c = let a = c.args in let all = list_filled a.vertices a.lit.now a.list.now _ _ (passed _ _ c.check_lit.ensures c.in_ok-check_lit.was) c.list_bits.ensures in record { outcome = all.0; sound = all.1 }
