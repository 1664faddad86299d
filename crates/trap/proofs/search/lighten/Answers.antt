use mathlib.Core.Path.{refl, sym, ap, ◌∙◌}
use native.Mathlib.Omega.{arith}
use lib.ListN.{length}
use Rattle.model.specs.Sums.{count_up_to, ones}
use Rattle.model.specs.Lent.{board_lent}
use Rattle.board.specs.Checks.{number_found}
use Rattle.trap.proofs.SearchLaws.{none_below_start, none_below_next, shown_long, found_smallest, loop_smallest}
use Rattle.trap.proofs.search.lighten.Goals as goal

pub loop-size-init : goal.loop-size-init
loop-size-init c =
    let s = c.requires.0 in
    let lost = c.count-lost.ensures ∙ ap (λ m. count_up_to m (ones c.args.loss.now)) s.losses.count in
    (refl, none_below_start _ _ s.board.inside c.requires.1.distance lost c.least_size-size.ensures)

pub spread-requires : goal.spread-requires
spread-requires c =
    let long = shown_long (board_lent c.args.board) c.args.loss.now c.requires.1 in
    omega (arith, ap length c.loop-size.invariant.0, c.requires.0.few)

pub returns-in-Some : goal.returns-in-Some
returns-in-Some c =
    found_smallest _ _ c.requires.1 c.loop-size.invariant.1
    (sym (ap number_found c.in-Some.is) ∙ c.first_trap.ensures)
    c.loop-size.invariant.0 c.spread.ensures

pub loop-size-preserved : goal.loop-size-preserved
loop-size-preserved c =
    (c.loop-size.invariant.0, none_below_next _ _ (sym c.first_trap.ensures ∙ ap number_found c.in_default.is) c.loop-size.invariant.1)

pub returns : goal.returns
returns c =
    rw c.loop-size.invariant.0
    (loop_smallest _ _ c.requires.1 c.loop-size.invariant.1 (λ h. omega (arith, c.loop-size-test.false, h)))
