use mathlib.Core.Path.{sym, ◌∙◌}
use native.Mathlib.Omega.{arith}
use Rattle.game.proofs.PlayLaws.{held_inside, wind_won, block_won, wind_out, block_out}
use Rattle.game.proofs.PlayLaws.{wind_takes, wind_waits, block_takes, block_waits, wind_next, block_next}
use Rattle.game.proofs.PlayLaws.{wind_judged, block_judged}
use Rattle.game.proofs.play.+block_wind.Goals as goal

-- Blocker is to move

pub block-bounds-loops-hers : goal.block-bounds-loops-hers
block-bounds-loops-hers t c = held_inside _ _ _ _ c.requires

pub block-returns-then-loops-hers-eq1 : goal.block-returns-then-loops-hers-eq1
block-returns-then-loops-hers-eq1 t c = block_won _ _ _ _ c.args.masks.left c.if-loops-hers-eq1.true

pub block-returns-then-masks-eq0 : goal.block-returns-then-masks-eq0
block-returns-then-masks-eq0 t c = block_out _ _ _ _ c.args.masks.left c.if-masks-eq0.true c.if-loops-hers-eq1.false

pub block-wind-requires : goal.block-wind-requires
block-wind-requires t c =
    (omega (arith, c.decreases, c.if-masks-eq0.false), block_next _ _ _ _ c.requires _ c.loop-e-test.true (sym c.has.ensures ∙ c.if-has.true) _ c.alone-edge.ensures)

pub block-returns-then-can_force : goal.block-returns-then-can_force
block-returns-then-can_force t c =
    block_takes _ _ _ _ c.args.masks.left c.if-masks-eq0.false c.if-loops-hers-eq1.false
    c.loop-e.invariant
    c.loop-e-test.true
    (block_judged _ _ _ _ _ _ _ _ c.alone-edge.ensures (sym c.has.ensures ∙ c.if-has.true) c.wind.ensures ∙ sym c.can_force.ensures ∙ c.if-can_force.true)

pub block-returns : goal.block-returns
block-returns t c =
    block_waits _ _ _ _ c.args.masks.left c.if-masks-eq0.false c.if-loops-hers-eq1.false
    c.loop-e.invariant
    c.loop-e-test.false

-- Winder is to move

pub wind-bounds-loops-held : goal.wind-bounds-loops-held
wind-bounds-loops-held t c = held_inside _ _ _ _ c.requires

pub wind-returns-then-loops-held-eq1 : goal.wind-returns-then-loops-held-eq1
wind-returns-then-loops-held-eq1 t c = wind_won _ _ _ _ c.args.masks.left c.if-loops-held-eq1.true

pub wind-returns-then-masks-eq0 : goal.wind-returns-then-masks-eq0
wind-returns-then-masks-eq0 t c = wind_out _ _ _ _ c.args.masks.left c.if-masks-eq0.true c.if-loops-held-eq1.false

pub wind-block-requires : goal.wind-block-requires
wind-block-requires t c =
    (omega (arith, c.decreases, c.if-masks-eq0.false), wind_next _ _ _ _ c.requires _ c.loop-e-test.true (sym c.has.ensures ∙ c.if-has.true) _ c.alone-edge.ensures)

pub wind-returns-then-can_force : goal.wind-returns-then-can_force
wind-returns-then-can_force t c =
    wind_takes _ _ _ _ c.args.masks.left c.if-masks-eq0.false c.if-loops-held-eq1.false
    c.loop-e.invariant
    c.loop-e-test.true
    (wind_judged _ _ _ _ _ _ _ _ c.alone-edge.ensures (sym c.has.ensures ∙ c.if-has.true) c.block.ensures ∙ sym c.can_force.ensures ∙ c.if-can_force.true)

pub wind-returns : goal.wind-returns
wind-returns t c =
    wind_waits _ _ _ _ c.args.masks.left c.if-masks-eq0.false c.if-loops-held-eq1.false
    c.loop-e.invariant
    c.loop-e-test.false
