use native.Mathlib.Omega.{arith}
use Rattle.game.proofs.LoopBytes.{set_inside, filled_more}
use Rattle.game.proofs.loops.fill_loops.Goals as goal

pub bounds-loops-set : goal.bounds-loops-set
bounds-loops-set c = set_inside _ _ c.requires.0.few (omega (arith, c.loop-set-test.true, c.alone-set-end.ensures))

pub loop-set-preserved : goal.loop-set-preserved
loop-set-preserved c =
    filled_more c.looped.ensures (set_inside _ _ c.requires.0.few (omega (arith, c.loop-set-test.true, c.alone-set-end.ensures))) c.loop-set.invariant
