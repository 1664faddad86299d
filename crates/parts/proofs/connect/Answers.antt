use mathlib.Core.Path.{◌≡◌}
use native.Mathlib.Omega.{arith}
use Rattle.model.specs.Refusals.{edges_of}
use Rattle.parts.proofs.Connecting.{connects_none, connects_more, connects_whole}
use Rattle.parts.proofs.connect.Goals as goal

pub loop-e-init : goal.loop-e-init
loop-e-init c = connects_none c.alone.ensures

pub loop-e-preserved : goal.loop-e-preserved
loop-e-preserved c = connects_more c.requires c.loop-e-test.true c.loop-e.invariant
    c.first_end-a.ensures c.second_end-b.ensures c.join.ensures

pub returns : goal.returns
returns c =
    let l = c.loop-e in
    let done : l.e ≡ edges_of c.args.ends.now = omega arith in
    connects_whole (rw done at l.invariant)
