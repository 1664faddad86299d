-- `stack::checks::check_layers` meets its contract: rounds out of range are none, or too many. Assumes nothing.
use Rattle.std.proofs.Common.{arith, rules}
use Rattle.std.proofs.lemmas.Bool.Decides.{nat_tests}
use Rattle.torus.specs.Sides.{SideWithin}
use Rattle.stack.proofs.LayerTests.{no_round, too_many_rounds}
use Rattle.stack.proofs.checks.check_layers.Goals as goal

pub returns-then-not-contains : goal.returns-then-not-contains
returns-then-not-contains c =
    let a = c.args in
    let side : SideWithin a.side = search rules in
    grind (arith, nat_tests, no_round a.side a.rounds side, too_many_rounds a.side a.rounds side)
