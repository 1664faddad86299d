-- `game::checks::check_position` meets its contract: the test 21, then the test 22 by two counts. Assumes nothing.
use native.Mathlib.Omega.{arith}
use lib.ListN.{length}
use Rattle.model.specs.declared.answers.Player.TheVariants.{Blocker}
use Rattle.model.specs.Game.{held_by}
use Rattle.model.proofs.SumLaws.{count_bound}
use Rattle.game.proofs.checks.check_position.Goals as goal

pub overflow_add-by_turns : goal.overflow_add-by_turns
overflow_add-by_turns c =
    let position = c.args.position.now in
    record { fits = omega (arith, c.count-blockers.ensures, count_bound (length position) (held_by Blocker position)) }
