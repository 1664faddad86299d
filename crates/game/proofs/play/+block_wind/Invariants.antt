-- `game::play::block` and `game::play::wind`, which call each other. The measure of each is the number of free edges, which falls at each
-- call. The invariant of each loop: no edge below e keeps the win. Assumes nothing.
use Rattle.board.proofs.Searching.{Passed}
use Rattle.game.proofs.PlayLaws.{wind_keeps, block_keeps}
use Rattle.game.proofs.play.+block_wind.Given as goal

abbrev pub decreases-block : goal.decreases-block
decreases-block l = l.masks.left

abbrev pub decreases-wind : goal.decreases-wind
decreases-wind l = l.masks.left

abbrev pub invariant-block-loop-e : goal.invariant-block-loop-e
invariant-block-loop-e l = Passed (block_keeps l.loops l.edges l.hers l.free l.left) l.e

abbrev pub invariant-wind-loop-e : goal.invariant-wind-loop-e
invariant-wind-loop-e l = Passed (wind_keeps l.loops l.edges l.held l.free l.left) l.e
