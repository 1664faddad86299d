-- `run` meets its contract: each turn makes one growth or round, and while a cluster is odd there are some left. Assumes nothing.
use Prim.Native.Nat.{◌*◌, ◌-◌}
use mathlib.Core.Path.{◌≡◌}
use lib.ListN.{length}
use Rattle.model.specs.Board.{edge_limit}
use Rattle.decoder.proofs.RunLaws.{Running}
use Rattle.decoder.proofs.growth.run.Given as goal

abbrev pub invariant-loop-growing : goal.invariant-loop-growing
invariant-loop-growing l = (length l.filled ≡ edge_limit) × Running l.growth l.fn.sheet.board.vertices l.fn.sheet.board.ends.now l.fn.sheet.board.opened.now l.fn.sheet.syndrome.now l.fn.sheet.loss.now l.support l.exposure l.ring l.book l.count

abbrev pub decreases-loop-growing : goal.decreases-loop-growing
decreases-loop-growing l = 2 * length l.fn.sheet.loss.now - l.count
