-- `first_equal` meets its contract: no number before the one that is looked at has the figure. Assumes nothing.
use Prim.Native.Nat.{◌-◌}
use Rattle.model.specs.Board.{vertex_limit}
use Rattle.decoder.proofs.Choosing.{Searched}
use Rattle.decoder.proofs.choice.first_equal.Given as goal

abbrev pub invariant-loop-a : goal.invariant-loop-a
invariant-loop-a l = Searched l.figure l.from l.sought l.a

abbrev pub decreases-loop-a : goal.decreases-loop-a
decreases-loop-a l = vertex_limit - l.a
