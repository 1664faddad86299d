-- `choose` meets its contract: each turn sets the smallest figure of one block against the best so far. Assumes nothing.
use Prim.Native.Nat.{◌-◌}
use Rattle.decoder.proofs.Choosing.{BestYet}
use Rattle.decoder.proofs.choice.choose.Given as goal

abbrev pub invariant-loop-from : goal.invariant-loop-from
invariant-loop-from l = BestYet l.figure l.from l.least l.block

abbrev pub decreases-loop-from : goal.decreases-loop-from
decreases-loop-from l = l.vertices - l.from
