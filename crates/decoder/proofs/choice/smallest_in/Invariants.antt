-- `smallest_in` meets its contract: each turn takes one figure more into account. Assumes nothing.
use Rattle.decoder.proofs.Choosing.{SmallestYet}
use Rattle.decoder.proofs.choice.smallest_in.Given as goal

abbrev pub invariant-loop-i : goal.invariant-loop-i
invariant-loop-i l = SmallestYet l.figure l.from l.i l.least
