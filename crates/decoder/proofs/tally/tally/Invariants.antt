-- `tally` meets its contract: each turn counts one vertex. Assumes nothing.
use Rattle.decoder.specs.Tallies.{Tallies}
use Rattle.decoder.proofs.tally.tally.Given as goal

abbrev pub invariant-loop-v : goal.invariant-loop-v
invariant-loop-v l = Tallies l.v l.labels l.members l.counts
