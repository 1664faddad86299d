-- `odd_ends` meets its contract: each turn marks one vertex. Assumes nothing.
use lib.ListN.{length}
use Rattle.decoder.proofs.EndMarking.{MarkedUpTo}
use Rattle.decoder.proofs.odd_ends.odd_ends.Given as goal

abbrev pub invariant-loop-v : goal.invariant-loop-v
invariant-loop-v l = MarkedUpTo (length l.syndrome) l.labels l.opened l.syndrome l.v l.ends l.counts
