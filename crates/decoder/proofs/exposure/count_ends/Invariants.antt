-- `count_ends` meets its contract: each turn counts the ends of one edge that isn't full. Assumes nothing.
use Rattle.model.specs.Growth.{full}
use Rattle.decoder.specs.Exposures.{Exposures}
use Rattle.decoder.proofs.exposure.count_ends.Given as goal

abbrev pub invariant-loop-e : goal.invariant-loop-e
invariant-loop-e l = Exposures l.e l.ends (full l.support) l.exposure
