-- `distance::search::shortest` meets its contract: each turn does one start more. Assumes nothing.
use Rattle.distance.specs.States.{padded}
use Rattle.distance.specs.Found.{Searched}
use Rattle.distance.proofs.search.shortest.Given as goal

abbrev pub invariant-loop-start : goal.invariant-loop-start
invariant-loop-start l = Searched (padded l.ends l.marks) l.start l.best l.found
