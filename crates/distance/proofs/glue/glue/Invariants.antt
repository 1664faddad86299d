-- `distance::glue::glue` meets its contract: each turn sends one end. Assumes nothing.
use Rattle.distance.proofs.GluedEnds.{SentUpTo}
use Rattle.distance.proofs.glue.glue.Given as goal

abbrev pub invariant-loop-i : goal.invariant-loop-i
invariant-loop-i l = SentUpTo l.ends l.opened l.i l.glued
