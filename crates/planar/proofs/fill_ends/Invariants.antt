-- `planar::fill_ends` meets its contract. The loop's invariant: the first 2e ends are the planar board's. Assumes nothing.
use Rattle.std.proofs.Common.{◌*◌}
use Rattle.model.specs.Planar.{planar_end}
use Rattle.torus.specs.Filling.{Filled}
use Rattle.planar.proofs.fill_ends.Given as goal

abbrev pub invariant-loop-e : goal.invariant-loop-e
invariant-loop-e l = Filled (planar_end l.side) (2 * l.e) l.ends
