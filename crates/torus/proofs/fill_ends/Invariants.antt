-- `torus::fill_ends` meets its contract. The loop's invariant: the first 4v ends are the torus's. Assumes nothing.
use Rattle.std.proofs.Common.{◌*◌}
use Rattle.model.specs.Torus.{torus_end}
use Rattle.torus.specs.Filling.{Filled}
use Rattle.torus.proofs.fill_ends.Given as goal

abbrev pub invariant-loop-v : goal.invariant-loop-v
invariant-loop-v l = Filled (torus_end l.side) (4 * l.v) l.ends
