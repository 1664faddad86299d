-- `torus::fill_marks` meets its contract. The loop's invariant: the first 2v marks are the torus's. Assumes nothing.
use Rattle.std.proofs.Common.{◌*◌}
use Rattle.model.specs.Torus.{torus_mark}
use Rattle.torus.specs.Filling.{Filled}
use Rattle.torus.proofs.fill_marks.Given as goal

abbrev pub invariant-loop-v : goal.invariant-loop-v
invariant-loop-v l = Filled (torus_mark l.side) (2 * l.v) l.marks
