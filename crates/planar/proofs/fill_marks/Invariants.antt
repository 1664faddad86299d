-- `planar::fill_marks` meets its contract. The loop's invariant: the first e marks are the planar board's. Assumes nothing.
use Rattle.model.specs.Planar.{planar_mark}
use Rattle.torus.specs.Filling.{Filled}
use Rattle.planar.proofs.fill_marks.Given as goal

abbrev pub invariant-loop-e : goal.invariant-loop-e
invariant-loop-e l = Filled (planar_mark l.side) l.e l.marks
