-- `planar::fill_open` meets its contract. The loop's invariant: the first v open bytes are the planar board's. Assumes nothing.
use Rattle.model.specs.Planar.{planar_open}
use Rattle.torus.specs.Filling.{Filled}
use Rattle.planar.proofs.fill_open.Given as goal

abbrev pub invariant-loop-v : goal.invariant-loop-v
invariant-loop-v l = Filled (planar_open l.side) l.v l.opened
