-- `lone_figures` meets its contract: each turn writes one figure. Assumes nothing.
use Rattle.decoder.specs.LoneFigures.{LoneFigures}
use Rattle.decoder.proofs.figure.lone_figures.Given as goal

abbrev pub invariant-loop-v : goal.invariant-loop-v
invariant-loop-v l = LoneFigures l.v l.sheet.board.opened.now l.sheet.syndrome.now l.exposure l.figure
