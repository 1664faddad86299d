-- `lose` meets its contract: each turn starts one edge. Assumes nothing.
use mathlib.Core.Bool.{cond}
use Rattle.model.specs.Sums.{ones}
use Rattle.decoder.proofs.Lifting.{Filled}
use Rattle.decoder.proofs.support.lose.Given as goal

abbrev pub invariant-loop-e : goal.invariant-loop-e
invariant-loop-e l = Filled (λ e. cond (ones l.loss e) 2 0) l.initial.support l.e l.support
