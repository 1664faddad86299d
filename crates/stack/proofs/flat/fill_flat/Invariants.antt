-- `stack::flat::fill_flat` meets its contract. The loop's invariant: the first 2e ends are the stack's. Assumes nothing.
use Rattle.std.proofs.Common.{◌*◌}
use Rattle.model.specs.Stack.{stack_end}
use Rattle.torus.specs.Filling.{Filled}
use Rattle.stack.proofs.flat.fill_flat.Given as goal

abbrev pub invariant-loop-e : goal.invariant-loop-e
invariant-loop-e l = Filled (stack_end l.side l.rounds) (2 * l.e) l.ends
