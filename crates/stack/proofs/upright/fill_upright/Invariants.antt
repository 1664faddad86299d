-- `stack::upright::fill_upright` meets its contract. The loop's invariant: the ends of the edges in the layers, and of the first u edges
-- between layers, are the stack's. Assumes nothing.
use Rattle.std.proofs.Common.{◌+◌, ◌*◌}
use Rattle.model.specs.Stack.{stack_vertices, stack_end}
use Rattle.torus.specs.Filling.{Filled}
use Rattle.stack.proofs.upright.fill_upright.Given as goal

abbrev pub invariant-loop-u : goal.invariant-loop-u
invariant-loop-u l = Filled (stack_end l.side l.rounds) (2 * (2 * stack_vertices l.side l.rounds + l.u)) l.ends
