-- `stack::marks::fill_marks` meets its contract. The loop's invariant: the first e marks are the stack's. Assumes nothing.
use Rattle.model.specs.Stack.{stack_mark}
use Rattle.torus.specs.Filling.{Filled}
use Rattle.stack.proofs.marks.fill_marks.Given as goal

abbrev pub invariant-loop-e : goal.invariant-loop-e
invariant-loop-e l = Filled (stack_mark l.side l.rounds) l.e l.marks
