-- `stack::syndrome::fill_syndrome` meets its contract. The loop's invariant: the first u bytes are the stack's syndrome. Assumes nothing.
use Rattle.std.proofs.Common.{◌/◌, ◌%◌}
use Rattle.model.specs.Sums.{bit}
use Rattle.model.specs.Stack.{layer_vertices, layer_syndrome}
use Rattle.torus.specs.Filling.{Filled}
use Rattle.stack.proofs.syndrome.fill_syndrome.Given as goal

abbrev pub invariant-loop-u : goal.invariant-loop-u
invariant-loop-u l = Filled (λ i. bit (layer_syndrome l.side l.readings (i / layer_vertices l.side) (i % layer_vertices l.side))) l.u l.syndrome
