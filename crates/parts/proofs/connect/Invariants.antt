-- `parts::connect` meets its contract. The loop's invariant: the trees are the parts by the edges passed. Assumes nothing.
use Rattle.parts.specs.Connection.{ConnectsUpTo}
use Rattle.parts.proofs.connect.Given as goal

abbrev pub invariant-loop-e : goal.invariant-loop-e
invariant-loop-e l = ConnectsUpTo l.vertices l.ends l.e l.tree
