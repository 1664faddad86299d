-- `prune` meets its contract: each turn looks at one vertex of the ring. Assumes nothing.
use lib.ListN.{length}
use Rattle.model.specs.Board.{vertex_limit}
use Rattle.decoder.specs.Rings.{way, Prunable}
use Rattle.decoder.proofs.Pruning.{Pruning}
use Rattle.decoder.proofs.rings.prune.Given as goal

abbrev pub invariant-loop-v : goal.invariant-loop-v
invariant-loop-v l = (w : Prunable l.exposure l.initial.ring l.name.0) → Pruning w l.ring l.kept l.v

abbrev pub decreases-loop-v : goal.decreases-loop-v
decreases-loop-v l = length (way vertex_limit l.ring l.v l.name.0)
