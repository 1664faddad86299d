-- `game::masks::mask` meets its contract. The loop's invariant: `number` has the bits from place k on. Assumes nothing.
use lib.Dec.{eqb}
use lib.ListN.{get_or}
use Rattle.theory.proofs.PackedBits.{PackedFrom}
use Rattle.game.proofs.masks.mask.Given as goal

abbrev pub invariant-loop-k : goal.invariant-loop-k
invariant-loop-k l = PackedFrom (λ e. eqb (get_or l.position e 0) l.value) l.initial.k l.k l.number
