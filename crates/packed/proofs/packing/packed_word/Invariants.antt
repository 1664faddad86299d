-- `packed::packing::packed_word` meets its contract. The loop's invariant: `word` has the bits from place k on. Assumes nothing.
use lib.ListN.{length}
use Rattle.model.specs.Sums.{ones}
use Rattle.model.specs.Words.{items_of}
use Rattle.theory.proofs.PackedBits.{PackedFrom}
use Rattle.packed.proofs.packing.packed_word.Given as goal

abbrev pub invariant-loop-k : goal.invariant-loop-k
invariant-loop-k l = PackedFrom (items_of (length l.bytes) (ones l.bytes) l.w) l.initial.k l.k l.word
