-- `packed::packing::pack_items` meets its contract. The loop's invariant: the first w words are stored. Assumes nothing.
use lib.ListN.{length}
use Rattle.model.specs.Sums.{ones, values}
use Rattle.model.specs.Words.{number_with, items_of}
use Rattle.packed.specs.Storing.{Stored}
use Rattle.packed.proofs.packing.pack_items.Given as goal

abbrev pub invariant-loop-w : goal.invariant-loop-w
invariant-loop-w l = Stored (values l.w (λ j. number_with 64 (items_of (length l.bytes) (ones l.bytes) j))) l.initial.words 0 l.words l.w
