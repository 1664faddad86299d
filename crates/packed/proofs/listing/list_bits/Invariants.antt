-- `packed::listing::list_bits` meets its contract. The loop's invariant: the lit vertices of the first w words are stored. Assumes nothing.
use Rattle.packed.specs.Listing.{items_in}
use Rattle.packed.specs.Storing.{Stored}
use Rattle.packed.proofs.listing.list_bits.Given as goal

abbrev pub invariant-loop-w : goal.invariant-loop-w
invariant-loop-w l = Stored (items_in l.w l.words) l.initial.list 0 l.list l.listed
