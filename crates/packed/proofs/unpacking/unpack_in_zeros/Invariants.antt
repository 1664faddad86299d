-- `packed::unpacking::unpack_in_zeros` meets its contract. The loop's invariant: the items of the first w words are unpacked. Assumes
-- nothing.
use Rattle.packed.specs.Unpacking.{ItemsUnpacked}
use Rattle.packed.proofs.unpacking.unpack_in_zeros.Given as goal

abbrev pub invariant-loop-w : goal.invariant-loop-w
invariant-loop-w l = ItemsUnpacked l.words l.w l.initial.bytes l.bytes
