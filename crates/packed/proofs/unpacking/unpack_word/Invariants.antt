-- `packed::unpacking::unpack_word` meets its contract. The loop's invariant: the first k bits stand in their bytes. Assumes nothing.
use Rattle.packed.specs.Unpacking.{BitsUnpacked}
use Rattle.packed.proofs.unpacking.unpack_word.Given as goal

abbrev pub invariant-loop-k : goal.invariant-loop-k
invariant-loop-k l = BitsUnpacked l.word l.w l.k l.initial.bytes l.bytes
