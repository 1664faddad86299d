use native.Mathlib.Omega.{arith}
use Rattle.packed.proofs.UnpackedWords.{bits_more, word_unpacked}
use Rattle.packed.proofs.unpacking.unpack_word.Goals as goal

pub loop-k-preserved : goal.loop-k-preserved
loop-k-preserved c = bits_more (omega (arith, c.items_in-k-end.ensures.within)) c.loop-k.invariant

pub returns : goal.returns
returns c = word_unpacked c.items_in-k-end.ensures (omega (arith, c.loop-k-test.false)) c.loop-k.invariant
