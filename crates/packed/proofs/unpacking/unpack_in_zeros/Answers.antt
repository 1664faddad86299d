use native.Mathlib.Omega.{arith}
use lib.ListN.{length}
use Rattle.packed.proofs.UnpackedWords.{items_more, items_all, word_passed, zeros_left}
use Rattle.packed.proofs.unpacking.unpack_in_zeros.Goals.{then-word-ne0, else-word-ne0}
use Rattle.packed.proofs.unpacking.unpack_in_zeros.Goals as goal

pub loop-w-preserved : goal.loop-w-preserved
loop-w-preserved c =
    elim c.if-word-ne0.branch [
      | then-word-ne0 w ↦ rw w.bytes-is (items_more c.loop-w.invariant w.unpack_word.ensures)
      | else-word-ne0 w ↦
          let zeros = zeros_left (length c.args.bytes.now) c.requires.bytes_value c.loop-w.invariant in
          rw w.bytes-is (items_more c.loop-w.invariant (word_passed (omega (arith, w.if-word-ne0.false)) zeros))
    ]

pub returns : goal.returns
returns c = items_all c.loop-w.invariant (omega (arith, c.loop-w-test.false)) c.requires.words_len
