use Prim.Native.Nat.{◌+◌, ◌-◌, ◌*◌, ◌<◌}
use native.Mathlib.Omega.{arith}
use lib.ListN.{length}
use Rattle.model.specs.Sums.{ones}
use Rattle.theory.proofs.PackedBits.{packed_none, packed_more, packed_room}
use Rattle.packed.proofs.PackedWords.{packed_all, item_byte}
use Rattle.packed.proofs.packing.packed_word.Goals as goal

pub loop-k-init : goal.loop-k-init
loop-k-init c = packed_none _ _

pub overflow_mul-word : goal.overflow_mul-word
overflow_mul-word c = record { fits = omega (arith, packed_room c.loop-k-test.true c.items_in-k.ensures.few c.loop-k.invariant) }

pub overflow_add-word-in-loop-k : goal.overflow_add-word-in-loop-k
overflow_add-word-in-loop-k c =
    let inside : 64 * c.args.w + (c.loop-k.k - 1) < length c.args.bytes.now = omega (arith, c.items_in-k.ensures.within) in
    record { fits = omega (arith, packed_room c.loop-k-test.true c.items_in-k.ensures.few c.loop-k.invariant, c.requires.0.each _ inside) }

pub loop-k-preserved : goal.loop-k-preserved
loop-k-preserved c =
    let inside : 64 * c.args.w + (c.loop-k.k - 1) < length c.args.bytes.now = omega (arith, c.items_in-k.ensures.within) in
    packed_more c.loop-k-test.true (item_byte _ _ c.args.w _ c.requires.0 inside) c.loop-k.invariant

pub returns : goal.returns
returns c = packed_all _ (ones c.args.bytes.now) c.args.w c.items_in-k.ensures (omega (arith, c.loop-k-test.false)) c.loop-k.invariant
