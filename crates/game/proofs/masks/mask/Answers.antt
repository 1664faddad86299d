use Prim.Native.Nat.{◌-◌}
use mathlib.Core.Path.{◌∙◌}
use native.Mathlib.Omega.{arith}
use lib.Dec.{eqb}
use lib.ListN.{get_or}
use Rattle.model.proofs.Bits.{bit_bound}
use Rattle.theory.proofs.PackedBits.{packed_none, packed_more, packed_room}
use Rattle.board.proofs.MaskBytes.{cast_bit}
use Rattle.game.proofs.masks.mask.Goals as goal

pub loop-k-init : goal.loop-k-init
loop-k-init c = packed_none _ _

pub overflow_mul-number : goal.overflow_mul-number
overflow_mul-number c = record { fits = omega (arith, packed_room c.loop-k-test.true (omega (arith, c.requires)) c.loop-k.invariant) }

pub overflow_add-number : goal.overflow_add-number
overflow_add-number c =
    let b = eqb (get_or c.args.position.now (c.loop-k.k - 1) 0) c.args.value in
    record {
      fits = omega (arith, packed_room c.loop-k-test.true (omega (arith, c.requires)) c.loop-k.invariant, c.from.ensures, cast_bit b, bit_bound b);
    }

pub loop-k-preserved : goal.loop-k-preserved
loop-k-preserved c =
    let b = eqb (get_or c.args.position.now (c.loop-k.k - 1) 0) c.args.value in
    packed_more c.loop-k-test.true (c.from.ensures ∙ cast_bit b) c.loop-k.invariant
