use Prim.Native.Nat.{◌-◌}
use native.Mathlib.Omega.{arith}
use lib.ListN.{length, drop, length-drop, length-take}
use Rattle.model.specs.Sums.{members}
use Rattle.packed.proofs.LitLaws.{next_items, next_room}
use Rattle.packed.proofs.StoringLaws.{stored_none, stored_append, stored_rest}
use Rattle.packed.proofs.listing.list_bits.Goals as goal

pub loop-w-init : goal.loop-w-init
unfolding members
loop-w-init c = stored_none _ 0

pub offset_bounds-list-listed : goal.offset_bounds-list-listed
offset_bounds-list-listed c = omega (arith, next_room c.args.words.now c.loop-w.w c.loop-w-test.true c.requires.1 c.loop-w.invariant)

pub slice_bounds-list_word-count : goal.slice_bounds-list_word-count
slice_bounds-list_word-count c = omega (arith, next_room c.args.words.now c.loop-w.w c.loop-w-test.true c.requires.1 c.loop-w.invariant)

pub slice_bounds-list_word-start : goal.slice_bounds-list_word-start
slice_bounds-list_word-start c = omega (arith, next_room c.args.words.now c.loop-w.w c.loop-w-test.true c.requires.1 c.loop-w.invariant)

pub list_word-listed-requires : goal.list_word-listed-requires
list_word-listed-requires c =
    let at = c.loop-w in
    let left = length at.list - at.listed in (
      omega (arith, c.requires.0),
      omega (
        arith,
        next_room c.args.words.now at.w c.loop-w-test.true c.requires.1 at.invariant,
        length-drop at.listed at.list,
        length-take left (drop at.listed at.list),
      ),
    )

pub overflow_add-listed : goal.overflow_add-listed
overflow_add-listed c =
    let room = next_room c.args.words.now c.loop-w.w c.loop-w-test.true c.requires.1 c.loop-w.invariant in
    record { fits = omega (arith, room, c.list_word-listed.ensures.ended) }

pub loop-w-preserved : goal.loop-w-preserved
loop-w-preserved c =
    let at = c.loop-w in
    let room = next_room c.args.words.now at.w c.loop-w-test.true c.requires.1 at.invariant in
    rw (next_items c.args.words.now at.w) (stored_append at.invariant (stored_rest room c.list_word-listed.ensures))
