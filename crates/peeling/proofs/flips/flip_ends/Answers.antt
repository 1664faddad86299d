use borrow.Author.Tests.{eq-eqb, ne_eqb}
use Rattle.peeling.proofs.FlipLaws.{all_flippable, still_flippable, none_flipped, flipped_next, flipped_passed}
use Rattle.peeling.proofs.flips.flip_ends.Goals.{else-byte-eq1, then-byte-eq1}
use Rattle.peeling.proofs.flips.flip_ends.Goals as goal

pub loop-v-init : goal.loop-v-init
loop-v-init c = (c.requires, none_flipped _ _ _)

pub flip-requires : goal.flip-requires
flip-requires c = all_flippable c.loop-v.invariant.0 _ c.loop-v-test.true

pub loop-v-preserved : goal.loop-v-preserved
loop-v-preserved c =
    let i = c.loop-v.invariant in
    elim c.if-byte-eq1.branch [
      | then-byte-eq1 w ↦
          rw w.odd-is
          (still_flippable i.0 w.flip.ensures.same_length, flipped_next i.1 (eq-eqb _ _ w.if-byte-eq1.true) w.flip.ensures)
      | else-byte-eq1 w ↦ rw w.odd-is (i.0, flipped_passed i.1 (ne_eqb _ _ w.if-byte-eq1.false))
    ]
