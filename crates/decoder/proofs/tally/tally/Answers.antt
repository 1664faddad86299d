use mathlib.Core.Path.{refl}
use native.Mathlib.Numerals.{add-one}
use native.Mathlib.Omega.{arith}
use Rattle.model.specs.Board.{vertex_limit}
use Rattle.decoder.proofs.Tallying.{tally_none, tally_bound, tally_member, tally_other}
use Rattle.decoder.proofs.tally.tally.Goals.{else-member-eq1, then-member-eq1}
use Rattle.decoder.proofs.tally.tally.Goals as goal

pub loop-v-init : goal.loop-v-init
loop-v-init c = tally_none _ _ vertex_limit refl

pub overflow_add-counts : goal.overflow_add-counts
overflow_add-counts c = omega (arith, tally_bound c.loop-v.invariant _ (c.requires.inside c.loop-v.v c.loop-v-test.true))

pub loop-v-preserved : goal.loop-v-preserved
loop-v-preserved c =
    let v = c.loop-v.v in
    rw add-one
    (elim c.if-member-eq1.branch [
      | then-member-eq1 w ↦ rw w.counts-is (tally_member v _ _ _ (c.requires.inside v c.loop-v-test.true) w.if-member-eq1.true c.loop-v.invariant)
      | else-member-eq1 w ↦ rw w.counts-is (tally_other v _ _ _ w.if-member-eq1.false c.loop-v.invariant)
    ])
