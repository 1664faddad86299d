use Prim.Native.Nat.{◌*◌, ◌<◌}
use mathlib.Core.Path.{◌≡◌}
use native.Mathlib.Numerals.{add-one}
use native.Mathlib.Omega.{arith}
use lib.ListN.{length}
use Rattle.model.specs.Board.{edge_limit}
use Rattle.distance.proofs.GluedEnds.{sent_open, sent_shut, sent_all}
use Rattle.distance.proofs.glue.glue.Goals.{then-opened-v-eq1, else-opened-v-eq1}
use Rattle.distance.proofs.glue.glue.Goals as goal

pub loop-i-preserved : goal.loop-i-preserved
loop-i-preserved c =
    let sent = c.loop-i.invariant in
    let room : c.loop-i.i < 2 * edge_limit = omega (arith, c.requires.few) in
    rw add-one
    (elim c.if-opened-v-eq1.branch [
      | then-opened-v-eq1 w ↦ rw w.glued-is (sent_open _ _ sent room _ c.gate-to.ensures w.if-opened-v-eq1.true)
      | else-opened-v-eq1 w ↦ rw w.glued-is (sent_shut _ _ sent room w.if-opened-v-eq1.false)
    ])

pub returns : goal.returns
returns c =
    let done : c.loop-i.i ≡ length c.args.ends.now = omega arith in
    sent_all _ _ _ c.requires.few (rw done at c.loop-i.invariant)
