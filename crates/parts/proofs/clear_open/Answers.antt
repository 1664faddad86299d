use Rattle.parts.proofs.Rooting.{root_limited}
use Rattle.parts.proofs.Clearing.{cleared_none, cleared_one, cleared_pass}
use Rattle.parts.proofs.clear_open.Goals.{else-open-eq1, then-open-eq1}
use Rattle.parts.proofs.clear_open.Goals as goal

pub loop-v-init : goal.loop-v-init
loop-v-init c = cleared_none c.requires.long

pub bounds-odd-root : goal.bounds-odd-root
bounds-odd-root c = root_limited c.requires.rooted c.loop-v-test.true c.root_of-root.ensures

pub loop-v-preserved : goal.loop-v-preserved
loop-v-preserved c =
    let before = c.loop-v.invariant in
    elim c.if-open-eq1.branch [
      | then-open-eq1 w ↦
          rw w.odd-is
          (cleared_one before w.if-open-eq1.true w.root_of-root.ensures (root_limited c.requires.rooted c.loop-v-test.true w.root_of-root.ensures))
      | else-open-eq1 w ↦ rw w.odd-is (cleared_pass before w.if-open-eq1.false)
    ]
