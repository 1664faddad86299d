use mathlib.Core.Path.{refl}
use Rattle.model.specs.Board.{vertex_limit}
use Rattle.parts.proofs.Rooting.{root_limited}
use Rattle.parts.proofs.Flipping.{parities_none, parities_flip, parities_pass}
use Rattle.parts.proofs.parities.Goals.{else-lit-eq1, then-lit-eq1}
use Rattle.parts.proofs.parities.Goals as goal

pub loop-v-init : goal.loop-v-init
loop-v-init c = parities_none vertex_limit refl

pub bounds-odd-r : goal.bounds-odd-r
bounds-odd-r c = root_limited c.requires c.loop-v-test.true c.root_of-root.ensures

pub bounds-odd-r-then-lit-eq1 : goal.bounds-odd-r-then-lit-eq1
bounds-odd-r-then-lit-eq1 c = root_limited c.requires c.loop-v-test.true c.root_of-root.ensures

pub loop-v-preserved : goal.loop-v-preserved
loop-v-preserved c =
    let before = c.loop-v.invariant in
    elim c.if-lit-eq1.branch [
      | then-lit-eq1 w ↦
          rw w.odd-is
          (parities_flip before w.if-lit-eq1.true w.root_of-root.ensures (root_limited c.requires c.loop-v-test.true w.root_of-root.ensures))
      | else-lit-eq1 w ↦ rw w.odd-is (parities_pass before w.if-lit-eq1.false)
    ]
