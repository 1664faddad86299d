use Prim.Native.Nat.{◌<◌}
use mathlib.Core.Path.{◌≡◌, refl}
use native.Mathlib.Numerals.{add-one}
use native.Mathlib.Omega.{arith}
use lib.ListN.{length}
use Rattle.model.specs.Board.{vertex_limit}
use Rattle.decoder.proofs.EndMarking.{marked_none, marked_outlet, marked_other, marked_all}
use Rattle.decoder.proofs.odd_ends.odd_ends.Goals.{else-opened-v, then-opened-v}
use Rattle.decoder.proofs.odd_ends.odd_ends.Goals as goal

pub loop-v-init : goal.loop-v-init
loop-v-init c = marked_none _ _ _ _ vertex_limit _ refl c.tally-counts.ensures

pub loop-v-preserved : goal.loop-v-preserved
loop-v-preserved c =
    let few : c.loop-v.v < vertex_limit = omega (arith, c.requires.labelled.few) in
    let inside = c.requires.labelled.inside c.loop-v.v c.loop-v-test.true in
    let marked = c.loop-v.invariant in
    rw add-one
    (elim c.if-opened-v.branch [
      | then-opened-v w ↦ rw (w.counts-is, w.ends-is) (marked_outlet _ _ _ _ marked few inside w.if-opened-v.true c.loop-v-test.true c.requires.unlit)
      | else-opened-v w ↦ rw (w.counts-is, w.ends-is) (marked_other _ _ _ _ marked few inside w.if-opened-v.false)
    ])

pub returns : goal.returns
returns c =
    let done : c.loop-v.v ≡ length c.args.syndrome.now = omega arith in
    marked_all _ _ _ _ (rw done at c.loop-v.invariant)
