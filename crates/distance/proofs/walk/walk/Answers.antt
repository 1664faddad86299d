use mathlib.Core.Path.{refl, sym, ◌∙◌}
use borrow.Author.Tests.{eqb-true, eqb-false}
use native.Mathlib.Omega.{arith}
use Rattle.distance.proofs.Turning.{tail_bound, going_start, going_over, turning_room, turning_old, turning_new, turning_met, turning_done}
use Rattle.distance.proofs.walk.walk.Goals.{else-enter, then-enter+else-eq}
use Rattle.distance.proofs.walk.walk.Goals as goal

pub walk-init : goal.walk-init
walk-init c = rw c.home-home.ensures (going_start c.requires.ready c.requires.fresh, refl)

pub offset_bounds-visits-head : goal.offset_bounds-visits-head
offset_bounds-visits-head c = omega (arith, tail_bound c.walk.invariant.0)

pub bounds-visits-head : goal.bounds-visits-head
bounds-visits-head c = omega (arith, tail_bound c.walk.invariant.0)

pub enter-requires : goal.enter-requires
enter-requires c = rw c.across-next.ensures (turning_room c.loop-i.invariant.0 c.loop-i-test.true)

pub loop-i-preserved : goal.loop-i-preserved
loop-i-preserved c =
    let known = c.loop-i.invariant in
    elim c.if-enter.branch [
      | then-enter+else-eq w ↦ let new = rw (c.across-next.ensures, w.if-enter.true) at c.enter.ensures in
          (turning_new known.0 c.loop-i-test.true new (λ q. eqb-false _ _ (sym w.eq.ensures ∙ w.if-eq.false) (w.vertex.ensures ∙ rw c.across-next.ensures q)), known.1)
      | else-enter w ↦ let old = rw (c.across-next.ensures, w.if-enter.false) at c.enter.ensures in
          (turning_old known.0 c.loop-i-test.true old, known.1)
    ]

pub walk-smaller : goal.walk-smaller
walk-smaller c = omega (arith, tail_bound c.loop-i.invariant.0.going)

pub walk-preserved : goal.walk-preserved
walk-preserved c =
    let known = c.loop-i.invariant in
    (turning_done known.0 c.loop-i-test.false, known.1)

pub returns-after-walk : goal.returns-after-walk
returns-after-walk c =
    let known = c.walk.invariant in
    rw known.1 (going_over known.0 (λ l. absurd (omega (arith, c.walk-test.false))))

pub returns-then-level-best : goal.returns-then-level-best
returns-then-level-best c =
    let known = c.walk.invariant in
    rw known.1 (going_over known.0 (λ l. omega (arith, c.if-level-best.true)))

pub returns-then-eq : goal.returns-then-eq
returns-then-eq c =
    let new = rw (c.across-next.ensures, c.if-enter.true) at c.enter.ensures in
    let home = rw c.across-next.ensures at (sym c.vertex.ensures ∙ eqb-true _ _ (sym c.eq.ensures ∙ c.if-eq.true)) in
    rw c.across-next.ensures (turning_met c.loop-i.invariant.0 c.loop-i-test.true new home)
