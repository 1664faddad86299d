use mathlib.Core.Path.{sym, ◌∙◌}
use native.Mathlib.Numerals.{add-one}
use native.Mathlib.Omega.{arith}
use Rattle.decoder.proofs.EndCounts.{room_first, room_second, ends_more, ends_passed}
use Rattle.decoder.proofs.exposure.count_ends.Goals.{else-not-is_full, then-not-is_full}
use Rattle.decoder.proofs.exposure.count_ends.Goals as goal

pub count_end-requires : goal.count_end-requires
count_end-requires c =
    let pre = c.requires.ends_within in
    let inside = pre.first_in_range c.loop-e.e c.loop-e-test.true in
    room_first _ _ _ _ (omega (arith, c.loop-e-test.true, pre.edges_limited)) c.loop-e.invariant _ (omega (arith, c.first_end-a.ensures, inside))

pub count_end-requires-then-not-is_full : goal.count_end-requires-then-not-is_full
count_end-requires-then-not-is_full c =
    let pre = c.requires.ends_within in
    let a = pre.first_in_range c.loop-e.e c.loop-e-test.true in
    let b = pre.second_in_range c.loop-e.e c.loop-e-test.true in
    room_second _ _ _ _ (omega (arith, c.loop-e-test.true, pre.edges_limited)) c.loop-e.invariant _ (omega (arith, c.first_end-a.ensures, a))
    c.count_end.ensures _ (omega (arith, c.second_end-b.ensures, b))

pub loop-e-preserved : goal.loop-e-preserved
loop-e-preserved c =
    let e = c.loop-e.e in
    let pre = c.requires.ends_within in
    let a = pre.first_in_range e c.loop-e-test.true in
    let b = pre.second_in_range e c.loop-e-test.true in
    rw add-one
    (elim c.if-not-is_full.branch [
      | then-not-is_full w ↦ rw w.exposure-is
          (ends_more e _ _ _ w.first_end-a.ensures w.second_end-b.ensures (omega (arith, w.first_end-a.ensures, a)) (omega (arith, w.second_end-b.ensures, b))
          (sym c.is_full.ensures ∙ w.if-not-is_full.true) w.count_end.ensures w.count_end-then-not-is_full.ensures c.loop-e.invariant)
      | else-not-is_full w ↦ rw w.exposure-is (ends_passed e _ _ _ (sym c.is_full.ensures ∙ w.if-not-is_full.false) c.loop-e.invariant)
    ])
