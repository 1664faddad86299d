use native.Mathlib.Numerals.{add-one}
use Rattle.decoder.proofs.ShutLaws.{at_vertex, shut_none, shut_first, shut_second, shut_next}
use Rattle.decoder.proofs.shutting.shut_listed.Goals as goal

pub loop-number-init : goal.loop-number-init
loop-number-init c = shut_none

pub shut-requires : goal.shut-requires
shut-requires c =
    let pre = c.requires in
    at_vertex c.first_end-a.ensures (shut_first pre _ _ _ (c.loop-number.invariant pre) c.loop-number-test.true)

pub shut-requires-in-loop-number : goal.shut-requires-in-loop-number
shut-requires-in-loop-number c =
    let pre = c.requires in
    at_vertex c.second_end-b.ensures
    (shut_second pre _ _ _ (c.loop-number.invariant pre) c.loop-number-test.true _ _ (rw c.first_end-a.ensures at c.shut.ensures))

pub loop-number-preserved : goal.loop-number-preserved
loop-number-preserved c w =
    rw add-one
    (shut_next w _ _ _ (c.loop-number.invariant w) c.loop-number-test.true _ _ (rw c.first_end-a.ensures at c.shut.ensures) _ _
    (rw c.second_end-b.ensures at c.shut-in-loop-number.ensures))
