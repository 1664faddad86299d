use Prim.Native.Nat.{suc, ◌-◌}
use mathlib.Core.Path.{◌≡◌, refl}
use native.Mathlib.Omega.{arith}
use Rattle.decoder.proofs.EndRaising.{raise_first, raise_liftable, goes_down, raise_next}
use Rattle.decoder.proofs.support.raise_at.Goals as goal

pub loop-place-init : goal.loop-place-init
loop-place-init c = λ v w p. raise_first w _ p

pub lift-total-requires : goal.lift-total-requires
lift-total-requires c =
    let end : c.loop-place.place ≡ suc (c.loop-place.place - 1) =
    omega (arith, c.loop-place-test.true) in
    let pre = c.requires in
    raise_liftable pre _ _ _ _ (c.loop-place.invariant _ pre refl) _ end

pub loop-place-smaller : goal.loop-place-smaller
loop-place-smaller c =
    let end : c.loop-place.place ≡ suc (c.loop-place.place - 1) =
    omega (arith, c.loop-place-test.true) in
    let pre = c.requires in
    goes_down pre _ _ _ _ (c.loop-place.invariant _ pre refl) _ end

pub loop-place-preserved : goal.loop-place-preserved
loop-place-preserved c =
    let end : c.loop-place.place ≡ suc (c.loop-place.place - 1) =
    omega (arith, c.loop-place-test.true) in
    λ v w p. raise_next w _ _ _ _ (c.loop-place.invariant v w p) _ end _ _ _ c.lift-total.ensures
