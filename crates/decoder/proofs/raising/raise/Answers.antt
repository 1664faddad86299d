use Prim.Native.Nat.{suc, ◌≤◌, ◌<◌}
use mathlib.Core.Path.{◌≡◌, refl}
use native.Mathlib.Nat.{le_refl}
use native.Mathlib.Omega.{arith}
use lib.ListN.{get_or}
use borrow.Author.Tests.{lt-ltb, le-ltb}
use Rattle.decoder.specs.Figures.{even_mark}
use Rattle.decoder.specs.Raising.{Raisable, RaisedBy}
use Rattle.decoder.proofs.RingRaising.{raise_begins, raise_passes, prunable, ring_raisable, raise_adds}
use Rattle.decoder.proofs.raising.raise.Goals.{In-Some}
use Rattle.decoder.proofs.raising.raise.Goals as goal

-- the next name is the front of what is left of the range, which then begins behind it
is_front : (c : In-Some) → c.in-Some.a ≡ c.loop-a.a-iterator.start
is_front c = c.in-Some.ensures.steps.1.1

goes_on : (c : In-Some) → c.next.new.self.start ≡ suc c.in-Some.a
goes_on c = omega (arith, c.in-Some.ensures.steps)

begun : (c : In-Some) → c.args.growing.start ≤ c.in-Some.a
begun c = omega (arith, c.in-Some.ensures.steps, c.loop-a.invariant.1)

-- whatever can be raised in these arrays
abbrev Lent : In-Some → Type 0
Lent c = Raisable c.args.lists.now.latest c.args.lists.now.earlier c.args.figure.now c.args.growing c.args.exposure.now c.args.ring.now c.args.support.now c.args.filled.now

-- the name is that of a vertex
inside : (c : In-Some) → (w : Lent c) → c.in-Some.a < w.vertices
inside c w = omega (arith, c.in-Some.ensures.steps, c.loop-a.invariant.0, w.inside)

-- what lies before it has been raised
now : (c : In-Some) → (w : Lent c) → RaisedBy w c.in-Some.a c.loop-a.count c.loop-a.ring c.loop-a.support c.loop-a.filled
now c w = let front = is_front c in rw front (c.loop-a.invariant.3 w)

pub loop-a-init : goal.loop-a-init
loop-a-init c = rw c.into_iter-a-iterator.ensures.into_iter_gives (refl, le_refl _, c.requires.ordered, raise_begins)

pub prune-requires : goal.prune-requires
prune-requires c =
    let b = (goal.at.prune-requires c).In-Some in
    let pre = c.requires in
    prunable pre (now b pre) (begun b) (inside b pre) (lt-ltb _ _ c.if-figure-a-lt-EVEN.true)

pub raise_ring-count-requires : goal.raise_ring-count-requires
raise_ring-count-requires c =
    let b = (goal.at.raise_ring-count-requires c).In-Some in
    let pre = c.requires in
    ring_raisable pre (now b pre) (begun b) (inside b pre) (lt-ltb _ _ c.if-figure-a-lt-EVEN.true) _ c.prune.ensures

pub loop-a-preserved-then-figure-a-lt-EVEN : goal.loop-a-preserved-then-figure-a-lt-EVEN
loop-a-preserved-then-figure-a-lt-EVEN c =
    let b = (goal.at.loop-a-preserved-then-figure-a-lt-EVEN c).In-Some in
    let next = goes_on b in (
      omega (arith, c.in-Some.ensures.steps, c.loop-a.invariant.0),
      omega (arith, next, begun b),
      omega (arith, c.in-Some.ensures.steps),
      λ w. rw next
          (raise_adds w (now b w) (begun b) (inside b w) (lt-ltb _ _ c.if-figure-a-lt-EVEN.true) _ c.prune.ensures _ _ _ c.raise_ring-count.ensures),
    )

pub loop-a-preserved : goal.loop-a-preserved
loop-a-preserved c =
    let b = (goal.at.loop-a-preserved c).In-Some in
    let next = goes_on b in (
      omega (arith, c.in-Some.ensures.steps, c.loop-a.invariant.0),
      omega (arith, next, begun b),
      omega (arith, c.in-Some.ensures.steps),
      λ w. rw next
          (raise_passes w (now b w) (begun b) (inside b w) (le-ltb (get_or c.args.figure.now c.in-Some.a 0) even_mark (omega (arith, c.if-figure-a-lt-EVEN.false)))),
    )

pub returns : goal.returns
returns c =
    let p : c.loop-a.a-iterator.start ≡ c.args.growing.end = omega (arith, c.in-None.ensures.steps, c.loop-a.invariant.0, c.loop-a.invariant.2) in
    record { each = λ w. rw p at (c.loop-a.invariant.3 w) }
