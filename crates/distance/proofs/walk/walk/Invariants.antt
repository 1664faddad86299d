-- `distance::walk::walk` meets its contract: each turn of its two loops is a law of `Turning`. Assumes nothing.
use Prim.Native.Nat.{◌-◌}
use mathlib.Core.Path.{◌≡◌}
use Rattle.std.specs.Prelude.{None}
use Rattle.distance.specs.States.{state_limit}
use Rattle.distance.proofs.Turning.{Going, Turning}
use Rattle.distance.proofs.walk.walk.Given as goal

abbrev pub invariant-walk : goal.invariant-walk
invariant-walk l = Going l.ends l.marks l.lists.offsets l.lists.entries l.start.0 l.best l.visits.depth l.visits.via l.visits.queue l.head l.visits.tail × (l.met ≡ None)

abbrev pub decreases-walk : goal.decreases-walk
decreases-walk l = state_limit - l.head

abbrev pub invariant-loop-i : goal.invariant-loop-i
invariant-loop-i l = Turning l.ends l.marks l.lists.offsets l.lists.entries l.start.0 l.best l.visits.depth l.visits.via l.visits.queue l.head l.visits.tail l.state.0 l.level l.v l.i × (l.met ≡ None)
