-- `raise_at` meets its contract: each turn gives a half-edge to one end. Assumes nothing.
use Prim.Native.Nat.{ℕ}
use mathlib.Core.Path.{◌≡◌}
use Rattle.union_find.specs.Trees.{at}
use Rattle.decoder.specs.Gains.{RaisableAt}
use Rattle.decoder.proofs.EndRaising.{RaisedFrom}
use Rattle.decoder.proofs.support.raise_at.Given as goal

-- Of the vertex whose list begins at the first place, the ends from `place` on have got their half-edges. The vertex itself is no variable
-- of the loop.

abbrev pub invariant-loop-place : goal.invariant-loop-place
invariant-loop-place l = (v : ℕ) (w : RaisableAt l.lists.latest l.lists.earlier v l.initial.support l.initial.filled l.count) → l.initial.place ≡ at l.lists.latest v → RaisedFrom w l.place l.total l.support l.filled

abbrev pub decreases-loop-place : goal.decreases-loop-place
decreases-loop-place l = l.place
