-- `raise` meets its contract: each turn looks at one name, and grows its ring where that is odd. Assumes nothing.
use Prim.Native.Nat.{◌≤◌}
use mathlib.Core.Path.{◌≡◌}
use Rattle.decoder.specs.Raising.{Raisable, RaisedBy}
use Rattle.decoder.proofs.raising.raise.Given as goal

abbrev pub invariant-loop-a : goal.invariant-loop-a
invariant-loop-a l =
    (l.a-iterator.end ≡ l.fn.growing.end) × (l.fn.growing.start ≤ l.a-iterator.start) × (l.a-iterator.start ≤ l.a-iterator.end)
    × ((w : Raisable l.lists.latest l.lists.earlier l.figure l.fn.growing l.exposure l.initial.ring l.initial.support l.initial.filled)
    → RaisedBy w l.a-iterator.start l.count l.ring l.support l.filled)
