-- Before the first turn face 0 has its mark, and after the last one all faces have theirs.
use Rattle.std.proofs.Common.{ℕ, arith, rules}
use native.Mathlib.Nat.{one-le-mul}
use lib.ListN.{length-set}
use Rattle.model.specs.Faces.{face_bytes}
use Rattle.torus.proofs.Filling.{filled_all}
use Rattle.faces.proofs.MarkSteps.{starts_unmarked}
use Rattle.faces.proofs.marking.mark_faces.Goals as goal

pub loop-i-init : goal.loop-i-init
loop-i-init c =
    let some = one-le-mul c.requires.0.least c.requires.0.least in
    starts_unmarked _ _ c.args.faces.now _ c.requires.0.least (omega (arith, c.requires.3, some)) (search rules)

pub returns : goal.returns
unfolding face_bytes
returns c =
    let some = one-le-mul c.requires.0.least c.requires.0.least in
    filled_all _ c.loop-i.invariant (omega (arith, length-set {A = ℕ})) (omega (arith, length-set {A = ℕ}, some))
