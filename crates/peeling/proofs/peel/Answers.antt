use mathlib.Core.Path.{◌≡◌, refl}
use native.Mathlib.Omega.{arith}
use Rattle.model.specs.Board.{vertex_limit}
use Rattle.peeling.proofs.PeelLoop.{from_start, from_cuttable, from_next, from_done}
use Rattle.peeling.proofs.peel.Goals as goal

pub loop-k-init : goal.loop-k-init
loop-k-init c =
    let pre = c.requires in
    from_start pre c.span.ensures vertex_limit pre.board.vertices_limited c.flip_ends.ensures c.clear.ensures

pub cut-requires : goal.cut-requires
cut-requires c = from_cuttable c.requires c.span.ensures c.loop-k.invariant (omega (arith, c.loop-k-test.true))

pub loop-k-preserved-then-cut : goal.loop-k-preserved-then-cut
loop-k-preserved-then-cut c =
    from_next c.requires c.span.ensures c.loop-k.invariant (omega (arith, c.loop-k-test.true)) c.if-cut.ensures refl

pub loop-k-preserved : goal.loop-k-preserved
loop-k-preserved c =
    from_next c.requires c.span.ensures c.loop-k.invariant (omega (arith, c.loop-k-test.true)) c.if-cut.ensures (omega arith)

pub returns : goal.returns
returns c =
    let l = c.loop-k in
    let none : l.k ≡ 0 = omega arith in
    from_done c.requires c.span.ensures (rw none at l.invariant)
