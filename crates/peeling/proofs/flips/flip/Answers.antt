use Rattle.union_find.proofs.Packing.{root_here, parent_here, no_root_here}
use Rattle.union_find.proofs.StepUp.{step_nearer}
use Rattle.peeling.proofs.FlipLaws.{flipping_up, flipping_done}
use Rattle.peeling.proofs.flips.flip.Goals as goal

pub returns-then-up-ge-ROOT : goal.returns-then-up-ge-ROOT
returns-then-up-ge-ROOT c =
    let inv = c.loop-w.invariant in
    let i = inv.ready.way in
    flipping_done inv (root_here _ i.climbs _ i.vertex c.if-up-ge-ROOT.true)

pub loop-w-smaller : goal.loop-w-smaller
loop-w-smaller c = step_nearer _ c.loop-w.invariant.ready.way c.if-up-ge-ROOT.false

pub loop-w-preserved : goal.loop-w-preserved
loop-w-preserved c =
    let inv = c.loop-w.invariant in
    let i = inv.ready.way in
    rw (← parent_here c.args.tree.now i.climbs _ i.vertex c.if-up-ge-ROOT.false)
    (flipping_up inv (no_root_here c.args.tree.now i.climbs _ i.vertex c.if-up-ge-ROOT.false))
