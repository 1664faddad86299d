use mathlib.Core.Path.{◌∙◌}
use Rattle.union_find.proofs.StepUp.{at_root, step_nearer, step_inside, step_same_root}
use Rattle.union_find.proofs.root_of.Goals as goal

pub returns-then-up-ge-ROOT : goal.returns-then-up-ge-ROOT
returns-then-up-ge-ROOT c = at_root _ c.loop-w.invariant.0 c.if-up-ge-ROOT.true ∙ c.loop-w.invariant.1

pub loop-w-smaller : goal.loop-w-smaller
loop-w-smaller c = step_nearer _ c.loop-w.invariant.0 c.if-up-ge-ROOT.false

pub loop-w-preserved : goal.loop-w-preserved
loop-w-preserved c =
    let i = c.loop-w.invariant in
    (step_inside _ i.0 c.if-up-ge-ROOT.false, step_same_root _ i.0 c.if-up-ge-ROOT.false ∙ i.1)
