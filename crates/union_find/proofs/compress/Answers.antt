use Rattle.union_find.proofs.CompressLoop.{passing_less, passing_next, passing_all}
use Rattle.union_find.proofs.compress.Goals as goal

pub loop-w-smaller : goal.loop-w-smaller
loop-w-smaller c = passing_less _ _ c.loop-w.invariant c.loop-w-test.true

pub loop-w-preserved : goal.loop-w-preserved
loop-w-preserved c = passing_next _ _ c.loop-w.invariant c.loop-w-test.true

pub returns : goal.returns
returns c = passing_all _ _ (rw c.loop-w-test.false at c.loop-w.invariant)
