use Rattle.board.proofs.Searching.{passed_more, ends_at, ends_nowhere}
use Rattle.board.proofs.opened.lit_open.Goals as goal

pub returns-then-open-syndrome : goal.returns-then-open-syndrome
returns-then-open-syndrome c = ends_at _ c.loop-v.invariant c.loop-v-test.true c.if-open-syndrome.true

pub loop-v-preserved : goal.loop-v-preserved
loop-v-preserved c = passed_more c.loop-v.invariant c.if-open-syndrome.false

pub returns : goal.returns
returns c = ends_nowhere _ c.loop-v.invariant c.loop-v-test.false
