use borrow.Author.Tests.{lt-ltb}
use Rattle.board.proofs.Searching.{ends_at, ends_nowhere}
use Rattle.board.proofs.bytes.place_above.Goals as goal

pub returns-then-bytes-i : goal.returns-then-bytes-i
returns-then-bytes-i g c = rw c.at.ensures (ends_at _ c.loop-i.invariant c.loop-i-test.true (lt-ltb _ _ c.if-bytes-i.true))

pub returns : goal.returns
returns g c = ends_nowhere _ c.loop-i.invariant c.loop-i-test.false
