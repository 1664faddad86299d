-- `list` meets its contract: each turn lists one end. Assumes nothing.
use Rattle.decoder.specs.EndLists.{ListedUpTo}
use Rattle.decoder.proofs.end_lists.EndLists.list.Given as goal

abbrev pub invariant-loop-i : goal.invariant-loop-i
invariant-loop-i l = ListedUpTo l.i l.ends l.self.latest l.self.earlier
