-- `trap::search::is_trap_of` meets its contract: count_ones of a mask is the size of its set. Assumes nothing.
use mathlib.Core.Path.{◌∙◌}
use borrow.Author.Tests.{ne_eqb}
use Rattle.trap.proofs.SearchLaws.{this_size, other_size}
use Rattle.trap.proofs.search.is_trap_of.Goals as goal

pub returns-then-members-size : goal.returns-then-members-size
returns-then-members-size c = this_size _ _ c.requires.1 c.if-members-size.true c.is_trap.ensures

pub returns-else-members-size : goal.returns-else-members-size
returns-else-members-size c = ne_eqb _ _ c.if-members-size.false ∙ other_size _ _ c.requires.1 c.if-members-size.false
