-- `union_find::join` meets its contract, in each of its three cases. Assumes nothing.
use mathlib.Core.Path.{sym, ◌∙◌}
use borrow.Author.Tests.{eqb-true, eqb-false}
use Rattle.union_find.proofs.JoinCases.{limits, hangable, hangable_back, joins_already, joins_first, joins_second}
use Rattle.union_find.proofs.join.Goals as goal

pub returns-then-eq : goal.returns-then-eq
returns-then-eq c = joins_already c.requires c.root_of-x.ensures c.root_of-y.ensures (eqb-true _ _ (sym c.eq.ensures ∙ c.if-eq.true))

pub bounds-tree-x : goal.bounds-tree-x
bounds-tree-x c = (limits c.requires c.root_of-x.ensures c.root_of-y.ensures).0

pub bounds-tree-y : goal.bounds-tree-y
bounds-tree-y c = (limits c.requires c.root_of-x.ensures c.root_of-y.ensures).1

pub hang-requires : goal.hang-requires
hang-requires c = hangable c.requires c.root_of-x.ensures c.root_of-y.ensures (eqb-false _ _ (sym c.eq.ensures ∙ c.if-eq.false))

pub returns-then-tree-x : goal.returns-then-tree-x
returns-then-tree-x c =
    joins_first c.requires c.root_of-x.ensures c.root_of-y.ensures (eqb-false _ _ (sym c.eq.ensures ∙ c.if-eq.false)) c.if-tree-x.true c.hang.ensures

pub hang-requires-2 : goal.hang-requires-2
hang-requires-2 c = hangable_back c.requires c.root_of-x.ensures c.root_of-y.ensures (eqb-false _ _ (sym c.eq.ensures ∙ c.if-eq.false))

pub returns : goal.returns
returns c =
    joins_second c.requires c.root_of-x.ensures c.root_of-y.ensures (eqb-false _ _ (sym c.eq.ensures ∙ c.if-eq.false)) c.if-tree-x.false c.hang-2.ensures
