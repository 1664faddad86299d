-- `game::search` meets its contract. Assumes nothing.
use Rattle.model.specs.Lent.{board_lent}
use Rattle.game.proofs.GameOutcome.{searchable, winder_begins, blocker_begins}
use Rattle.game.proofs.search.Goals as goal

pub wind-requires : goal.wind-requires
wind-requires c =
    let a = c.args in
    let B = board_lent a.board in
    searchable B a.position.now _ c.requires c.fill_loops.ensures c.mask-held.ensures c.mask-free.ensures c.count-left.ensures

pub returns-then-winders-blockers : goal.returns-then-winders-blockers
returns-then-winders-blockers c =
    let a = c.args in
    let B = board_lent a.board in
    winder_begins B a.position.now _ c.requires c.fill_loops.ensures c.mask-held.ensures c.mask-free.ensures c.count-left.ensures
    c.count-winders.ensures c.count-blockers.ensures c.if-winders-blockers.true c.wind.ensures

pub block-requires : goal.block-requires
block-requires c =
    let a = c.args in
    let B = board_lent a.board in
    searchable B a.position.now _ c.requires c.fill_loops.ensures c.mask-held.ensures c.mask-free.ensures c.count-left.ensures

pub returns : goal.returns
returns c =
    let a = c.args in
    let B = board_lent a.board in
    blocker_begins B a.position.now _ c.requires c.fill_loops.ensures c.mask-held.ensures c.mask-free.ensures c.count-left.ensures
    c.count-winders.ensures c.count-blockers.ensures c.if-winders-blockers.false c.block.ensures
