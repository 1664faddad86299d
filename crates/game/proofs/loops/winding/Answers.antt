-- `game::loops::winding` meets its contract: beside no correction for no syndrome, a set is wound exactly where it winds. Assumes nothing.
use mathlib.Core.Path.{ap, ◌∙◌}
use lib.ListN.{replicate}
use Rattle.model.specs.Board.{edges}
use Rattle.model.specs.Lent.{board_lent}
use Rattle.model.specs.Words.{bit_of}
use Rattle.board.proofs.FilledFronts.{front_filled}
use Rattle.verdict.specs.Judging.{is_wound}
use Rattle.game.proofs.WoundSets.{mask_judgeable, mask_wound}
use Rattle.game.proofs.loops.winding.Goals as goal

pub judge-requires : goal.judge-requires
judge-requires c =
    let a = c.args in
    let B = board_lent a.board in
    mask_judgeable B a.set _ c.requires (front_filled (edges B) (bit_of a.set) (replicate 10 0) _ c.requires.few c.spread.ensures)

pub returns : goal.returns
returns c =
    let a = c.args in
    let B = board_lent a.board in
    c.is_wound.ensures
    ∙ ap is_wound c.judge.ensures
    ∙ mask_wound B a.set _ c.requires (front_filled (edges B) (bit_of a.set) (replicate 10 0) _ c.requires.few c.spread.ensures)
