-- `game::loops::looped` meets its contract. Assumes nothing.
use mathlib.Core.Path.{sym, ap, ◌∙◌}
use Rattle.model.specs.Lent.{board_lent}
use Rattle.model.specs.Sums.{bit}
use Rattle.board.proofs.MaskBytes.{cast_bit}
use Rattle.game.proofs.LoopBytes.{set_inside, looped_less, looped_whole}
use Rattle.game.proofs.loops.looped.Goals.{then-holds_less, else-holds_less}
use Rattle.game.proofs.loops.looped.Goals as goal

pub holds_less-requires : goal.holds_less-requires
holds_less-requires c = (c.requires.small.0.few, set_inside _ _ c.requires.small.0.few c.requires.small.1)

pub returns : goal.returns
returns c =
    let B = board_lent c.args.board in
    let within = c.requires.small.1 in
    c.from.ensures
    ∙ cast_bit c.if-holds_less.from
    ∙ ap bit (elim c.if-holds_less.branch [
      | then-holds_less w ↦ w.from-is ∙ w.if-holds_less.true ∙ looped_less B c.args.set within c.requires.filled (sym c.holds_less.ensures ∙ w.if-holds_less.true)
      | else-holds_less w ↦ w.from-is ∙ looped_whole B c.args.set within c.requires.filled w.winding.result
          (sym c.holds_less.ensures ∙ w.if-holds_less.false)
          w.winding.ensures
    ])
