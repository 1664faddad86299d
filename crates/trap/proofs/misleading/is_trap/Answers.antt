-- `trap::misleading::is_trap` meets its contract: the bytes of a mask's edges are those of its set. Assumes nothing.
use mathlib.Core.Path.{ap, ◌∙◌}
use lib.ListN.{length, replicate}
use Rattle.model.specs.Sums.{ones}
use Rattle.model.specs.Words.{bit_of}
use Rattle.model.proofs.ListLaws.{ones_bytes}
use Rattle.board.proofs.FilledFronts.{front_filled, front_valid}
use Rattle.theory.proofs.Traps.{traps_cong}
use Rattle.trap.proofs.misleading.is_trap.Goals as goal

pub misleads-requires : goal.misleads-requires
misleads-requires c = (c.requires, front_valid (length c.args.board.marks.now) (bit_of c.args.set) (replicate 16 0) _ c.requires.few c.spread.ensures)

pub returns : goal.returns
returns c =
    let a = c.args in
    let m = length a.board.marks.now in
    let front = front_filled m (bit_of a.set) (replicate 16 0) _ c.requires.few c.spread.ensures in
    c.misleads.ensures
    ∙ traps_cong _ _ _ (bit_of a.set)
    (λ e h. ap (λ l. ones l e) front ∙ ones_bytes m (bit_of a.set) e h)
