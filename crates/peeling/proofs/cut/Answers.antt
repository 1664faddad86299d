-- `peeling::cut` meets its contract, in each of its two cases. Assumes nothing.
use Rattle.peeling.proofs.FlipLaws.{all_flippable, still_flippable}
use Rattle.peeling.proofs.cut.Goals as goal

pub flip-requires : goal.flip-requires
flip-requires c =
    let pre = c.requires in
    all_flippable pre.flippable _ (rw c.first_end-a.ensures (pre.board.first_in_range _ pre.edge))

pub flip-requires-2 : goal.flip-requires-2
flip-requires-2 c =
    let pre = c.requires in
    all_flippable (still_flippable pre.flippable c.flip.ensures.same_length) _
    (rw c.second_end-b.ensures (pre.board.second_in_range _ pre.edge))
