use native.Mathlib.Omega.{arith}
use lib.ListN.{length}
use Rattle.text.specs.Printing.{edges_bytes}
use Rattle.text.proofs.PutLaws.{then, long, put_none, edges_more, edges_fit}
use Rattle.text.proofs.writing.put_edges.Goals as goal

pub loop-e-init : goal.loop-e-init
unfolding edges_bytes
loop-e-init c = put_none _ _

pub put_edge-next-requires : goal.put_edge-next-requires
put_edge-next-requires c =
    let w = c.loop-e in
    let marks = c.args.board.marks.now in
    let fit = edges_fit c.args.board.ends.now marks (length marks) w.e c.loop-e-test.true in
    rw (c.first_end-first.ensures, c.second_end-second.ensures)
    (omega (arith, w.invariant.position, long w.invariant, c.requires.marks_in_bounds))

pub loop-e-preserved : goal.loop-e-preserved
loop-e-preserved c =
    rw (edges_more c.args.board.ends.now c.args.board.marks.now c.loop-e.e, ← c.first_end-first.ensures, ← c.second_end-second.ensures)
    (then c.loop-e.invariant c.put_edge-next.ensures)
