use mathlib.Core.Path.{sym, ◌∙◌}
use native.Mathlib.Omega.{arith}
use Rattle.peeling.proofs.SpanLaws.{spanning_start, take_room, spanning_passed, spanning_next, spanning_done}
use Rattle.peeling.proofs.forest.span.Goals.{else-is_full, then-is_full}
use Rattle.peeling.proofs.forest.span.Goals as goal

pub loop-e-init : goal.loop-e-init
loop-e-init c = spanning_start c.requires c.alone.ensures

pub take-requires : goal.take-requires
take-requires c = record {
  vertices = c.args.vertices;
  edges = _;
  board = c.requires.board;
  edge = omega (arith, c.loop-e-test.true);
  packed = c.loop-e.invariant.packed;
  room = take_room c.requires.board c.loop-e.invariant c.loop-e-test.true;
}

pub loop-e-preserved : goal.loop-e-preserved
loop-e-preserved c =
    let i = c.loop-e.invariant in
    elim c.if-is_full.branch [
      | then-is_full w ↦
          rw (w.tree-is, w.listed-is)
          (spanning_next c.requires.board i c.loop-e-test.true (sym c.is_full.ensures ∙ w.if-is_full.true) w.take.ensures)
      | else-is_full w ↦
          rw (w.tree-is, w.listed-is)
          (spanning_passed c.requires.board i c.loop-e-test.true (sym c.is_full.ensures ∙ w.if-is_full.false))
    ]

pub returns : goal.returns
returns c = spanning_done c.requires.board (omega arith) c.loop-e.invariant
