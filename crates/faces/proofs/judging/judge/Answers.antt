-- `faces::judging::judge` meets its contract: each array has a front of the right length. Assumes nothing.
use Rattle.std.proofs.Common.{◌*◌, ◌≤◌, arith}
use Rattle.std.proofs.lemmas.List.{take-replicate}
use Rattle.model.specs.Board.{vertex_limit}
use Rattle.model.proofs.ListLaws.{front_long}
use Rattle.torus.proofs.Numbering.{square_limit}
use Rattle.faces.proofs.judging.judge.Goals as goal

pub build_and_compare-requires : goal.build_and_compare-requires
build_and_compare-requires c =
    let n = c.args.side * c.args.side in
    let few : n ≤ vertex_limit = square_limit c.args.side c.requires.0.side.most in (
      c.requires.0,
      record {
        ends_sized = omega (arith, front_long (2 * (2 * n)) (4 * vertex_limit) 0 (omega arith));
        marks_sized = front_long (2 * n) (2 * vertex_limit) 0 (omega arith);
        none_open = take-replicate n vertex_limit 0 few;
        support_sized = front_long (2 * n) (2 * vertex_limit) 0 (omega arith);
        correction_sized = c.requires.1;
      },
    )
