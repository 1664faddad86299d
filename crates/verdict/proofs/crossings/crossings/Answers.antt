use Rattle.model.specs.Sums.{ones}
use Rattle.model.specs.Winding.{together}
use Rattle.verdict.specs.CrossingParities.{on_line_a, on_line_b}
use Rattle.verdict.proofs.CrossingCounts.{no_parity, next_parity}
use Rattle.verdict.proofs.crossings.crossings.Goals as goal

pub loop-e-init : goal.loop-e-init
loop-e-init c = record { line_a = no_parity _ _; line_b = no_parity _ _ }

pub loop-e-preserved : goal.loop-e-preserved
loop-e-preserved c =
    let marks = c.args.marks.now in
    let both = together (ones c.args.handed.now) (ones c.args.correction.now) in
    let w = c.loop-e.invariant in
    record {
      line_a = next_parity (on_line_a marks) both w.line_a c.counted-a.ensures;
      line_b = next_parity (on_line_b marks) both w.line_b c.counted-b.ensures;
    }
