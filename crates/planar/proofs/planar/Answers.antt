-- `planar::planar` meets its contract: each refusal by its test, and otherwise what the three loops fill. Assumes nothing.
use Rattle.std.proofs.Common.{refl, eq-eqb, ne_eqb, rules}
use Rattle.model.specs.declared.refusal.Refusal.TheVariants.{PlanarSide}
use Rattle.model.specs.Planar.{least_planar, largest_planar}
use Rattle.model.specs.Refusals.{planar_refusal, planar_rules}
use Rattle.model.specs.Outcomes.{planar_answer}
use Rattle.torus.proofs.SideRefused.{out_of_range, in_range}
use Rattle.planar.proofs.planar.Goals.{then-ends-edges-via-else-ends-edges+else-marks-edges+then-opened-vertices, then-ends-edges-via-else-ends-edges+then-marks-edges, then-ends-edges-via-then-ends-edges}
use Rattle.planar.proofs.planar.Goals as goal

pub returns-then-not-contains : goal.returns-then-not-contains
unfolding planar_answer planar_refusal planar_rules
returns-then-not-contains c =
    let side = c.args.side in
    record {
      result = rw (out_of_range (PlanarSide side) least_planar largest_planar side _ (search rules));
      ends_filled = refl;
      marks_filled = refl;
      open_filled = refl;
    }

pub returns-then-ends-edges : goal.returns-then-ends-edges
unfolding planar_answer planar_refusal planar_rules
returns-then-ends-edges c =
    let side = c.args.side in
    record {
      result =
          rw (in_range (PlanarSide side) least_planar largest_planar side _ (search rules))
          (elim c.then-ends-edges.branch [
            | then-ends-edges-via-then-ends-edges w ↦ rw (ne_eqb _ _ w.if-ends-edges.true)
            | then-ends-edges-via-else-ends-edges+then-marks-edges w ↦ rw (eq-eqb _ _ w.if-ends-edges.false, ne_eqb _ _ w.if-marks-edges.true)
            | then-ends-edges-via-else-ends-edges+else-marks-edges+then-opened-vertices w ↦ rw (
              eq-eqb _ _ w.if-ends-edges.false,
              eq-eqb _ _ w.if-marks-edges.false,
              ne_eqb _ _ w.if-opened-vertices.true,
            )
          ]);
      ends_filled = refl;
      marks_filled = refl;
      open_filled = refl;
    }

pub returns : goal.returns
unfolding planar_answer planar_refusal planar_rules
returns c =
    let side = c.args.side in
    record {
      result =
          rw (
            in_range (PlanarSide side) least_planar largest_planar side _ (search rules),
            eq-eqb _ _ c.if-ends-edges.false,
            eq-eqb _ _ c.if-marks-edges.false,
            eq-eqb _ _ c.if-opened-vertices.false,
          );
      ends_filled = c.fill_ends.ensures;
      marks_filled = c.fill_marks.ensures;
      open_filled = c.fill_open.ensures;
    }
