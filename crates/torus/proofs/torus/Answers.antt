-- `torus::torus` meets its contract: each refusal by its test, and otherwise what the two loops fill. Assumes nothing.
use Rattle.std.proofs.Common.{refl, eq-eqb, ne_eqb, rules}
use Rattle.model.specs.Refusals.{torus_refusal}
use Rattle.model.specs.Outcomes.{torus_answer}
use Rattle.torus.specs.Sides.{SideWithin}
use Rattle.torus.proofs.SideRefused.{outside_refused, within_passes}
use Rattle.torus.proofs.torus.Goals.{then-ends-vertices-via-else-ends-vertices+then-marks-vertices, then-ends-vertices-via-then-ends-vertices}
use Rattle.torus.proofs.torus.Goals as goal

pub returns-then-not-is_built : goal.returns-then-not-is_built
unfolding torus_answer torus_refusal
returns-then-not-is_built c =
    let out : SideWithin c.args.side → ⊥ = search rules in
    record { result = rw (outside_refused c.args.side); ends_filled = refl; marks_filled = refl }

pub returns-then-ends-vertices : goal.returns-then-ends-vertices
unfolding torus_answer torus_refusal
returns-then-ends-vertices c =
    let in_range : SideWithin c.args.side = search rules in
    record {
      result =
          rw (within_passes c.args.side)
          (elim c.then-ends-vertices.branch [
            | then-ends-vertices-via-then-ends-vertices w ↦ rw (ne_eqb _ _ w.if-ends-vertices.true)
            | then-ends-vertices-via-else-ends-vertices+then-marks-vertices w ↦ rw (eq-eqb _ _ w.if-ends-vertices.false, ne_eqb _ _ w.if-marks-vertices.true)
          ]);
      ends_filled = refl;
      marks_filled = refl;
    }

pub returns : goal.returns
unfolding torus_answer torus_refusal
returns c =
    let in_range : SideWithin c.args.side = search rules in
    record {
      result = rw (within_passes c.args.side, eq-eqb _ _ c.if-ends-vertices.false, eq-eqb _ _ c.if-marks-vertices.false);
      ends_filled = c.fill_ends.ensures;
      marks_filled = c.fill_marks.ensures;
    }
