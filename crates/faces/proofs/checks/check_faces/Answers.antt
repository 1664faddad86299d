-- `faces::checks::check_faces` meets its contract: the side decides, or else the other tests. Assumes nothing.
use Rattle.std.proofs.Common.{rules}
use Rattle.model.specs.Refusals.{faces_refusal}
use Rattle.torus.proofs.SideRefused.{outside_refused, within_passes}
use Rattle.faces.proofs.checks.check_faces.Goals as goal

pub returns-then-not-is_built : goal.returns-then-not-is_built
unfolding faces_refusal
returns-then-not-is_built c = rw (outside_refused c.args.side _ (search rules))

pub returns : goal.returns
unfolding faces_refusal
returns c = rw (within_passes c.args.side _ (search rules)) c.check_torus_bytes.ensures
