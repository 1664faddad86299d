-- The first lit byte is where the syndromes differ; the parities are the marks of the two sets together. Assumes nothing.
use mathlib.Core.Path.{ap}
use Rattle.board.specs.Checks.{vertex_found}
use Rattle.verdict.proofs.Judged.{judged_off, judged_same, judged_wound}
use Rattle.verdict.proofs.judge.judge.Goals as goal

pub returns-in-Some : goal.returns-in-Some
returns-in-Some c =
    judged_off _ _ _ _ c.requires _ c.copy_front.ensures c.count_edges.ensures c.clear_open.ensures c.first_above.ensures
    (ap vertex_found c.in-Some.is)

pub returns-then-x-eq0 : goal.returns-then-x-eq0
returns-then-x-eq0 c =
    judged_same _ _ _ _ c.requires _ c.copy_front.ensures c.count_edges.ensures c.clear_open.ensures c.first_above.ensures
    (ap vertex_found c.in_default.is) c.crossings-x.ensures c.if-x-eq0.true

pub returns : goal.returns
returns c =
    judged_wound _ _ _ _ c.requires _ c.copy_front.ensures c.count_edges.ensures c.clear_open.ensures c.first_above.ensures
    (ap vertex_found c.in_default.is) c.crossings-x.ensures c.if-x-eq0.false
