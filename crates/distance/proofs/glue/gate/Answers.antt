-- `distance::glue::gate` meets its contract: the place that is found is the smallest open vertex. Assumes nothing.
use Rattle.std.proofs.Common.{◌≡◌, ◌∙◌, rules, tests}
use Rattle.std.proofs.lemmas.Iterator.{IsFirst-from_position, YieldsList-from_slice}
use Rattle.distance.proofs.GluedEnds.{gate_found}
use Rattle.distance.proofs.glue.gate.Goals as goal

pub returns : goal.returns
returns c =
    c.unwrap_or.ensures
    ∙ gate_found c.args.opened.now _
    (IsFirst-from_position _ _ _ (λ x. x ≡ 1) (λ x. x ≡ 1 → ⊥) c.position-first.ensures.ran
    (YieldsList-from_slice c.args.opened.now cc) (λ x q k. search (rules, tests)) (λ x q k. search (rules, tests)))
