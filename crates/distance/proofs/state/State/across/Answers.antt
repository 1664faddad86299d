-- `distance::state::State::across` meets its contract, by the laws of the state across an edge. Assumes nothing.
use mathlib.Core.Path.{sym, ◌∙◌}
use borrow.Author.Tests.{eqb-true, eqb-false}
use Rattle.distance.proofs.StateLaws.{across_to_first, across_to_second}
use Rattle.distance.proofs.state.State.across.Goals as goal

pub returns-then-eq : goal.returns-then-eq
returns-then-eq c =
    let here = sym c.first_end-first.ensures ∙ eqb-true _ _ (sym c.eq.ensures ∙ c.if-eq.true) ∙ c.vertex.ensures in
    rw c.second_end-second.ensures (across_to_second _ c.requires.0 c.args.self.0 c.args.edge.0 c.requires.1 here)

pub returns : goal.returns
returns c = rw c.first_end-first.ensures
    (across_to_first _ c.requires.0 c.args.self.0 c.args.edge.0 c.requires.1
    (λ q. eqb-false _ _ (sym c.eq.ensures ∙ c.if-eq.false) (c.first_end-first.ensures ∙ q ∙ sym c.vertex.ensures)))
