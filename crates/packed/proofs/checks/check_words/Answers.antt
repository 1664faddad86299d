-- `packed::checks::check_words` meets its contract: the look at the syndrome's words decides, or else that at the loss words. Assumes
-- nothing.
use mathlib.Core.Path.{sym, ap, ◌∙◌}
use Rattle.packed.proofs.WordTests.{refusal_past, looks_say}
use Rattle.packed.proofs.checks.check_words.Goals as goal

pub returns-in-Some : goal.returns-in-Some
returns-in-Some c =
    let a = c.args in
    ap refusal_past (sym c.in-Some.is ∙ c.or.ensures)
    ∙ looks_say a.vertices a.lit.now a.edges a.lost.now _ _ c.past_last-in_syndrome.ensures c.past_last-in_loss.ensures

pub returns : goal.returns
returns c =
    let a = c.args in
    ap refusal_past (sym c.in_default.is ∙ c.or.ensures)
    ∙ looks_say a.vertices a.lit.now a.edges a.lost.now _ _ c.past_last-in_syndrome.ensures c.past_last-in_loss.ensures
