-- `text::line::line_end` meets its contract: behind the text's end no byte is left, and before it the line's bytes are counted in the rest.
-- Assumes nothing.
use Rattle.std.proofs.Common.{◌≡◌, ◌+◌, ◌-◌, not, eqb, length, take, drop, take_while}
use mathlib.Core.Path.{sym, ap, ◌∙◌}
use native.Mathlib.Omega.{arith}
use Rattle.std.proofs.lemmas.List.{drop_all, take_all, length-drop}
use Rattle.model.specs.Text.{newline}
use Rattle.text.specs.Pieces.{up_to}
use Rattle.text.proofs.PieceLaws.{up_to_while}
use Rattle.text.proofs.line.line_end.Goals as goal

pub returns-then-text-at : goal.returns-then-text-at
unfolding up_to
returns-then-text-at c = rw (drop_all c.args.at c.args.text.now c.if-text-at.true) (omega arith)

pub returns : goal.returns
returns c =
    let t = c.args.text.now in
    let at = c.args.at in
    let rest : take (length t - at) (drop at t) ≡ drop at t = take_all _ _ (rw length-drop (omega arith)) in
    ap (λ n. at + n)
    (c.line_length.ensures
    ∙ ap (λ l. length (take_while (λ b. not (eqb b newline)) l)) rest
    ∙ sym (ap length (up_to_while newline (drop at t))))
