use Prim.Native.Nat.{ℕ}
use mathlib.Core.Path.{◌≡◌, sym, ◌∙◌, ap, subst}
use mathlib.Core.Bool.{cond}
use lib.ListN.{length}
use Rattle.model.specs.Sums.{ones, values}
use Rattle.decoder.proofs.Lifting.{Filled, fill_all}
use native.Mathlib.Omega.{arith}
use Rattle.decoder.proofs.support.lose.Goals as goal

pub returns : goal.returns
returns c =
    let start : ℕ → ℕ = λ e. cond (ones c.args.loss.now e) 2 0 in
    let p : c.loop-e.e ≡ length c.args.support.now = omega (arith, c.requires) in
    fill_all _ _ _ (subst (λ k. Filled start c.args.support.now k c.loop-e.support) p c.loop-e.invariant) ∙ ap (λ n. values n start) (sym c.requires)
