-- `game::loops::holds_less` meets its contract: the test is that of each edge of the board. Assumes nothing.
use Prim.Native.Nat.{◌-◌, ◌^◌}
use mathlib.Core.Path.{refl, ◌∙◌}
use mathlib.Core.Bool.{◌&&◌}
use native.Mathlib.Omega.{arith}
use borrow.Author.Rules.{rules}
use Rattle.std.proofs.Common.{tests}
use Rattle.std.proofs.lemmas.Iterator.{YieldsList-from_range}
use Rattle.std.proofs.lemmas.Iterator.Search.{any_from_yields_List}
use Rattle.model.specs.Sums.{ones}
use Rattle.model.specs.Words.{bit_of}
use Rattle.game.proofs.RangeTests.{any_below}
use Rattle.game.proofs.loops.holds_less.Goals as goal

pub returns : goal.returns
returns c =
    let a = c.args in
    any_from_yields_List (λ e. bit_of a.set e && ones a.loops.now (a.set - 2 ^ e)) _ _ _ c.any.ensures.ran
    (YieldsList-from_range 0 a.edges a.edges refl (omega arith)) (λ x b q k. search (rules, tests))
    ∙ any_below _ _
