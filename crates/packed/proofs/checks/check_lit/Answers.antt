-- `packed::checks::check_lit` meets its contract: each return has the facts of the tests that led to it. Assumes nothing.
use mathlib.Core.Path.{refl, sym, ap}
use mathlib.Core.Bool.{true, false}
use borrow.Author.Rules.{rules}
use Rattle.model.specs.WordRefusals.{word_rule, lit_refusal}
use Rattle.board.proofs.Searching.{answered}
use Rattle.packed.specs.Found.{word_found}
use Rattle.packed.proofs.WordTests.{lit_lengths}
use Rattle.packed.proofs.checks.check_lit.Goals as goal

pub returns-then-not-contains : goal.returns-then-not-contains
unfolding lit_refusal
returns-then-not-contains c = search rules

pub returns-then-not-sized-others : goal.returns-then-not-sized-others
returns-then-not-sized-others c = sym (lit_lengths _ _ _ _ false
    (search rules) (search rules) c.word_count.ensures
    c.if-not-sized-others.true)

pub returns-in-Some : goal.returns-in-Some
unfolding word_rule
returns-in-Some c = rw (
  lit_lengths _ _ _ _ true
      (search rules) (search rules) c.word_count.ensures
      c.if-not-sized-others.false,
  answered _ _ _ _ _ refl c.past_last.ensures (ap word_found c.in-Some.is),
)

pub returns : goal.returns
unfolding word_rule
returns c = rw (
  lit_lengths _ _ _ _ true
      (search rules) (search rules) c.word_count.ensures
      c.if-not-sized-others.false,
  answered _ _ _ _ _ refl c.past_last.ensures (ap word_found c.in_default.is),
)
