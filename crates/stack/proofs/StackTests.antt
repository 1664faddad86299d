-- The tests of the stack's builder one after the other: 11 and 15, then 3, then 7. Assumes nothing.
use Prim.Native.Nat.{ℕ, ◌*◌}
use mathlib.Core.Path.{◌≡◌}
use mathlib.Core.Bool.{true, ◌&&◌}
use mathlib.Core.List.{List}
use borrow.Author.Tests.{eqb-true}
use lib.ListN.{length}
use Rattle.model.specs.Sums.{or_else}
use Rattle.model.specs.Stack.{stack_vertices, stack_edges}
use Rattle.model.specs.Refusals.{refusal_of, sized, stack_sized, layer_rules, reading_rules, stack_refusal}
use Rattle.model.proofs.Xor.{and_left, and_right}
use Rattle.model.proofs.RuleLists.{refusal_append}

module _ (L R : ℕ) (readings ends marks syndrome : List ℕ) where
  pub stack_tests : stack_refusal L R readings ends marks syndrome
      ≡ or_else (refusal_of (layer_rules L R)) (refusal_of (reading_rules L R readings ends marks syndrome))
  unfolding stack_refusal
  stack_tests = refusal_append (layer_rules L R) (reading_rules L R readings ends marks syndrome)

  -- lengths that fit, one by one
  module _ (fit : stack_sized L R readings ends marks syndrome ≡ true) where
    bytes_fit : (sized readings (stack_vertices L R) && sized syndrome (stack_vertices L R)) ≡ true
    bytes_fit = and_left (sized readings (stack_vertices L R) && sized syndrome (stack_vertices L R)) _ fit

    lists_fit : (sized ends (2 * stack_edges L R) && sized marks (stack_edges L R)) ≡ true
    lists_fit = and_right (sized readings (stack_vertices L R) && sized syndrome (stack_vertices L R)) _ fit

    pub readings_long : length readings ≡ stack_vertices L R
    readings_long = eqb-true _ _ (and_left (sized readings (stack_vertices L R)) _ bytes_fit)

    pub syndrome_long : length syndrome ≡ stack_vertices L R
    syndrome_long = eqb-true _ _ (and_right (sized readings (stack_vertices L R)) _ bytes_fit)

    pub ends_long : length ends ≡ 2 * stack_edges L R
    ends_long = eqb-true _ _ (and_left (sized ends (2 * stack_edges L R)) _ lists_fit)

    pub marks_long : length marks ≡ stack_edges L R
    marks_long = eqb-true _ _ (and_right (sized ends (2 * stack_edges L R)) _ lists_fit)
