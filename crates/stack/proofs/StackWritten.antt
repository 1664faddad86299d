-- Where the stack's builder answers with a vertex count, what it was lent passed its tests, and what it wrote is the stack and the
-- syndrome of its readings. Assumes nothing.
use Prim.Native.Nat.{ℕ}
use mathlib.Core.Path.{◌≡◌, refl, sym, ap, ap₂, ◌∙◌}
use mathlib.Core.List.{List}
use mathlib.Core.Option.{none, some}
use Rattle.std.specs.Prelude.{Ok, Err}
use Rattle.model.specs.Answers.{Built}
use Rattle.model.specs.Board.{without_open}
use Rattle.model.specs.Stack.{stack_vertices, stack_ends, stack_marks, stack, stack_syndrome}
use Rattle.model.specs.Refusals.{Test, stack_refusal}
use Rattle.model.specs.Outcomes.{answer, built_or}
use Rattle.model.specs.StackOutcomes.{stack_answer, BuildsStack}
use Rattle.model.proofs.Contradiction.{zero_one}
use Rattle.stack.specs.Lent.{ForStack}
use Rattle.stack.proofs.StackPasses.{stack_passes}

-- an answer with a vertex count: no test fails, and it is the count
record Counts (t : Test) (n m : ℕ) : Type 0 where
  passed : t ≡ none
  count : n ≡ m

counted : (t : Test) (n m : ℕ) → Ok n ≡ answer t Err (Ok m) → Counts t n m
counted none n m q = record { passed = refl; count = cc }
counted (some r) n m q = zero_one (cc)

pub record Written (L R : ℕ) (readings ends marks syndrome : List ℕ) (n : ℕ) (ends' marks' syndrome' : List ℕ) : Type 0 where
  pub lent : ForStack L R readings ends marks syndrome
  pub board : without_open n ends' marks' ≡ stack L R
  pub bytes : syndrome' ≡ stack_syndrome L R readings

pub stack_written : (L R : ℕ) (readings ends marks syndrome : List ℕ) (r : Built) (ends' marks' syndrome' : List ℕ)
    → BuildsStack L R readings ends marks syndrome r ends' marks' syndrome' → (n : ℕ) → r ≡ Ok n
    → Written L R readings ends marks syndrome n ends' marks' syndrome'
unfolding stack_answer stack
stack_written L R readings ends marks syndrome r ends' marks' syndrome' b n is =
    let c = counted (stack_refusal L R readings ends marks syndrome) n (stack_vertices L R) (sym is ∙ b.result) in
    let same_ends = b.ends_filled ∙ ap (λ x. built_or x (stack_ends L R) ends) is in
    let same-marks = b.marks_filled ∙ ap (λ x. built_or x (stack_marks L R) marks) is in
    record {
      lent = stack_passes L R readings ends marks syndrome c.passed;
      board = ap (λ k. without_open k ends' marks') c.count ∙ ap₂ (without_open (stack_vertices L R)) same_ends same-marks;
      bytes = b.syndrome_filled ∙ ap (λ x. built_or x (stack_syndrome L R readings) syndrome) is;
    }
