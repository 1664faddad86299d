-- The outcome of the stack's builder, where a test fails and where all pass. Assumes nothing.
use Prim.Native.Nat.{ℕ}
use mathlib.Core.Path.{◌≡◌, refl, ap}
use mathlib.Core.List.{List}
use mathlib.Core.Option.{none, some}
use Rattle.model.specs.declared.refusal.Refusal.{Refusal}
use Rattle.std.specs.Prelude.{Ok, Err}
use Rattle.model.specs.Answers.{Built}
use Rattle.model.specs.Stack.{stack_vertices, stack_ends, stack_marks, stack_syndrome}
use Rattle.model.specs.Refusals.{stack_refusal}
use Rattle.model.specs.StackOutcomes.{stack_answer, BuildsStack, StacksSoundly}
use Rattle.stack.proofs.StackDemand3.{stack_soundly}

module _ (L R : ℕ) (readings ends marks syndrome : List ℕ) where
  -- what the call promises: its outcome, and that the syndrome written is that of every history's events
  abbrev pub Promised : Built → List ℕ → List ℕ → List ℕ → Type 0
  Promised r ends' marks' syndrome' =
      BuildsStack L R readings ends marks syndrome r ends' marks' syndrome' × StacksSoundly L R readings r ends' marks' syndrome'

  promised : (r : Built) (ends' marks' syndrome' : List ℕ) → BuildsStack L R readings ends marks syndrome r ends' marks' syndrome'
      → Promised r ends' marks' syndrome'
  promised r ends' marks' syndrome' w = (w, stack_soundly L R readings ends marks syndrome r ends' marks' syndrome' w)

  pub stack_refused : (n : Refusal) → stack_refusal L R readings ends marks syndrome ≡ some n → Promised (Err n) ends marks syndrome
  unfolding stack_answer
  stack_refused n p =
      promised (Err n) ends marks syndrome
      (record { result = rw p; ends_filled = refl; marks_filled = refl; syndrome_filled = refl })

  pub stack_built : (n : ℕ) (ends' marks' syndrome' : List ℕ) → stack_refusal L R readings ends marks syndrome ≡ none
      → (n ≡ stack_vertices L R) × (ends' ≡ stack_ends L R) × (marks' ≡ stack_marks L R) × (syndrome' ≡ stack_syndrome L R readings)
      → Promised (Ok n) ends' marks' syndrome'
  unfolding stack_answer
  stack_built n ends' marks' syndrome' p filled =
      promised (Ok n) ends' marks' syndrome'
      (record {
        result = rw p (ap Ok filled.0);
        ends_filled = filled.1;
        marks_filled = filled.2;
        syndrome_filled = filled.3;
      })
