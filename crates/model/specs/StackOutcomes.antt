-- Document 02, K1: the outcome of the stack's builder, what may be relied on of the bytes that it writes, and what decoding answers on them.
-- Assumes nothing.
use Rattle.std.specs.Prelude.{ℕ, ◌≡◌, List, Ok, Err}
use Rattle.model.specs.Sums.{Set, ones}
use Rattle.model.specs.Board.{Board, without_open}
use Rattle.model.specs.Syndrome.{HasSyndrome}
use Rattle.model.specs.Demand3.{Bounded}
use Rattle.model.specs.Stack.{stack_vertices, stack_ends, stack_marks, stack_syndrome}
use Rattle.model.specs.Histories.{History, ReadingsOf, events}
use Rattle.model.specs.Refusals.{stack_refusal}
use Rattle.model.specs.Outcomes.{answer, built_or}
use Rattle.model.specs.Answers.{Built, Decoded, key_with}

-- The builder answers with the number of vertices, R × L². Its buffers end as all ends, marks and syndrome bytes, or as they were where it
-- refuses.
unfoldable pub stack_answer : ℕ → ℕ → List ℕ → List ℕ → List ℕ → List ℕ → Built
stack_answer L R readings ends marks syndrome =
    answer (stack_refusal L R readings ends marks syndrome) Err (Ok (stack_vertices L R))

pub record BuildsStack (L R : ℕ) (readings ends marks syndrome : List ℕ) (r : Built) (ends' marks' syndrome' : List ℕ) : Type 0 where
  pub result : r ≡ stack_answer L R readings ends marks syndrome
  pub ends_filled : ends' ≡ built_or r (stack_ends L R) ends
  pub marks_filled : marks' ≡ built_or r (stack_marks L R) marks
  pub syndrome_filled : syndrome' ≡ built_or r (stack_syndrome L R readings) syndrome

-- What a class may rely on, of the board and the syndrome that were written: it is that of the events of every history with these readings.
pub record StacksSoundly (L R : ℕ) (readings : List ℕ) (r : Built) (ends' marks' syndrome' : List ℕ) : Type 0 where
  pub events_lit : (n : ℕ) → r ≡ Ok n → (h : History L R) → ReadingsOf L R h readings
      → HasSyndrome (without_open n ends' marks') (events L R h) (ones syndrome')

-- Demand 3 for one set E, the events of a history: decoding's answer r is a key, its correction C has the syndrome, and the bounds hold of
-- its growths and of E.
pub record KeyFor (B : Board) (S lost : Set) (r : Decoded) (C E : Set) : Type 0 where
  pub growths : ℕ
  pub edges : ℕ
  pub key : r ≡ key_with growths edges
  pub met : HasSyndrome B C S
  pub bounded : Bounded B lost C growths E
