-- Demand 3 on the stack, of every history. The board and the syndrome that the builder writes are those of the events of every history with
-- these readings; so decoding answers them with a key whose bounds hold of those events, and with "no correction" exactly where no history
-- has these readings. Assumes nothing.
use Prim.Native.Nat.{ℕ, ◌/◌, ◌%◌}
use mathlib.Core.Path.{◌≡◌, refl, sym, subst₂, ◌∙◌}
use mathlib.Core.Bool.{false≢true}
use mathlib.Core.List.{List}
use mathlib.Core.Logic.{◌↔◌}
use mathlib.Core.Option.{Option, none, some}
use native.Mathlib.Omega.{arith}
use lib.ListN.{length}
use Rattle.std.specs.Prelude.{Ok, Err}
use Rattle.model.specs.Answers.{Built, Decoded}
use Rattle.model.specs.Sums.{ones}
use Rattle.model.specs.Board.{Sheet, ValidBytes, ValidSheet, without_open, sheet_of}
use Rattle.model.specs.Syndrome.{HasSyndrome}
use Rattle.model.specs.Winding.{size}
use Rattle.model.specs.Decoding.{smallest_odd, growths, corrected}
use Rattle.model.specs.Demand3.{AnswersNone, Demand3}
use Rattle.model.specs.Stack.{layer_vertices, stack_vertices, stack_edges, stack, layer_syndrome, stack_syndrome}
use Rattle.model.specs.Histories.{History, ReadingsOf, events, history_of}
use Rattle.model.specs.Refusals.{decode_refusal}
use Rattle.model.specs.Outcomes.{key_or_none, Decodes}
use Rattle.model.specs.StackOutcomes.{BuildsStack, StacksSoundly, KeyFor}
use Rattle.model.proofs.ListLaws.{bytes_valid}
use Rattle.theory.proofs.Decodings.{passed_answer, none_answer, key_answer}
use Rattle.theory.proofs.Demand3.{decodes_demand3}
use Rattle.board.proofs.Calls.{passes_decode}
use Rattle.stack.specs.Layers.{StackWithin}
use Rattle.stack.proofs.StackRows.{edge_total, stack_sealed}
use Rattle.stack.proofs.StackValid.{stack_valid}
use Rattle.stack.proofs.HistoryLaws.{events_syndrome, syndrome_readings}
use Rattle.stack.proofs.StackWritten.{Written, stack_written}

-- the events of every history with these readings have the syndrome that was written, on the board that was written
pub stack_soundly : (L R : ℕ) (readings ends marks syndrome : List ℕ) (r : Built) (ends' marks' syndrome' : List ℕ)
    → BuildsStack L R readings ends marks syndrome r ends' marks' syndrome' → StacksSoundly L R readings r ends' marks' syndrome'
stack_soundly L R readings ends marks syndrome r ends' marks' syndrome' b = record { events_lit = lit }
  where
    lit : (n : ℕ) → r ≡ Ok n → (h : History L R) → ReadingsOf L R h readings
        → HasSyndrome (without_open n ends' marks') (events L R h) (ones syndrome')
    lit n is h its =
        let w = stack_written L R readings ends marks syndrome r ends' marks' syndrome' b n is in
        subst₂ (λ B l. HasSyndrome B (events L R h) (ones l)) (sym w.board) (sym w.bytes)
        (events_syndrome L R w.lent.within h readings its)

-- the stack's syndrome bytes are valid
syndrome_valid : (L R : ℕ) (readings : List ℕ) → ValidBytes (stack_vertices L R) (stack_syndrome L R readings)
unfolding stack_syndrome
syndrome_valid L R readings =
    bytes_valid (stack_vertices L R) (λ u. layer_syndrome L readings (u / layer_vertices L) (u % layer_vertices L))

-- The stack with its syndrome and any loss is a valid sheet.
module _ (L R : ℕ) (w : StackWithin L R) (readings loss : List ℕ) (lost : ValidBytes (stack_edges L R) loss) where
  abbrev X : Sheet
  X = sheet_of (stack L R) (stack_syndrome L R readings) loss

  sheet_valid : ValidSheet X
  unfolding stack
  sheet_valid =
      record {
        board = stack_valid L R w;
        syndrome = syndrome_valid L R readings;
        loss = record { count = lost.count ∙ sym (edge_total L R); each = λ e h. lost.each e (omega (arith, edge_total L R)) };
        unlit = λ v h p. absurd (false≢true (sym ((stack_sealed L R).shut v h) ∙ p));
      }

  module _
      (support correction : List ℕ)
      (support_long : length support ≡ stack_edges L R)
      (correction_long : length correction ≡ stack_edges L R)
      (d : Decoded)
      (support' correction' : List ℕ)
      (decodes : Decodes X support correction d support' correction')
    where
      passes : decode_refusal X support correction ≡ none
      passes =
          passes_decode X support correction
          (record {
            sheet = sheet_valid;
            support_long = support_long ∙ sym (edge_total L R);
            correction_long = correction_long ∙ sym (edge_total L R);
          })

      owed : Demand3 (stack L R) (ones (stack_syndrome L R readings)) (ones loss) d (ones correction')
      owed = decodes_demand3 X support correction d support' correction' sheet_valid passes decodes

      -- a key for the events of every history with these readings
      key_for : (h : History L R) → ReadingsOf L R h readings
          → KeyFor (stack L R) (ones (stack_syndrome L R readings)) (ones loss) d (ones correction') (events L R h)
      key_for h its = go (smallest_odd (stack L R) (ones (stack_syndrome L R readings))) refl
        where
          has : HasSyndrome (stack L R) (events L R h) (ones (stack_syndrome L R readings))
          has = events_syndrome L R w h readings its

          answered : d ≡ key_or_none X
          answered = decodes.result ∙ passed_answer X support correction passes

          go : (o : Option ℕ) → smallest_odd (stack L R) (ones (stack_syndrome L R readings)) ≡ o
              → KeyFor (stack L R) (ones (stack_syndrome L R readings)) (ones loss) d (ones correction') (events L R h)
          go (some v) p =
              let no : AnswersNone Err d = record { vertex = record { 0 = v }; answer = answered ∙ none_answer X v p } in
              absurd (owed.none_exactly.0 no (events L R h) has)
          go none p =
              let key = answered ∙ key_answer X p in
              record {
                growths = growths X;
                edges = size (stack L R) (corrected X);
                key = key;
                met = owed.met _ _ key;
                bounded = owed.bounded _ _ key (events L R h) has;
              }

      -- "no correction" exactly where no history has them
      exactly : AnswersNone Err d ↔ ((h : History L R) → ReadingsOf L R h readings → ⊥)
      exactly = (
        λ none h its. owed.none_exactly.0 none (events L R h) (events_syndrome L R w h readings its),
        λ never. owed.none_exactly.1 (λ E has. never (history_of L R E) (syndrome_readings L R w E readings has)),
      )

-- The same of what the builder wrote, slice by slice, and of decoding's own result on it.
module _
    (L R : ℕ)
    (readings ends marks syndrome : List ℕ)
    (r : Built)
    (ends' marks' syndrome' : List ℕ)
    (built : BuildsStack L R readings ends marks syndrome r ends' marks' syndrome')
    (n : ℕ)
    (is : r ≡ Ok n)
    (loss support correction : List ℕ)
    (lost : ValidBytes (stack_edges L R) loss)
    (support_long : length support ≡ stack_edges L R)
    (correction_long : length correction ≡ stack_edges L R)
    (d : Decoded)
    (support' correction' : List ℕ)
    (decodes : Decodes (sheet_of (without_open n ends' marks') syndrome' loss) support correction d support' correction')
  where
    written : Written L R readings ends marks syndrome n ends' marks' syndrome'
    written = stack_written L R readings ends marks syndrome r ends' marks' syndrome' built n is

    on_stack : Decodes (sheet_of (stack L R) (stack_syndrome L R readings) loss) support correction d support' correction'
    on_stack =
        subst₂ (λ B l. Decodes (sheet_of B l loss) support correction d support' correction') written.board written.bytes decodes

    -- Demand 3 on the stack: for every history with these readings decoding answers with a key, and demand 3 holds for its events.
    pub stack_demand3 : (h : History L R) → ReadingsOf L R h readings
        → KeyFor (without_open n ends' marks') (ones syndrome') (ones loss) d (ones correction') (events L R h)
    stack_demand3 h its =
        subst₂ (λ B l. KeyFor B (ones l) (ones loss) d (ones correction') (events L R h)) (sym written.board) (sym written.bytes)
        (key_for L R written.lent.within readings loss lost support correction support_long correction_long d support' correction'
        on_stack h its)

    -- Number 10 is answered exactly where no history has these readings.
    pub none_exactly : AnswersNone Err d ↔ ((h : History L R) → ReadingsOf L R h readings → ⊥)
    none_exactly =
        exactly L R written.lent.within readings loss lost support correction support_long correction_long d support' correction'
        on_stack
