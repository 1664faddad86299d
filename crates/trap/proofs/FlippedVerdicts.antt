-- The verdict on a set, on the sheet that is handed out after its edges were flipped: same or wound, by what it and the correction cross
-- together; it is wound exactly where the set is a trap. Assumes nothing.
use Prim.Native.Nat.{ℕ}
use mathlib.Core.Path.{◌≡◌, refl, sym, ap, ◌∙◌}
use mathlib.Core.Bool.{Bool, true, false, not, false≢true}
use mathlib.Core.List.{List}
use lib.Dec.{eqb}
use Rattle.model.specs.declared.answers.Verdict.{Verdict}
use Rattle.model.specs.declared.answers.Verdict.TheVariants.{Wound}
use Rattle.model.specs.Sums.{ones, bytes}
use Rattle.model.specs.Board.{Board, Sheet, sheet_of, ValidBytes, edges}
use Rattle.model.specs.Syndrome.{syndrome}
use Rattle.model.specs.Winding.{crossings, together}
use Rattle.model.specs.Decoding.{corrected}
use Rattle.model.specs.Verdict.{compared, judged_at, judged}
use Rattle.model.specs.Outcomes.{verdict_answer}
use Rattle.model.specs.Traps.{flipped_sheet, traps}
use Rattle.theory.proofs.VerdictGround.{winds_together, has_differs}
use Rattle.theory.proofs.Traps.{flipped_lit, flipped_has, flipped_valid, flipped_even, flipped_corrected}
use Rattle.board.proofs.Calls.{passes_verdict}
use Rattle.verdict.specs.Judging.{is_wound, Compares}
use Rattle.verdict.proofs.VerdictAnswers.{passed_verdict, judged_verdict}
use Rattle.trap.specs.Settable.{Settable}

module _ (B : Board) (loss : List ℕ) (s : Settable B loss) (flipped : List ℕ) (valid : ValidBytes (edges B) flipped) where
  abbrev X : Sheet
  X = flipped_sheet B loss (ones flipped)

  abbrev crossed : ℕ
  crossed = crossings B (together (ones flipped) (corrected X))

  flipped_verdict : verdict_answer X flipped ≡ compared crossed
  unfolding judged
  flipped_verdict =
      passed_verdict X flipped (passes_verdict X flipped (record { sheet = flipped_valid B loss (ones flipped) s.board s.losses; bytes = valid }))
      ∙ judged_verdict X flipped (flipped_even B loss (ones flipped) s.board.inside)
      ∙ ap (λ o. judged_at o crossed) (has_differs B (flipped_lit B loss (ones flipped)) (ones flipped) (flipped_has B loss (ones flipped)))

  trap_crosses : traps B loss (ones flipped) ≡ not (eqb crossed 0)
  unfolding traps
  trap_crosses =
      winds_together B (ones flipped) (corrected X) (flipped_lit B loss (ones flipped)) (flipped_has B loss (ones flipped))
      (flipped_corrected B loss (ones flipped) s.board.inside)

  pub trap_verdict : traps B loss (ones flipped) ≡ true → verdict_answer X flipped ≡ Wound crossed
  trap_verdict p = flipped_verdict ∙ go (eqb crossed 0) refl
    where
      go : (t : Bool) → eqb crossed 0 ≡ t → compared crossed ≡ Wound crossed
      go true q = absurd (false≢true (sym (trap_crosses ∙ ap not q) ∙ p))
      go false q = rw q

  wound_trap : is_wound (verdict_answer X flipped) ≡ traps B loss (ones flipped)
  wound_trap = ap is_wound flipped_verdict ∙ go (eqb crossed 0) refl ∙ sym trap_crosses
    where
      go : (t : Bool) → eqb crossed 0 ≡ t → is_wound (compared crossed) ≡ not (eqb crossed 0)
      go true q = rw q
      go false q = rw q

  -- The same where the syndrome stands in other bytes
  module _ {lit : List ℕ} (is : lit ≡ bytes B.vertices (syndrome B (ones flipped))) {support correction : List ℕ} where
    pub compared_trap : {r : Verdict} {support' correction' : List ℕ} → Compares (sheet_of B lit loss) flipped support correction r support' correction'
        → is_wound r ≡ traps B loss (ones flipped)
    compared_trap c = ap is_wound (c.judges.result ∙ ap (λ l. verdict_answer (sheet_of B l loss) flipped) is) ∙ wound_trap
