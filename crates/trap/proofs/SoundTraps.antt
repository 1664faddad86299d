-- What an examiner may rely on follows from the outcome of the search for a trap. Assumes nothing.
use Prim.Native.Nat.{ℕ, ◌<◌}
use mathlib.Core.Path.{◌≡◌, refl, sym, ap, subst, ◌∙◌}
use mathlib.Core.Bool.{true, false≢true}
use mathlib.Core.List.{List}
use mathlib.Core.Option.{Option, none, some}
use lib.ListN.{length}
use Rattle.model.specs.declared.refusal.Refusal.{Refusal}
use Rattle.model.specs.Sums.{◌⊕◌, ones, bytes}
use Rattle.model.specs.Board.{Board, Sheet, ValidBytes, edges}
use Rattle.model.specs.Winding.{winds, together, size}
use Rattle.model.specs.Decoding.{growths, corrected}
use Rattle.model.specs.Distance.{fewest}
use Rattle.model.specs.Traps.{flipped_sheet, traps, fewest_trap}
use Rattle.model.specs.Refusals.{trap_refusal}
use Rattle.model.specs.Outcomes.{key_or, Decodes}
use Rattle.model.specs.TrapOutcomes.{trap_of, trap_answer, ShowsTrap, Sets, SetsTrap, Misled, Weighed, TrapsSoundly}
use Rattle.model.proofs.Contradiction.{zero_one}
use Rattle.model.proofs.SumLaws.{count_cong}
use Rattle.model.proofs.ListLaws.{ones_bytes, bytes_valid}
use Rattle.theory.proofs.CrossedLines.{winds_cong}
use Rattle.theory.proofs.Decodings.{passed_answer, key_answer}
use Rattle.theory.proofs.Traps.{flipped_valid, flipped_even, traps_cong, trap_heavy, trap_least, trap_none, none_trap, loopless_untrapped, untrapped_loopless}
use Rattle.theory.proofs.TrapHalves.{trap_half}
use Rattle.board.proofs.Calls.{passes_decode}
use Rattle.trap.specs.Settable.{Settable}
use Rattle.trap.proofs.FlippedVerdicts.{trap_verdict}
use Rattle.model.specs.Answers.{Decoded, Trap, key_with}
use Rattle.std.specs.Prelude.{Ok, Err, Some, None}

-- A set that is shown, by its bytes

module _ (B : Board) (loss : List ℕ) (k : ℕ) (l : List ℕ) (w : ShowsTrap B loss k l) where
  shown_alike : (e : ℕ) → e < edges B → ones l e ≡ w.set e
  shown_alike e h = ap (λ x. ones x e) w.written ∙ ones_bytes (edges B) w.set e h

  shown_traps : traps B loss (ones l) ≡ true
  shown_traps = traps_cong B loss (ones l) w.set shown_alike ∙ w.trap

  shown_size : size B (ones l) ≡ k
  shown_size = count_cong (edges B) (ones l) w.set shown_alike ∙ w.fewest

  shown_valid : ValidBytes (edges B) l
  shown_valid = rw w.written (bytes_valid (edges B) w.set)

module _ (B : Board) (loss : List ℕ) (s : Settable B loss) (l : List ℕ) (trapped : traps B loss (ones l) ≡ true) where
  -- whatever decodes its sheet
  abbrev X : Sheet
  X = flipped_sheet B loss (ones l)

  key_given : (support correction : List ℕ) (q : Decoded) (support' correction' : List ℕ) → length support ≡ edges B → length correction ≡ edges B
      → Decodes X support correction q support' correction' → q ≡ key_with (growths X) (size B (corrected X))
  key_given support correction q support' correction' long also d =
      let sheet = flipped_valid B loss (ones l) s.board s.losses in
      let passed = passes_decode X support correction (record { sheet = sheet; support_long = long; correction_long = also }) in
      d.result ∙ passed_answer X support correction passed ∙ key_answer X (flipped_even B loss (ones l) s.board.inside)

  key_winds : (correction q' : List ℕ) (q : Decoded) → q ≡ key_with (growths X) (size B (corrected X))
      → q' ≡ key_or q (bytes (edges B) (corrected X)) correction → winds B (together (ones l) (ones q')) ≡ true
  unfolding traps
  key_winds correction q' q is written =
      winds_cong B _ (together (ones l) (corrected X))
      (λ e h. ap (λ b. ones l e ⊕ b)
      (ap (λ x. ones x e) (written ∙ ap (λ x. key_or x (bytes (edges B) (corrected X)) correction) is) ∙ ones_bytes (edges B) (corrected X) e h))
      ∙ trapped

  misled : ValidBytes (edges B) l → Misled B loss l
  misled valid =
      record {
        key = λ support correction q support' correction' long also d.
            let is = key_given support correction q support' correction' long also d in
            (is, key_winds correction correction' q is d.correction_bytes);
        verdict = trap_verdict B loss s l valid trapped;
      }

  weighed_trap : (k : ℕ) → fewest_trap B loss ≡ some k → Weighed B (ones loss) (ones l) k
  weighed_trap k least = go (fewest B) refl
    where
      go : (o : Option ℕ) → fewest B ≡ o → Weighed B (ones loss) (ones l) k
      go none p = absurd (false≢true (sym (loopless_untrapped B loss p (ones l)) ∙ trapped))
      go (some d) p =
          record {
            distance = d;
            is_distance = p;
            no_smaller = trap_heavy B loss s.board.inside (ones l) d trapped p;
            half = trap_half B s.board.inside loss k d least p;
          }

-- The answer, where nothing that is lent is refused

module _ (B : Board) (loss set : List ℕ) (passed : trap_refusal B loss set ≡ none) where
  pub passed_trap : trap_answer B loss set ≡ trap_of (fewest_trap B loss)
  unfolding trap_answer
  passed_trap = rw passed

  fewest_given : (k : ℕ) → trap_answer B loss set ≡ Ok (Some k) → fewest_trap B loss ≡ some k
  fewest_given k is = go (fewest_trap B loss) refl
    where
      go : (o : Option ℕ) → fewest_trap B loss ≡ o → o ≡ some k
      go none p = let q : (Ok None) ≡ Ok (Some k) = sym (passed_trap ∙ ap trap_of p) ∙ is in zero_one (cc)
      go (some j) p = let q : Ok (Some j) ≡ Ok (Some k) = sym (passed_trap ∙ ap trap_of p) ∙ is in let same : j ≡ k = cc in ap some same

  nothing_given : trap_answer B loss set ≡ Ok None → fewest_trap B loss ≡ none
  nothing_given is = go (fewest_trap B loss) refl
    where
      go : (o : Option ℕ) → fewest_trap B loss ≡ o → o ≡ none
      go none p = refl
      go (some j) p = let q : Ok (Some j) ≡ Ok None = sym (passed_trap ∙ ap trap_of p) ∙ is in zero_one (cc)

module _ (B : Board) (loss set : List ℕ) (r : Trap) (set' : List ℕ) (w : SetsTrap B loss set r set') where
  -- a refusal shows nothing
  refused_sound : (n : Refusal) → trap_refusal B loss set ≡ some n → r ≡ Err n → TrapsSoundly B loss set r set'
  refused_sound n is q =
      record {
        edges_shown = λ k p. zero_one (cc);
        misleads = λ k p. zero_one (cc);
        smallest = λ k p. zero_one (cc);
        weighed = λ k p. zero_one (cc);
        none_exactly = λ p. zero_one (cc);
        no_loop = λ p. zero_one (cc);
      }

  passed_sound : trap_refusal B loss set ≡ none → Settable B loss → TrapsSoundly B loss set r set'
  passed_sound passed s =
      record {
        edges_shown = λ k p. shown_size B loss k set' (shown k p);
        misleads = λ k p. misled B loss s set' (shown_traps B loss k set' (shown k p)) (shown_valid B loss k set' (shown k p));
        smallest = λ k p. (trap_least B loss k (given k p)).least;
        weighed = λ k p. weighed_trap B loss s set' (shown_traps B loss k set' (shown k p)) k (given k p);
        none_exactly = λ q. (λ p. trap_none B loss (nothing p), λ out. none_answer (none_trap B loss out));
        no_loop = λ q. (λ p. untrapped_loopless B loss (trap_none B loss (nothing p)), λ out. none_answer (none_trap B loss (loopless_untrapped B loss out)));
      }
    where
      shown : (k : ℕ) → r ≡ Ok (Some k) → ShowsTrap B loss k set'
      shown k p = subst (λ x. Sets B loss set x set') p w.shown

      given : (k : ℕ) → r ≡ Ok (Some k) → fewest_trap B loss ≡ some k
      given k p = fewest_given B loss set passed k (sym w.result ∙ p)

      nothing : r ≡ Ok None → fewest_trap B loss ≡ none
      nothing p = nothing_given B loss set passed (sym w.result ∙ p)

      none_answer : fewest_trap B loss ≡ none → r ≡ Ok None
      none_answer p = w.result ∙ passed_trap B loss set passed ∙ ap trap_of p

  -- whatever meets the outcome
  pub sets_sound : (trap_refusal B loss set ≡ none → Settable B loss) → TrapsSoundly B loss set r set'
  unfolding trap_answer
  sets_sound settable = go (trap_refusal B loss set) refl
    where
      go : (o : Option Refusal) → trap_refusal B loss set ≡ o → TrapsSoundly B loss set r set'
      go none p = passed_sound p (settable p)
      go (some n) p = refused_sound n p (w.result ∙ rw p)
