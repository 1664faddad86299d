-- What a decoding owes to the syndrome (model, SoundKey), for any policy that feeds odd clusters and any type of answer: "no correction"
-- exactly when no set of edges has the syndrome; otherwise the correction has it, lies inside the full edges, and there are at most 2s
-- growths.
-- Assumes nothing.
use Prim.Native.Nat.{ℕ, ◌*◌, ◌≤◌, ◌<◌}
use mathlib.Core.Path.{◌≡◌, refl, sym, ◌∙◌}
use mathlib.Core.Option.{Option, none, some}
use Rattle.model.specs.declared.refusal.Refusal.{Refusal}
use Rattle.model.specs.declared.refusal.Refusal.TheVariants.{NoCorrection}
use Rattle.model.specs.Sums.{Set, ones}
use Rattle.model.specs.Board.{Board, Inside, Unlit, Sheet, edges}
use Rattle.model.specs.Syndrome.{HasSyndrome}
use Rattle.model.specs.Winding.{size}
use Rattle.model.specs.Growth.{full, Policy}
use Rattle.model.specs.Decoding.{smallest_odd, grown_by, peeled}
use Rattle.model.specs.Demand3.{kept_edges, Unmet, SoundKey}
use Rattle.model.specs.Refusals.{none_at, odd_part_test}
use Rattle.model.specs.Outcomes.{answer}
use Rattle.theory.proofs.Syndromes.{has_syndrome_cong}
use Rattle.theory.proofs.Forests.{Within}
use Rattle.theory.proofs.NoCorrection.{no_correction_unmet}
use Rattle.theory.proofs.GrowthRun.{Feeds}
use Rattle.theory.proofs.GrowthBound.{growth_bound}
use Rattle.theory.proofs.Decodings.{odd_answer, even_answer, key_reached, corrected_full, corrected_has_syndrome}

-- the two ways to make an answer: none is made in both, and a key tells its count
pub record Cases {A : Type 0} (refused : Refusal → A) (key : ℕ → ℕ → A) : Type 0 where
  pub apart : (g k : ℕ) (n : Refusal) → key g k ≡ refused n → ⊥
  pub count : (g k h j : ℕ) → key g k ≡ key h j → g ≡ h

module _ {A : Type 0} (refused : Refusal → A) (key : ℕ → ℕ → A) (cases : Cases refused key) (B : Board) (S C : Set) (Each : ℕ → Set → Type 0) (r : A) where
  -- of an answer "no correction", and of a key
  refused_sound : (shown : ℕ) → r ≡ refused (none_at shown) → Unmet B S → SoundKey refused key B S C Each r
  refused_sound shown is unmet =
      record {
        none_exactly = (λ a. unmet, λ u. record { vertex = record { 0 = shown }; answer = is });
        met = λ g k q. absurd (cases.apart g k (none_at shown) (sym q ∙ is));
        bounded = λ g k q. absurd (cases.apart g k (none_at shown) (sym q ∙ is));
      }

  key_sound : (g k : ℕ) → r ≡ key g k → HasSyndrome B C S → ((E : Set) → HasSyndrome B E S → Each g E) → SoundKey refused key B S C Each r
  key_sound g k is has each =
      record {
        none_exactly = (λ a. absurd (cases.apart g k (NoCorrection a.vertex) (sym is ∙ a.answer)), λ unmet. absurd (unmet C has));
        met = λ h j q. has;
        bounded = λ h j q E hasE. rw (sym (cases.count g k h j (sym is ∙ q))) (each E hasE);
      }

-- C is the correction on the board's edges, where there is one
pub record IsCorrection (policy : Board → Set → Policy) (X : Sheet) (C : Set) : Type 0 where
  pub at : smallest_odd X.board (ones X.syndrome) ≡ none → (e : ℕ) → e < edges X.board → C e ≡ peeled X (grown_by policy X) e

module _
    (policy : Board → Set → Policy)
    (X : Sheet)
    (r : Inside X.board)
    (unlit : Unlit X.board (ones X.syndrome))
    (f : Feeds X.board (ones X.syndrome) (policy X.board (ones X.syndrome)))
  where
    abbrev B : Board
    B = X.board

    abbrev S : Set
    S = ones X.syndrome

    module _ (C : Set) (is : IsCorrection policy X C) (p : smallest_odd B S ≡ none) where
      pub is_met : HasSyndrome B C S
      is_met = has_syndrome_cong B C (peeled X (grown_by policy X)) S (is.at p) (corrected_has_syndrome policy X r unlit f p)

      pub is_inside : Within B C (full (grown_by policy X).support)
      is_inside = record { holds = λ e h q. (corrected_full policy X).holds e h (sym (is.at p e h) ∙ q) }

    -- at most two growths, or rounds, for each kept edge of a set that has the syndrome
    pub few_growths : (E : Set) → HasSyndrome B E S → (grown_by policy X).count ≤ 2 * kept_edges B (ones X.loss) E
    few_growths E has = growth_bound B r S (ones X.loss) (policy B S) f E has (key_reached policy X)

    -- The whole, from what is to hold of each set that has the syndrome.
    pub sound_key : {A : Type 0} (refused : Refusal → A) (key : ℕ → ℕ → A) → Cases refused key → (C : Set) → IsCorrection policy X C
        → (Each : ℕ → Set → Type 0) → (smallest_odd B S ≡ none → (E : Set) → HasSyndrome B E S → Each (grown_by policy X).count E)
        → (a : A) → a ≡ answer (odd_part_test X) refused (key (grown_by policy X).count (size B (peeled X (grown_by policy X))))
        → SoundKey refused key B S C Each a
    sound_key {A} refused key cases C is Each each a result = go (smallest_odd B S) refl
      where
        w : A
        w = key (grown_by policy X).count (size B (peeled X (grown_by policy X)))

        go : (o : Option ℕ) → smallest_odd B S ≡ o → SoundKey refused key B S C Each a
        go (some v) p =
            refused_sound refused key cases B S C Each a v (result ∙ odd_answer refused w X v p) (no_correction_unmet B r S v p)
        go none p = key_sound refused key cases B S C Each a _ _ (result ∙ even_answer refused w X p) (is_met C is p) (each p)
