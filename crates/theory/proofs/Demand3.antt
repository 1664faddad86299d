-- Demand 3 whole, over decoding's own result: "no correction" exactly when no set of edges has the syndrome; otherwise the correction
-- has it, and for every set that has it the growths are few and the correction does not wind with it where every winding loop is large.
-- Assumes nothing.
use Prim.Native.Nat.{ℕ}
use mathlib.Core.Path.{◌≡◌, ap, ◌∙◌}
use mathlib.Core.List.{List}
use mathlib.Core.Option.{none}
use Rattle.model.specs.Sums.{Set, ones, bytes}
use Rattle.model.specs.Board.{Board, Inside, Sheet, ValidSheet, edges}
use Rattle.model.specs.Syndrome.{HasSyndrome}
use Rattle.model.specs.Growth.{full, weighted}
use Rattle.model.specs.Decoding.{smallest_odd, corrected}
use Rattle.model.specs.Refusals.{decode_refusal}
use Rattle.model.specs.Outcomes.{key_or_none, key_or, Decodes}
use Rattle.model.specs.Demand3.{Bounded, Demand3}
use Rattle.model.proofs.Contradiction.{zero_one}
use Rattle.model.proofs.ListLaws.{ones_bytes}
use Rattle.theory.proofs.GrowthRun.{Feeds, Reached}
use Rattle.theory.proofs.WeightedGrowth.{weighted_feeds}
use Rattle.theory.proofs.Forests.{Within}
use Rattle.theory.proofs.GrowthBound.{growth_bound}
use Rattle.theory.proofs.NotWinding.{not_winding}
use Rattle.theory.proofs.Decodings.{passed_answer, key_answer, key_reached}
use Rattle.theory.proofs.SoundKeys.{Cases, IsCorrection, is_met, is_inside, sound_key}
use Rattle.model.specs.Answers.{Decoded, key_with}
use Rattle.std.specs.Prelude.{Ok, Err}

-- the bounds, for any correction in the full edges that weighted growth reached
pub reached_bounded : (B : Board) → Inside B → (S lost C : Set) {s : List ℕ} {g : ℕ} → Reached B (weighted B S) lost s g → Within B C (full s)
    → HasSyndrome B C S
    → (E : Set) → HasSyndrome B E S → Bounded B lost C g E
reached_bounded B r S lost C c sub has E hasE =
    record {
      few_growths = growth_bound B r S lost (weighted B S) (weighted_feeds B S) E hasE c;
      unwound = not_winding B r S lost E C hasE has c sub;
    }

growths_of : Decoded → ℕ
growths_of (Ok k) = k.growths
growths_of (Err n) = 0

-- a key is no refusal
decoded_cases : Cases Err key_with
unfolding growths_of
decoded_cases = record { apart = λ g k n p. zero_one (cc); count = λ g k h j p. ap growths_of p }

-- Demand 3.
pub demand3 : (X : Sheet) → ValidSheet X → (r : Decoded) (C : Set) → r ≡ key_or_none X → IsCorrection weighted X C
    → Demand3 X.board (ones X.syndrome) (ones X.loss) r C
unfolding key_or_none
demand3 X valid r C result is =
    sound_key weighted X range valid.unlit feeds Err key_with decoded_cases C is (Bounded X.board (ones X.loss) C)
    (λ p. reached_bounded X.board range (ones X.syndrome) (ones X.loss) C (key_reached weighted X)
    (is_inside weighted X range valid.unlit feeds C is p) (is_met weighted X range valid.unlit feeds C is p))
    r result
  where
    range : Inside X.board
    range = valid.board.inside

    feeds : Feeds X.board (ones X.syndrome) (weighted X.board (ones X.syndrome))
    feeds = weighted_feeds X.board (ones X.syndrome)

-- Whatever meets decoding's outcome on a sheet that passes its tests meets demand 3, by its result and the correction bytes it leaves.
pub decodes_demand3 : (X : Sheet) (support correction : List ℕ) (r : Decoded) (support' correction' : List ℕ) → ValidSheet X
    → decode_refusal X support correction ≡ none
    → Decodes X support correction r support' correction' → Demand3 X.board (ones X.syndrome) (ones X.loss) r (ones correction')
decodes_demand3 X support correction r support' correction' valid passed d =
    demand3 X valid r (ones correction') result
    (record { at = λ p e h. ap (λ l. ones l e) (same p) ∙ ones_bytes (edges X.board) (corrected X) e h })
  where
    result : r ≡ key_or_none X
    result = d.result ∙ passed_answer X support correction passed

    same : smallest_odd X.board (ones X.syndrome) ≡ none → correction' ≡ bytes (edges X.board) (corrected X)
    same p =
        d.correction_bytes ∙ ap (λ x. key_or x (bytes (edges X.board) (corrected X)) correction) (result ∙ key_answer X p)
