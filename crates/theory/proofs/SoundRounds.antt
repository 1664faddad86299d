-- Document 02, K8: what may be relied on of decoding in rounds, over its own result and the bytes it wrote.
-- Assumes nothing.
use Prim.Native.Nat.{ℕ, ◌+◌, ◌*◌, ◌≤◌}
use mathlib.Core.Path.{◌≡◌, refl, sym, ap, ◌∙◌}
use mathlib.Core.Bool.{false}
use mathlib.Core.List.{List}
use mathlib.Core.Option.{Option, none, some}
use Rattle.model.specs.Sums.{Set, ones, bytes}
use Rattle.model.specs.Board.{Board, Inside, Unlit, Sheet, ValidSheet, edges}
use Rattle.model.specs.Syndrome.{HasSyndrome}
use Rattle.model.specs.Winding.{winds, together, size}
use Rattle.model.specs.Growth.{full, clusters}
use Rattle.model.specs.Rounds.{all_odd}
use Rattle.model.specs.Decoding.{smallest_odd, rounds, round_supports, round_corrected}
use Rattle.model.specs.Demand3.{lost_edges, kept_edges, EveryLoopAbove}
use Rattle.model.specs.Refusals.{none_at, decode_refusal}
use Rattle.model.specs.RoundsOutcomes.{rounds_or_none, rounds_answer, rounds_or, DecodesInRounds, SoundRounds}
use Rattle.model.proofs.Contradiction.{zero_one}
use Rattle.model.proofs.ListLaws.{ones_bytes}
use Rattle.theory.proofs.Syndromes.{Sealed}
use Rattle.theory.proofs.GrowthRun.{NoneOdd, Feeds}
use Rattle.theory.proofs.RoundGrowth.{rounds_feed}
use Rattle.theory.proofs.Decodings.{odd_answer, even_answer, key_reached, key_even, corrected_full, corrected_has_syndrome}
use Rattle.theory.proofs.RoundSpread.{rounds_few, rounds_unwound}
use Rattle.theory.proofs.SoundKeys.{Cases, IsCorrection, is_inside, few_growths, sound_key}
use Rattle.model.specs.Answers.{RoundsDecoded, rounds_with}
use Rattle.std.specs.Prelude.{Ok, Err}

-- Theorem: where there is a correction, the rounds end with no odd cluster.
pub rounds_even : (X : Sheet) → Inside X.board → Unlit X.board (ones X.syndrome) → smallest_odd X.board (ones X.syndrome) ≡ none
    → NoneOdd X.board (clusters X.board (round_supports X)) (ones X.syndrome)
rounds_even X r unlit = key_even all_odd X r unlit (rounds_feed X.board r (ones X.syndrome))

-- Theorem: of every set that has the syndrome, there are at most two rounds for each kept edge.
pub rounds_bound : (X : Sheet) → Inside X.board → Unlit X.board (ones X.syndrome) → (E : Set) → HasSyndrome X.board E (ones X.syndrome)
    → rounds X ≤ 2 * kept_edges X.board (ones X.loss) E
rounds_bound X r unlit = few_growths all_odd X r unlit (rounds_feed X.board r (ones X.syndrome))

-- Beyond what is promised: half as many where no vertex is open, and demand 3's rule on t + 2s.
module _ (X : Sheet) (r : Inside X.board) (E : Set) (has : HasSyndrome X.board E (ones X.syndrome)) where
  pub rounds_half : Sealed X.board → rounds X ≤ kept_edges X.board (ones X.loss) E
  rounds_half shut = rounds_few X.board r (ones X.syndrome) (ones X.loss) E has shut (key_reached all_odd X)

  pub rounds_apart : Unlit X.board (ones X.syndrome) → smallest_odd X.board (ones X.syndrome) ≡ none
      → EveryLoopAbove X.board (lost_edges X.board (ones X.loss) + 2 * kept_edges X.board (ones X.loss) E)
      → winds X.board (together E (round_corrected X)) ≡ false
  rounds_apart unlit p =
      rounds_unwound X.board r (ones X.syndrome) (ones X.loss) E has (round_corrected X)
      (corrected_has_syndrome all_odd X r unlit (rounds_feed X.board r (ones X.syndrome)) p) (key_reached all_odd X) (corrected_full all_odd X)

rounds_of : RoundsDecoded → ℕ
rounds_of (Ok k) = k.rounds
rounds_of (Err n) = 0

-- a key is no refusal
rounds_cases : Cases Err rounds_with
unfolding rounds_of
rounds_cases = record { apart = λ g k n p. zero_one (cc); count = λ g k h j p. ap rounds_of p }

-- the answer once the tests are passed
passed_rounds : (X : Sheet) (support correction : List ℕ) → decode_refusal X support correction ≡ none
    → rounds_answer X support correction ≡ rounds_or_none X
unfolding rounds_answer
passed_rounds X support correction passed = rw passed

module _
    (X : Sheet)
    (support correction : List ℕ)
    (r : RoundsDecoded)
    (support' correction' : List ℕ)
    (valid : ValidSheet X)
    (passed : decode_refusal X support correction ≡ none)
    (d : DecodesInRounds X support correction r support' correction')
  where
    abbrev B : Board
    B = X.board

    abbrev S : Set
    S = ones X.syndrome

    range : Inside B
    range = valid.board.inside

    feeds : Feeds B S (all_odd B S)
    feeds = rounds_feed B range S

    result : r ≡ rounds_or_none X
    result = d.result ∙ passed_rounds X support correction passed

    -- where no part is odd there is a key
    key : smallest_odd B S ≡ none → r ≡ rounds_with (rounds X) (size B (round_corrected X))
    unfolding rounds_or_none
    key p = result ∙ even_answer Err (rounds_with (rounds X) (size B (round_corrected X))) X p

    written : IsCorrection all_odd X (ones correction')
    written =
        record {
          at = λ p e h.
              ap (λ l. ones l e) (d.correction_bytes ∙ ap (λ x. rounds_or x (bytes (edges B) (round_corrected X)) correction) (key p))
              ∙ ones_bytes (edges B) (round_corrected X) e h;
        }

    -- and only there
    none_odd : (g k : ℕ) → r ≡ rounds_with g k → smallest_odd B S ≡ none
    unfolding rounds_or_none
    none_odd g k q = go (smallest_odd B S) refl
      where
        go : (o : Option ℕ) → smallest_odd B S ≡ o → smallest_odd B S ≡ none
        go none p = p
        go (some v) p =
            let is : rounds_with g k ≡ Err (none_at v)
            = sym q ∙ result ∙ odd_answer Err (rounds_with (rounds X) (size B (round_corrected X))) X v p in
            zero_one (cc)

    -- Whatever meets the outcome on a sheet that passes the tests may be relied on.
    pub rounds_sound : SoundRounds B S (ones X.loss) r (full support') (ones correction')
    unfolding rounds_or_none
    rounds_sound =
        record {
          key =
              sound_key all_odd X range valid.unlit feeds Err rounds_with rounds_cases (ones correction') written
              (λ rounds E. rounds ≤ 2 * kept_edges B (ones X.loss) E) (λ p. rounds_bound X range valid.unlit) r result;
          inside = λ g k q e h p.
              let even = none_odd g k q in
              let grown = d.support_bytes ∙ ap (λ x. rounds_or x (round_supports X) support) (key even) in
              ap (λ l. full l e) grown ∙ (is_inside all_odd X range valid.unlit feeds (ones correction') written even).holds e h p;
        }
