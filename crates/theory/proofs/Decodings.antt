-- What decoding answers once its tests are passed, and what it writes where there is a correction, be it by weighted growth or in rounds:
-- it lies in the forest of the full edges, and has the syndrome put.
-- Assumes nothing.
use Prim.Native.Nat.{ℕ}
use mathlib.Core.Path.{◌≡◌}
use mathlib.Core.List.{List}
use mathlib.Core.Option.{none, some}
use Rattle.model.specs.declared.refusal.Refusal.{Refusal}
use Rattle.model.specs.Sums.{Set, ones}
use Rattle.model.specs.Board.{Board, Inside, Unlit, Sheet}
use Rattle.model.specs.Syndrome.{HasSyndrome}
use Rattle.model.specs.Winding.{size}
use Rattle.model.specs.Growth.{full, clusters, Policy}
use Rattle.model.specs.Forest.{forest}
use Rattle.model.specs.Decoding.{smallest_odd, grown_by, peeled, growths, corrected}
use Rattle.model.specs.Refusals.{none_at, odd_part_test, decode_refusal}
use Rattle.model.specs.Outcomes.{answer, key_or_none, decode_answer}
use Rattle.theory.proofs.GrowthRun.{NoneOdd, Feeds, Reached, grown_ends}
use Rattle.theory.proofs.Forests.{Within, forest_inside}
use Rattle.theory.proofs.OddEnds.{correction_in_forest, correction_has_syndrome}
use Rattle.theory.proofs.GrowthBound.{growth_ends}
use Rattle.model.specs.Answers.{key_with}
use Rattle.std.specs.Prelude.{Err}

-- The answer: number 10 with the smallest vertex of all odd parts, or the key

pub passed_answer : (X : Sheet) (support correction : List ℕ) → decode_refusal X support correction ≡ none
    → decode_answer X support correction ≡ key_or_none X
unfolding decode_answer
passed_answer X support correction passed = rw passed

pub odd_answer : {A : Type 0} (refused : Refusal → A) (key : A) (X : Sheet) (v : ℕ) → smallest_odd X.board (ones X.syndrome) ≡ some v
    → answer (odd_part_test X) refused key ≡ refused (none_at v)
odd_answer refused key X v p = rw p

pub even_answer : {A : Type 0} (refused : Refusal → A) (key : A) (X : Sheet) → smallest_odd X.board (ones X.syndrome) ≡ none
    → answer (odd_part_test X) refused key ≡ key
even_answer refused key X p = rw p

pub none_answer : (X : Sheet) (v : ℕ) → smallest_odd X.board (ones X.syndrome) ≡ some v → key_or_none X ≡ Err (none_at v)
unfolding key_or_none
none_answer X v p = odd_answer Err (key_with (growths X) (size X.board (corrected X))) X v p

pub key_answer : (X : Sheet) → smallest_odd X.board (ones X.syndrome) ≡ none
    → key_or_none X ≡ key_with (growths X) (size X.board (corrected X))
unfolding key_or_none
key_answer X p = even_answer Err (key_with (growths X) (size X.board (corrected X))) X p

-- The correction, by any policy

module _ (policy : Board → Set → Policy) (X : Sheet) where
  abbrev lit : Set
  lit = ones X.syndrome

  -- the key is reached by growths that the policy names
  pub key_reached : Reached X.board (policy X.board lit) (ones X.loss) (grown_by policy X).support (grown_by policy X).count
  unfolding grown_by
  key_reached = (grown_ends X.board (policy X.board lit) (ones X.loss)).reached

  pub corrected_in_forest : Within X.board (peeled X (grown_by policy X)) (forest X.board (full (grown_by policy X).support))
  unfolding peeled
  corrected_in_forest = correction_in_forest X.board (full (grown_by policy X).support) lit

  pub corrected_full : Within X.board (peeled X (grown_by policy X)) (full (grown_by policy X).support)
  corrected_full =
      record { holds = λ e h p. forest_inside X.board (full (grown_by policy X).support) e (corrected_in_forest.holds e h p) }

  module _
      (r : Inside X.board)
      (unlit : Unlit X.board lit)
      (f : Feeds X.board lit (policy X.board lit))
      (p : smallest_odd X.board lit ≡ none)
    where
      -- no cluster is odd in the end
      pub key_even : NoneOdd X.board (clusters X.board (grown_by policy X).support) lit
      unfolding grown_by
      key_even = growth_ends X.board r lit (ones X.loss) (policy X.board lit) f unlit p

      pub corrected_has_syndrome : HasSyndrome X.board (peeled X (grown_by policy X)) lit
      unfolding peeled clusters
      corrected_has_syndrome = correction_has_syndrome X.board r (full (grown_by policy X).support) lit key_even unlit
