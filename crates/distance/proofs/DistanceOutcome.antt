-- What `distance` answers and leaves in the lent buffer: a refusal and what was there, or what the walks found on the identified board,
-- which has the distance and the loops of the board. Assumes nothing.
use Prim.Native.Nat.{ℕ, ◌≤◌}
use mathlib.Core.Path.{◌≡◌, refl, sym, ap, ◌∙◌}
use mathlib.Core.List.{List, [], ◌++◌, append-nil}
use mathlib.Core.Option.{none, some}
use native.Mathlib.Omega.{arith}
use lib.ListN.{length, take, drop}
use lib.Seq.{drop-length}
use Rattle.std.specs.Prelude.{Option, Some, None, Ok, Err, MatchOption, IsSomeAnd}
use Rattle.model.specs.declared.refusal.Refusal.{Refusal}
use Rattle.model.specs.Board.{Board, edges}
use Rattle.model.specs.Distance.{fewest}
use Rattle.model.specs.Identified.{identified}
use Rattle.model.specs.Refusals.{distance_refusal}
use Rattle.model.specs.Outcomes.{distance_answer, Measures}
use Rattle.theory.proofs.Identified.{fewest_identified, shows_identified}
use Rattle.board.proofs.Calls.{ForDistance, distance_passes}
use Rattle.distance.specs.Found.{Shortest}

-- a number that is found is the same in a wider type
pub same_number : (o r : Option ℕ) → MatchOption o (r ≡ None) (λ x. IsSomeAnd r (λ y. y ≡ x)) → r ≡ o
same_number None r p = p
same_number (Some x) (Some y) p = ap Some p
same_number (Some x) None p = absurd p

module _ (B : Board) (shown : List ℕ) where
  pub refused_measures : {n : Refusal} → distance_refusal B shown ≡ some n → Measures B shown (Err n) shown
  unfolding distance_answer
  refused_measures p = record { result = rw p; loop = refl }

  module _ (p : distance_refusal B shown ≡ none) (best : Option ℕ) (found : List ℕ) (s : Shortest (identified B) best found) where
    lent : ForDistance B shown
    lent = distance_passes B shown p

    -- a byte for each edge: there is room for them, and they are all that the buffer holds
    pub copy_fits : (edges B ≤ length found) × (edges B ≤ length shown)
    copy_fits = (omega (arith, s.long, lent.board.inside.edges_limited), omega (arith, lent.shown_long))

    whole : take (edges B) found ++ drop (edges B) shown ≡ take (edges B) found
    whole =
        let nothing_left : drop (edges B) shown ≡ [] = ap (λ k. drop k shown) (sym lent.shown_long) ∙ drop-length shown in
        rw nothing_left (append-nil (take (edges B) found))

    pub found_measures : Measures B shown (Ok best) (take (edges B) found ++ drop (edges B) shown)
    unfolding distance_answer
    found_measures = rw whole (go best refl)
      where
        same : fewest B ≡ fewest (identified B)
        same = sym (fewest_identified B lent.board.inside)

        go : (b : Option ℕ) → best ≡ b → Measures B shown (Ok b) (take (edges B) found)
        go None q = record { result = rw (p, same, s.none q); loop = s.blank q }
        go (Some d) q =
            record { result = rw (p, same, s.distance d q); loop = shows_identified B lent.board.inside d (take (edges B) found) (s.loop d q) }
