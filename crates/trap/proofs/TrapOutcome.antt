-- The outcome of the search for a trap from that of the distance, which shows a shortest winding loop, and of the search for a smaller set.
-- Assumes nothing.
use Prim.Native.Nat.{ℕ}
use mathlib.Core.Path.{◌≡◌, refl, sym, ap, subst, ◌∙◌}
use mathlib.Core.List.{List}
use mathlib.Core.Option.{Option, none, some}
use Rattle.model.specs.declared.refusal.Refusal.{Refusal}
use Rattle.model.specs.Board.{Board}
use Rattle.model.specs.Distance.{fewest}
use Rattle.model.specs.Refusals.{trap_refusal}
use Rattle.model.specs.Outcomes.{distance_of, distance_answer, Shows, Measures}
use Rattle.model.specs.TrapOutcomes.{trap_of, trap_answer, SetsTrap}
use Rattle.model.proofs.Contradiction.{zero_one}
use Rattle.theory.proofs.Traps.{loopless_untrapped, none_trap}
use Rattle.trap.specs.Searching.{ShowsShortest, ShowsSmallest}
use Rattle.trap.proofs.SoundTraps.{passed_trap}
use Rattle.trap.proofs.TrapTests.{trap_measurable}
use Rattle.model.specs.Answers.{Distance}
use Rattle.std.specs.Prelude.{Ok, Err, Some, None}

module _ (B : Board) (loss set : List ℕ) where
  pub refused_outcome : (n : Refusal) → trap_refusal B loss set ≡ some n → SetsTrap B loss set (Err n) set
  unfolding trap_answer
  refused_outcome n is = record { result = rw is; shown = refl }

  module _ (passed : trap_refusal B loss set ≡ none) {a : Distance} {old : List ℕ} (m : Measures B set a old) where
    measured : a ≡ distance_of (fewest B)
    unfolding distance_answer
    measured = m.result ∙ rw (trap_measurable B loss set passed)

    -- no loop winds
    pub nothing_outcome : a ≡ Ok None → SetsTrap B loss set (Ok None) old
    nothing_outcome is = go (fewest B) refl
      where
        go : (o : Option ℕ) → fewest B ≡ o → SetsTrap B loss set (Ok None) old
        go none p =
            record {
              result = sym (passed_trap B loss set passed ∙ ap trap_of (none_trap B loss (loopless_untrapped B loss p)));
              shown = subst (λ x. Shows B set x old) is m.loop;
            }
        go (some d) p = let q : (Ok None) ≡ Ok (Some d) = sym is ∙ measured ∙ ap distance_of p in zero_one (cc)

    -- a shortest one is shown
    pub loop_shown : (d : ℕ) → a ≡ Ok (Some d) → ShowsShortest B d old
    loop_shown d is = go (fewest B) refl
      where
        go : (o : Option ℕ) → fewest B ≡ o → ShowsShortest B d old
        go none p = let q : Ok (Some d) ≡ Ok None = sym is ∙ measured ∙ ap distance_of p in zero_one (cc)
        go (some c) p =
            let q : Ok (Some d) ≡ Ok (Some c) = sym is ∙ measured ∙ ap distance_of p in
            let same : c ≡ d = cc in
            record { distance = p ∙ ap some same; shown = subst (λ x. Shows B set x old) is m.loop }

    pub smallest_outcome : (k : ℕ) (new : List ℕ) → ShowsSmallest B loss k new → SetsTrap B loss set (Ok (Some k)) new
    smallest_outcome k new w = record { result = sym (passed_trap B loss set passed ∙ ap trap_of w.least); shown = w.shown }

    -- what passed the tests is not refused by the distance
    pub refused_never : (n : Refusal) → a ≡ Err n → ⊥
    refused_never n is = go (fewest B) refl
      where
        go : (o : Option ℕ) → fewest B ≡ o → ⊥
        go none p = let q : Err n ≡ Ok None = sym is ∙ measured ∙ ap distance_of p in zero_one (cc)
        go (some d) p = let q : Err n ≡ Ok (Some d) = sym is ∙ measured ∙ ap distance_of p in zero_one (cc)
