-- Not winding: where every winding loop has more than t + 2s edges, a set E with the syndrome and any set C of full edges with the same
-- syndrome do not wind together. In weighted growth one cluster grows at a time, and no open vertex is in it, so the books of Spreading
-- follow it on the identified board; what the growth bound leaves over pays for the edges of E that never became full. Nothing here rests
-- on which odd cluster grows.
-- Assumes nothing.
use Prim.Native.Nat.{ℕ, suc, ◌+◌, ◌*◌, ◌≤◌, ◌<◌}
use mathlib.Core.Path.{◌≡◌, refl, sym, ap, ◌∙◌, subst}
use mathlib.Core.Bool.{Bool, true, false, not, ◌&&◌, true≢false, false≢true}
use mathlib.Core.List.{List}
use native.Mathlib.Omega.{arith}
use borrow.Author.Tests.{eqb-true}
use Rattle.std.proofs.lemmas.Bool.{and_from}
use Rattle.model.specs.Sums.{Set, ◌⊕◌}
use Rattle.model.specs.Board.{Board, Inside, edges}
use Rattle.model.specs.Syndrome.{HasSyndrome}
use Rattle.model.specs.Winding.{winds, together, size}
use Rattle.model.specs.Components.{label}
use Rattle.model.specs.Growth.{start, full, clusters, swell, weighted}
use Rattle.model.specs.Identified.{glued, identified}
use Rattle.model.specs.Demand3.{lost_edges, kept_edges, EveryLoopAbove}
use Rattle.theory.proofs.Syndromes.{together_closed, Avoids}
use Rattle.theory.proofs.OddParts.{odd_avoids}
use Rattle.theory.proofs.Connected.{Connected}
use Rattle.theory.proofs.Components.{part_smallest}
use Rattle.theory.proofs.Forests.{Within}
use Rattle.theory.proofs.GrowthRun.{Reached, reached_holds}
use Rattle.theory.proofs.WeightedGrowth.{Chosen, weighted_chosen, weighted_feeds}
use Rattle.theory.proofs.GrowthBound.{growth_slack}
use Rattle.theory.proofs.Identified.{identified_sealed, glued_shut, glued_below, identified_inside, closed_identified, winds_identified, above_identified, connected_identified, swell_identified}
use Rattle.theory.proofs.Spreading.{OnePart, Spread, unspread, spreads, spread_unwound}

-- what grows in one part of the board and has no open vertex grows so on the identified board
pub spreads_identified : (B : Board) (r : Inside B) (lost : Set) {s : List ℕ} {g a : ℕ} {R : Set} → Spread (identified B) lost s g → Avoids B R
    → OnePart B s R a → Spread (identified B) lost (swell B s R) (suc g)
spreads_identified B r lost {s} {g} {a} {R} c avoids part =
    subst (λ t. Spread (identified B) lost t (suc g)) (swell_identified B r s R avoids)
    (spreads c (record {
      vertex = glued_below B a part.vertex;
      holds = λ v h p.
          subst (λ x. Connected (identified B) (full s) (edges B) x (glued B a)) (glued_shut B v (avoids.shut v h p))
          (connected_identified B r (full s) (part.holds v h p));
    }))

-- at the start both boards have the same supports
pub unspread_identified : (B : Board) (lost : Set) → Spread (identified B) lost (start B lost) 0
unfolding start
unspread_identified B lost = unspread

-- the cluster that was chosen is one part
chosen_part : (B : Board) → Inside B → (S : Set) (s : List ℕ) (R : Set) (c : Chosen B S s R) → OnePart B s R c.cluster
unfolding clusters
chosen_part B r S s R c =
    record {
      vertex = c.part.below;
      holds = λ v h p.
          rw (eqb-true (label (clusters B s) v) c.cluster (sym (ap (λ T. T v) c.is) ∙ p)) at (part_smallest B (full s) r v h).reached;
    }

weighted_spread : (B : Board) → Inside B → (S lost : Set) {s : List ℕ} {g : ℕ} → Reached B (weighted B S) lost s g → Spread (identified B) lost s g
weighted_spread B r S lost =
    reached_holds B (weighted B S) lost (Spread (identified B) lost) (unspread_identified B lost) (λ s g R p c. next s g R c (weighted_chosen B S s R p))
  where
    next : (s : List ℕ) (g : ℕ) (R : Set) → Spread (identified B) lost s g → Chosen B S s R → Spread (identified B) lost (swell B s R) (suc g)
    next s g R c w =
        spreads_identified B r lost c
        (subst (Avoids B) (sym w.is) (odd_avoids B (clusters B s) S w.cluster w.part.is_odd)) (chosen_part B r S s R w)

-- E and C together, where the growths, and one for each edge of E that is not full, are at most 2s
pub spread_apart : (B : Board) → Inside B → (S lost E C : Set) → HasSyndrome B E S → HasSyndrome B C S
    → {s : List ℕ} {g : ℕ} → Spread (identified B) lost s g → g + size B (λ e. E e && not (full s e)) ≤ 2 * kept_edges B lost E → Within B C (full s)
    → EveryLoopAbove B (lost_edges B lost + 2 * kept_edges B lost E) → winds B (together E C) ≡ false
spread_apart B r S lost E C has also {s} c few inside above =
    sym (winds_identified B r (together E C))
    ∙ spread_unwound (identified B) (identified_inside B r) (identified_sealed B) lost c (lost_edges B lost + 2 * kept_edges B lost E)
    (above_identified B r _ above) (together E C) (λ e. E e && not (full s e)) (closed_identified B r (together E C) (together_closed B E C S has also))
    (λ e h p open_edge. left e h open_edge (E e) (C e) refl refl p) (omega arith)
  where
    -- an edge of the two sets together that is not full is one of E: C's are full
    left : (e : ℕ) → e < edges B → full s e ≡ false → (x y : Bool) → E e ≡ x → C e ≡ y → x ⊕ y ≡ true → (E e && not (full s e)) ≡ true
    left e h f x true p q w = absurd (true≢false (sym (inside.holds e h q) ∙ f))
    left e h f true false p q w = and_from (E e) (not (full s e)) p (ap not f)
    left e h f false false p q w = absurd (false≢true w)

-- Not winding.
pub not_winding : (B : Board) → Inside B → (S lost E C : Set) → HasSyndrome B E S → HasSyndrome B C S
    → {s : List ℕ} {g : ℕ} → Reached B (weighted B S) lost s g → Within B C (full s)
    → EveryLoopAbove B (lost_edges B lost + 2 * kept_edges B lost E) → winds B (together E C) ≡ false
not_winding B r S lost E C has also c =
    spread_apart B r S lost E C has also (weighted_spread B r S lost c) (growth_slack B r S lost (weighted B S) (weighted_feeds B S) E has c)
