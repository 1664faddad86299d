-- Rounds are growths of odd clusters, one after the other: so the books of Spreading follow them too, and where no vertex is open there are
-- at least two growths of every round. No contract cites this: what is promised of rounds leaves winding out.
-- Assumes nothing.
use Prim.Native.Nat.{ℕ, suc, ◌+◌, ◌*◌, ◌%◌, ◌≤◌, ◌<◌}
use mathlib.Core.Path.{◌≡◌, refl, sym, ap, ◌∙◌, subst}
use mathlib.Core.Bool.{Bool, true, false, not, ◌&&◌}
use mathlib.Core.List.{List}
use mathlib.Core.Option.{some}
use native.Mathlib.Nat.{le_refl}
use native.Mathlib.Omega.{arith}
use borrow.Author.Tests.{eqb-false, eq-eqb}
use lib.Dec.{eqb}
use Rattle.std.proofs.lemmas.Bool.{and_from}
use Rattle.model.specs.Sums.{Set, odd_up_to, count_up_to, some_up_to}
use Rattle.model.specs.Board.{Board, Inside, edges}
use Rattle.model.specs.Syndrome.{HasSyndrome}
use Rattle.model.specs.Winding.{winds, together}
use Rattle.model.specs.Components.{label, labels, within}
use Rattle.model.specs.Growth.{full, clusters, oddly_lit, odd, in_odd, swell}
use Rattle.model.specs.Identified.{identified}
use Rattle.model.specs.Rounds.{all_odd}
use Rattle.model.specs.Demand3.{lost_edges, kept_edges, EveryLoopAbove}
use Rattle.model.proofs.Xor.{and_right}
use Rattle.model.proofs.SumLaws.{some_found, count_mono}
use Rattle.model.proofs.CountLaws.{count_before, count_parity}
use Rattle.theory.proofs.Options.{passed}
use Rattle.theory.proofs.Syndromes.{Sealed}
use Rattle.theory.proofs.OddParts.{odd_lit, sealed_odd}
use Rattle.theory.proofs.Connected.{connected_mono}
use Rattle.theory.proofs.Components.{part_below, part_connected, connected_part}
use Rattle.theory.proofs.Forests.{Within}
use Rattle.theory.proofs.NoCorrection.{part_even}
use Rattle.theory.proofs.PartParity.{Union, union_parity}
use Rattle.theory.proofs.GrowthRun.{Reached, reached_holds}
use Rattle.theory.proofs.Supports.{Supports, start_supports, swell_cong, swell_supports}
use Rattle.theory.proofs.GrowthBound.{paid, paid_slack}
use Rattle.theory.proofs.RoundNumbers.{Numbered, start_numbered, round_numbered}
use Rattle.theory.proofs.Spreading.{Spread}
use Rattle.theory.proofs.NotWinding.{unspread_identified, spread_apart}
use Rattle.theory.proofs.RoundTurns.{all_below, turns_taken}

-- of a set of even parity that has a member there are at least two
two_members : (n : ℕ) (f : Set) (a : ℕ) → a < n → f a ≡ true → odd_up_to n f ≡ false → 2 ≤ count_up_to n f
two_members n f a h p even = omega (arith, count_before a n f h p, eqb-false (count_up_to n f % 2) 1 (count_parity n f ∙ even))

module _ (B : Board) (r : Inside B) (S lost E : Set) (has : HasSyndrome B E S) where
  -- Where a cluster is odd and no vertex open there are two, since its part of the whole board is even.
  two_odd : Sealed B → (s : List ℕ) (a : ℕ) → a < B.vertices → odd B (clusters B s) S a ≡ true → 2 ≤ count_up_to B.vertices (odd B (clusters B s) S)
  unfolding clusters oddly_lit
  two_odd shut s a h o =
      let l = clusters B s in
      omega (
        arith,
        two_members B.vertices (λ c. A c && oddly_lit B l S c) a h (and_from (A a) (oddly_lit B l S a) (eq-eqb part part refl) (odd_lit B l S a o))
            (sym (union_parity B r (full s) S A union) ∙ sym (sealed_odd B (labels B (λ e. true)) S part shut)
            ∙ part_even B r (λ e. true) E S (λ e k p. refl) has part),
        count_mono B.vertices (λ c. A c && oddly_lit B l S c) (odd B l S) (λ c k p. sealed_odd B l S c shut ∙ and_right (A c) _ p),
      )
    where
      part : ℕ
      part = label (labels B (λ e. true)) a

      A : Set
      A = within (labels B (λ e. true)) part

      union : Union B (full s) A
      union =
          record {
            same = λ u v hu hv p.
                ap (λ i. eqb i part)
                (connected_part B (λ e. true)
                (connected_mono B (full s) (edges B) (λ e. true) (edges B) (record { less = λ e k f. k; holds = λ e k f. refl })
                (part_connected B (full s) r u v hu hv p)));
          }

  -- the rounds as growths of odd clusters, one after the other
  record AsGrowths (s : List ℕ) (g : ℕ) : Type 0 where
    supports : Supports B lost s
    growths : ℕ
    spread : Spread (identified B) lost s growths
    pays : growths ≤ paid B lost E s
    twice : Sealed B → 2 * g ≤ growths
    parity : Bool
    numbers : Numbered B S s parity

  one_more : (s : List ℕ) (g : ℕ) (R : Set) → all_odd B S s ≡ some R → AsGrowths s g → AsGrowths (swell B s R) (suc g)
  unfolding all_odd clusters
  one_more s g R p y =
      let w = passed (some_up_to B.vertices (in_odd B (clusters B s) S)) (some (in_odd B (clusters B s) S)) p in
      let v = some_found B.vertices (in_odd B (clusters B s) S) w.test in
      let is : in_odd B (clusters B s) S ≡ R = cc in
      let z = turns_taken B r S lost s y.supports y.parity y.numbers E has y.growths y.spread y.pays B.vertices (le_refl _) in
      let all = swell_cong B r s _ _ (all_below B r S lost s y.supports y.parity y.numbers) in
      rw (sym is)
      record {
        supports = swell_supports B lost s (in_odd B (clusters B s) S) y.supports;
        growths = y.growths + count_up_to B.vertices (odd B (clusters B s) S);
        spread = subst (λ t. Spread (identified B) lost t (y.growths + count_up_to B.vertices (odd B (clusters B s) S))) all z.spread;
        pays = subst (λ t. y.growths + count_up_to B.vertices (odd B (clusters B s) S) ≤ paid B lost E t) all z.pays;
        twice = λ shut. omega (arith, y.twice shut, two_odd shut s (label (clusters B s) v.at) (part_below B (full s) v.at v.less) v.holds);
        parity = not y.parity;
        numbers = round_numbered B r S lost s y.supports y.parity y.numbers;
      }

  as_growths : {s : List ℕ} {g : ℕ} → Reached B (all_odd B S) lost s g → AsGrowths s g
  as_growths =
      reached_holds B (all_odd B S) lost AsGrowths
      (record {
        supports = start_supports B lost;
        growths = 0;
        spread = unspread_identified B lost;
        pays = omega arith;
        twice = λ shut. omega arith;
        parity = false;
        numbers = start_numbered B S lost;
      })
      one_more

  -- Theorem: where no vertex is open there are at most s rounds.
  pub rounds_few : Sealed B → {s : List ℕ} {g : ℕ} → Reached B (all_odd B S) lost s g → g ≤ kept_edges B lost E
  rounds_few shut {s} c =
      let y = as_growths c in
      omega (arith, y.twice shut, y.pays, paid_slack B lost E s y.supports)

  -- Theorem: where every winding loop has more than t + 2s edges, E and any set of full edges with the same syndrome do not wind together.
  pub rounds_unwound : (C : Set) → HasSyndrome B C S → {s : List ℕ} {g : ℕ} → Reached B (all_odd B S) lost s g → Within B C (full s)
      → EveryLoopAbove B (lost_edges B lost + 2 * kept_edges B lost E) → winds B (together E C) ≡ false
  rounds_unwound C also {s} c =
      let y = as_growths c in
      spread_apart B r S lost E C has also y.spread (omega (arith, y.pays, paid_slack B lost E s y.supports))
