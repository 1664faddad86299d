-- How long growth by a policy that feeds odd clusters lasts, be it weighted or in rounds: each time some kept edge of every set that has
-- the syndrome gains a half-edge, so that is at most twice for each kept edge, and at the end no cluster is odd.
-- Assumes nothing.
use Prim.Native.Nat.{ℕ, zero, suc, ◌+◌, ◌*◌, ◌≤◌, ◌<◌}
use mathlib.Core.Path.{◌≡◌, refl, sym, ap, ◌∙◌, subst}
use mathlib.Core.Bool.{Bool, true, false, cond, not, ◌&&◌, true≢false}
use mathlib.Core.Logic.{⊎_elim}
use mathlib.Core.List.{List}
use mathlib.Core.Option.{Option, none, some}
use native.Mathlib.Nat.{le_refl, not-suc-le-zero}
use native.Mathlib.Omega.{arith}
use borrow.Author.Tests.{eqb-false}
use lib.ListN.{get_or}
use lib.Dec.{eqb}
use Rattle.std.proofs.lemmas.Bool.{false_from_ne_true, and_from}
use Rattle.model.specs.Sums.{Set, ◌⊕◌, bit, count_up_to}
use Rattle.model.specs.Board.{Board, Inside, Unlit, edges, first_end, second_end}
use Rattle.model.specs.Syndrome.{HasSyndrome}
use Rattle.model.specs.Winding.{size}
use Rattle.model.specs.Components.{within}
use Rattle.model.specs.Growth.{full, clusters, swell, Policy, grown}
use Rattle.model.specs.Correction.{correction}
use Rattle.model.specs.Decoding.{smallest_odd}
use Rattle.model.specs.Demand3.{kept_edges}
use Rattle.model.proofs.Xor.{equal_xor, and_left, and_right}
use Rattle.model.proofs.SumLaws.{below_suc, count_bound, Some}
use Rattle.theory.proofs.OddMembers.{odd_found}
use Rattle.theory.proofs.Totals.{sum_up_to, sum_mono}
use Rattle.theory.proofs.GrowthRun.{OddPart, NoneOdd, Fed, Feeds, Reached, begin, after, grown_ends}
use Rattle.theory.proofs.OddParts.{odd_cut}
use Rattle.theory.proofs.Connected.{along}
use Rattle.theory.proofs.Components.{connected_part}
use Rattle.theory.proofs.NoCorrection.{some_correction}
use Rattle.theory.proofs.Supports.{Supports, reached_supports, swell_at, swell_keeps}

-- Sums

-- no smaller anywhere and greater at a: greater in all
sum_less : (n : ℕ) (f g : ℕ → ℕ) (a : ℕ) → a < n → ((i : ℕ) → i < n → f i ≤ g i) → f a < g a → sum_up_to n f < sum_up_to n g
unfolding sum_up_to
sum_less zero f g a h all more = absurd (not-suc-le-zero h)
sum_less (suc n) f g a h all more =
    below_suc n a h
    (λ l. omega (arith, sum_less n f g a l (λ i u. all i (omega arith)) more, all n (le_refl _)))
    (λ q. omega (arith, sum_mono n f g (λ i u. all i (omega arith)), subst (λ i. f i < g i) q more))

-- what pays for f and for each of g, at two for each of h
sum_pays : (n : ℕ) (f : ℕ → ℕ) (g h : Set) → ((i : ℕ) → i < n → f i + bit (g i) ≤ 2 * bit (h i))
    → sum_up_to n f + count_up_to n g ≤ 2 * count_up_to n h
unfolding sum_up_to count_up_to
sum_pays zero f g h all = omega arith
sum_pays (suc n) f g h all = omega (arith, sum_pays n f g h (λ i u. all i (omega arith)), all n (le_refl _))

-- Progress

-- E's kept edges
abbrev kept : Set → Set → Set
kept lost E e = E e && not (lost e)

-- the half-edges that E's kept edges have
pub paid : Board → Set → Set → List ℕ → ℕ
paid B lost E s = sum_up_to (edges B) (λ e. cond (kept lost E e) (get_or s e 0) 0)

-- an odd cluster is left by some edge of E, which is not full
crossing_edge : (B : Board) → Inside B → (S E : Set) → HasSyndrome B E S → (s : List ℕ) (a : ℕ) → OddPart B (clusters B s) S a
    → Some (edges B) (λ e. E e && (within (clusters B s) a (first_end B e) ⊕ within (clusters B s) a (second_end B e)))
crossing_edge B r S E has s a o =
    odd_found (edges B) (λ e. E e && (within (clusters B s) a (first_end B e) ⊕ within (clusters B s) a (second_end B e)))
    (odd_cut B (clusters B s) S a r E has o.is_odd)

crossing_open : (B : Board) (s : List ℕ) (a e : ℕ) → e < edges B
    → (within (clusters B s) a (first_end B e) ⊕ within (clusters B s) a (second_end B e)) ≡ true → full s e ≡ false
unfolding clusters
crossing_open B s a e h p =
    false_from_ne_true (full s e) (λ q. true≢false (sym p ∙ equal_xor _ _ (ap (λ x. eqb x a) (connected_part B (full s) (along e h q)))))

-- so where an odd cluster grows, what E's kept edges have rises
pub paid_rises : (B : Board) → Inside B → (S lost E : Set) → HasSyndrome B E S → (s : List ℕ) → Supports B lost s → (R : Set) → Fed B S s R
    → paid B lost E s < paid B lost E (swell B s R)
unfolding paid
paid_rises B r S lost E has s w R fed =
    sum_less (edges B) (λ e. cond (kept lost E e) (get_or s e 0) 0) (λ e. cond (kept lost E e) (get_or (swell B s R) e 0) 0)
    x.at x.less (λ e h. each e h (kept lost E e)) more
  where
    a : ℕ
    a = fed.cluster

    x : Some (edges B) (λ e. E e && (within (clusters B s) a (first_end B e) ⊕ within (clusters B s) a (second_end B e)))
    x = crossing_edge B r S E has s a fed.part

    e : ℕ
    e = x.at

    each : (e : ℕ) → e < edges B → (t : Bool) → cond t (get_or s e 0) 0 ≤ cond t (get_or (swell B s R) e 0) 0
    each e h true = swell_keeps B lost s R w e h
    each e h false = le_refl _

    across : (within (clusters B s) a (first_end B e) ⊕ within (clusters B s) a (second_end B e)) ≡ true
    across = and_right (E e) _ x.holds

    open_edge : full s e ≡ false
    open_edge = crossing_open B s a e x.less across

    here : kept lost E e ≡ true
    here = and_from _ _ (and_left (E e) _ x.holds)
        (ap not (false_from_ne_true (lost e) (λ q. true≢false (sym (w.lost_full e x.less q) ∙ open_edge))))

    -- an end in the cluster grows
    grows : (v : ℕ) → v < B.vertices → (t : Bool) → within (clusters B s) a v ≡ t → bit t ≤ bit (R v)
    grows v h true q = rw (fed.covers v h q) (le_refl _)
    grows v h false q = omega arith

    one_end : (p q : Bool) → p ⊕ q ≡ true → bit p + bit q ≡ 1
    one_end true true p = absurd (true≢false (sym p))
    one_end true false p = refl
    one_end false true p = refl
    one_end false false p = absurd (true≢false (sym p))

    more : cond (kept lost E e) (get_or s e 0) 0 < cond (kept lost E e) (get_or (swell B s R) e 0) 0
    more =
        rw here (omega (
          arith,
          swell_at B s R e x.less,
          w.bounded e x.less,
          eqb-false (get_or s e 0) 2 open_edge,
          grows (first_end B e) (r.first_in_range e x.less) (within (clusters B s) a (first_end B e)) refl,
          grows (second_end B e) (r.second_in_range e x.less) (within (clusters B s) a (second_end B e)) refl,
          one_end (within (clusters B s) a (first_end B e)) (within (clusters B s) a (second_end B e)) across,
        ))

-- The bounds

-- what E's kept edges have, and one for each edge of E that is not full, is at most two for each kept edge
pub paid_slack : (B : Board) (lost E : Set) (s : List ℕ) → Supports B lost s
    → paid B lost E s + size B (λ e. E e && not (full s e)) ≤ 2 * kept_edges B lost E
unfolding paid
paid_slack B lost E s w =
    sum_pays (edges B) (λ e. cond (kept lost E e) (get_or s e 0) 0) (λ e. E e && not (full s e)) (kept lost E)
    (λ e h. each e h (E e) (lost e) (full s e) refl refl)
  where
    each : (e : ℕ) → e < edges B → (x y z : Bool) → lost e ≡ y → full s e ≡ z
        → cond (x && not y) (get_or s e 0) 0 + bit (x && not z) ≤ 2 * bit (x && not y)
    each e h false y z p q = omega arith
    each e h true true true p q = omega arith
    each e h true true false p q = absurd (true≢false (sym (w.lost_full e h p) ∙ q))
    each e h true false true p q = omega (arith, w.bounded e h)
    each e h true false false p q = omega (arith, w.bounded e h, eqb-false (get_or s e 0) 2 q)

module _ (B : Board) (r : Inside B) (S lost : Set) (p : Policy) (f : Feeds B S p) where
  module _ (E : Set) (has : HasSyndrome B E S) where
    -- after g growths E's kept edges have at least g half-edges
    paid_enough : {s : List ℕ} {g : ℕ} → Reached B p lost s g → g ≤ paid B lost E s
    paid_enough begin = omega arith
    paid_enough (after {s} {g} {R} c q) =
        omega (arith, paid_enough c, paid_rises B r S lost E has s (reached_supports B p lost c) R (f.feeds s R q))

    -- the growths, and one for each edge of E that is not full, are at most two for each kept edge of E
    pub growth_slack : {s : List ℕ} {g : ℕ} → Reached B p lost s g → g + size B (λ e. E e && not (full s e)) ≤ 2 * kept_edges B lost E
    growth_slack {s} c = omega (arith, paid_enough c, paid_slack B lost E s (reached_supports B p lost c))

    pub growth_bound : {s : List ℕ} {g : ℕ} → Reached B p lost s g → g ≤ 2 * kept_edges B lost E
    growth_bound c = omega (arith, growth_slack c)

  -- Where there is a correction, growth ends

  module _ (unlit : Unlit B S) (none_odd : smallest_odd B S ≡ none) where
    -- at most two growths for each edge
    pub growth_limit : {s : List ℕ} {g : ℕ} → Reached B p lost s g → g ≤ 2 * edges B
    growth_limit c =
        let E = correction B (λ e. true) S in
        omega (arith, growth_bound E (some_correction B r S unlit none_odd) c, count_bound (edges B) (kept lost E))

    -- as long as the policy names some there are fewer
    pub growth_left : {s : List ℕ} {g : ℕ} {R : Set} → Reached B p lost s g → p s ≡ some R → g < 2 * edges B
    growth_left c q = growth_limit (after c q)

    -- no cluster is odd at the end, whether the steps were used up or not
    pub growth_ends : NoneOdd B (clusters B (grown B p lost).support) S
    growth_ends = ⊎_elim (λ spent. f.stops end (go spent (p end) refl)) (λ q. f.stops end q) (grown_ends B p lost).settled
      where
        end : List ℕ
        end = (grown B p lost).support

        go : (grown B p lost).count ≡ 0 + 2 * edges B → (o : Option Set) → p end ≡ o → p end ≡ none
        go spent none q = q
        go spent (some R) q = absurd (omega (arith, growth_left (grown_ends B p lost).reached q))
