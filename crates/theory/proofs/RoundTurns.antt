-- A round as growths of its odd clusters, one after the other by rising label: at its turn each is still an odd cluster by itself, since
-- the numbers of rounds let no full edge leave it before.
-- Assumes nothing.
use Prim.Native.Nat.{ℕ, zero, suc, ◌+◌, ◌≤◌, ◌<◌, min}
use mathlib.Core.Path.{◌≡◌, refl, sym, ap, ◌∙◌, subst}
use mathlib.Core.Bool.{Bool, true, false, ◌&&◌, ◌||◌, and-false, or-false, true≢false, false≢true}
use mathlib.Core.List.{List}
use native.Mathlib.Nat.{le_antisymm}
use native.Mathlib.Omega.{arith}
use borrow.Author.Tests.{eqb-true, eqb-false, eq-eqb, ne_eqb}
use lib.ListN.{get_or}
use lib.Dec.{eqb}
use Rattle.std.proofs.lemmas.Bool.{and_from}
use Rattle.std.specs.Cmp.{both_ways}
use Rattle.model.specs.Sums.{Set, bit, count_up_to, some_up_to}
use Rattle.model.specs.Board.{Board, Inside, edges, first_end, second_end}
use Rattle.model.specs.Syndrome.{HasSyndrome}
use Rattle.model.specs.Components.{label, within}
use Rattle.model.specs.Growth.{full, clusters, odd, in_odd, swell}
use Rattle.model.specs.Identified.{identified}
use Rattle.model.proofs.Xor.{and_left, and_right}
use Rattle.model.proofs.SumLaws.{some_found, some_here, none_some}
use Rattle.theory.proofs.Connected.{Connected, alone, connected_keeps, EdgesAmong, connected_mono}
use Rattle.theory.proofs.Components.{part_below, part_connected, connected_part, part_smallest}
use Rattle.theory.proofs.OddParts.{odd_within, odd_avoids}
use Rattle.theory.proofs.GrowthRun.{Fed}
use Rattle.theory.proofs.WeightedGrowth.{odd_named}
use Rattle.theory.proofs.Supports.{Supports, swell_at, swell_full, swell_cong, swell_twice, swell_none, swell_supports}
use Rattle.theory.proofs.GrowthBound.{paid, paid_rises}
use Rattle.theory.proofs.RoundNumbers.{Numbered, one_cluster}
use Rattle.theory.proofs.Spreading.{OnePart, Spread}
use Rattle.theory.proofs.NotWinding.{spreads_identified}

-- an edge that is not full, one end of which has not grown yet, is not full before that end's turn: d says whether the other end has grown
short : (x y d : Bool) → (d ≡ true → x ≡ y) → (bit x + bit y ≡ 2 → ⊥) → min 2 (bit x + bit y + bit d) ≡ 2 → ⊥
short true true d same open_edge p = open_edge refl
short true false true same open_edge p = true≢false (same refl)
short false true true same open_edge p = false≢true (same refl)
short true false false same open_edge p = absurd (omega arith)
short false true false same open_edge p = absurd (omega arith)
short false false true same open_edge p = absurd (omega arith)
short false false false same open_edge p = absurd (omega arith)

module _ (B : Board) (r : Inside B) (S lost : Set) (s : List ℕ) (w : Supports B lost s) (q : Bool) (x : Numbered B S s q) where
  abbrev l : List ℕ
  l = clusters B s

  -- the vertices of the odd clusters with labels below a, and the supports when these have grown
  abbrev below : ℕ → Set
  below a u = some_up_to a (λ i. odd B l S i && within l i u)

  abbrev stage : ℕ → List ℕ
  stage a = swell B s (below a)

  -- a cluster is not among those below its own label
  not_yet : (a u : ℕ) → within l a u ≡ true → below a u ≡ false
  not_yet a u p =
      none_some a (λ i. odd B l S i && within l i u)
      (λ i h. ap (λ t. odd B l S i && t) (ne_eqb (label l u) i (λ e. absurd (omega (arith, eqb-true (label l u) a p)))) ∙ and-false (odd B l S i))

  below_odd : (a u : ℕ) → below a u ≡ true → in_odd B l S u ≡ true
  below_odd a u p =
      let f = some_found a (λ i. odd B l S i && within l i u) p in
      ap (odd B l S) (eqb-true (label l u) f.at (and_right (odd B l S f.at) _ f.holds)) ∙ and_left _ (within l f.at u) f.holds

  -- in the end all odd clusters have grown
  pub all_below : (u : ℕ) → u < B.vertices → below B.vertices u ≡ in_odd B l S u
  unfolding clusters
  all_below u h =
      both_ways (below B.vertices u) (in_odd B l S u) (below_odd B.vertices u)
      (λ p. some_here B.vertices (label l u) (λ i. odd B l S i && within l i u) (part_below B (full s) u h)
      (and_from (odd B l S (label l u)) (within l (label l u) u) p (eq-eqb (label l u) (label l u) refl)))

  -- one cluster more
  stage_even : (a : ℕ) → odd B l S a ≡ false → stage (suc a) ≡ stage a
  unfolding some_up_to
  stage_even a p =
      swell_cong B r s (below (suc a)) (below a) (λ v h. ap (λ t. below a v || (t && within l a v)) p ∙ or-false (below a v))

  stage_odd : (a : ℕ) → odd B l S a ≡ true → stage (suc a) ≡ swell B (stage a) (within l a)
  unfolding some_up_to
  stage_odd a p = sym (swell_twice B r s (below a) (within l a) (below (suc a)) (λ v h. go v (within l a v) refl))
    where
      go : (v : ℕ) (t : Bool) → within l a v ≡ t → bit (below a v || (odd B l S a && within l a v)) ≡ bit (below a v) + bit (within l a v)
      go v true i = rw (p, i, not_yet a v i)
      go v false i = rw (p, i, or-false (below a v)) (omega arith)

  module _ (a : ℕ) (k : a < B.vertices) (o : odd B l S a ≡ true) where
    own : label l a ≡ a
    unfolding clusters
    own = odd_named B (full s) S r a (record { below = k; is_odd = o })

    -- before its turn no full edge leaves the cluster
    stays : (e : ℕ) → e < edges B → full (stage a) e ≡ true → within l a (first_end B e) ≡ within l a (second_end B e)
    stays e h f = go (full s e) refl
      where
        u : ℕ
        u = first_end B e

        v : ℕ
        v = second_end B e

        hu : u < B.vertices
        hu = r.first_in_range e h

        hv : v < B.vertices
        hv = r.second_in_range e h

        two : full s e ≡ false → min 2 (bit (x.number u) + bit (x.number v) + bit (below a u) + bit (below a v)) ≡ 2
        two p = sym (swell_at B s (below a) e h ∙ ap (λ i. min 2 (i + bit (below a u) + bit (below a v))) (x.halves e h p)) ∙ eqb-true (get_or (stage a) e 0) 2 f

        not_two : full s e ≡ false → bit (x.number u) + bit (x.number v) ≡ 2 → ⊥
        not_two p z = eqb-false (get_or s e 0) 2 p (x.halves e h p ∙ z)

        -- the number of a vertex in the cluster, and of one that has grown
        here : (z : ℕ) → z < B.vertices → within l a z ≡ true → x.number z ≡ q
        here z hz i = x.odds z hz (ap (odd B l S) (eqb-true (label l z) a i) ∙ o)

        there : (z : ℕ) → z < B.vertices → below a z ≡ true → x.number z ≡ q
        there z hz i = x.odds z hz (below_odd a z i)

        leaving : full s e ≡ false → (t t' : Bool) → within l a u ≡ t → within l a v ≡ t' → t ≡ t'
        leaving p true true i j = refl
        leaving p false false i j = refl
        leaving p true false i j =
            absurd (short (x.number u) (x.number v) (below a v) (λ d. here u hu i ∙ sym (there v hv d)) (not_two p)
            (omega (arith, two p, ap bit (not_yet a u i))))
        leaving p false true i j =
            absurd (short (x.number u) (x.number v) (below a u) (λ d. there u hu d ∙ sym (here v hv j)) (not_two p)
            (omega (arith, two p, ap bit (not_yet a v j))))

        go : (t : Bool) → full s e ≡ t → within l a u ≡ within l a v
        go true p = ap (λ i. eqb i a) (one_cluster B r S lost s w q x e h p)
        go false p = leaving p (within l a u) (within l a v) refl refl

    -- what was full stays so
    kept_full : EdgesAmong (full s) (edges B) (full (stage a)) (edges B)
    kept_full = record { less = λ e h p. h; holds = λ e h p. swell_full B lost s (below a) w e h p }

    joined : (v : ℕ) → v < B.vertices → within l a v ≡ true → Connected B (full (stage a)) (edges B) v a
    unfolding clusters
    joined v h p =
        connected_mono B (full s) (edges B) (full (stage a)) (edges B) kept_full
        (part_connected B (full s) r v a h k (eqb-true (label l v) a p ∙ sym own))

    parted : {u v : ℕ} → Connected B (full (stage a)) (edges B) u v → within l a u ≡ within l a v
    parted c = connected_keeps B (full (stage a)) (edges B) (within l a) stays c

    -- so it is a cluster by itself, and its label is still a
    still_named : label (clusters B (stage a)) a ≡ a
    unfolding clusters
    still_named =
        let c = part_smallest B (full (stage a)) r a k in
        let at = part_below B (full (stage a)) a k in
        let i = eqb-true (label l (label (clusters B (stage a)) a)) a (sym (parted c.reached) ∙ eq-eqb (label l a) a own) in
        le_antisymm (c.least a (alone a)) (omega (arith, (part_smallest B (full s) r _ at).least _ (alone _)))

    still : (v : ℕ) → v < B.vertices → within (clusters B (stage a)) a v ≡ within l a v
    unfolding clusters
    still v h =
        both_ways (within (clusters B (stage a)) a v) (within l a v)
        (λ p. parted (part_connected B (full (stage a)) r v a h k (eqb-true (label (clusters B (stage a)) v) a p ∙ sym still_named)) ∙ eq-eqb (label l a) a own)
        (λ p. eq-eqb (label (clusters B (stage a)) v) a (connected_part B (full (stage a)) (joined v h p) ∙ still_named))

    turn_fed : Fed B S (stage a) (within l a)
    turn_fed =
        record {
          cluster = a;
          part = record {
            below = k;
            is_odd = odd_within B (clusters B (stage a)) l S a still ∙ o;
          };
          covers = λ v h p. sym (still v h) ∙ p;
        }

    turn_part : OnePart B (stage a) (within l a) a
    turn_part = record { vertex = k; holds = joined }

  -- the odd clusters with labels below a have had their turns

  module _ (E : Set) (has : HasSyndrome B E S) (g : ℕ) (c : Spread (identified B) lost s g) (enough : g ≤ paid B lost E s) where
    pub record Turns (a : ℕ) : Type 0 where
      pub spread : Spread (identified B) lost (stage a) (g + count_up_to a (odd B l S))
      pub pays : g + count_up_to a (odd B l S) ≤ paid B lost E (stage a)

    pub turns_taken : (a : ℕ) → a ≤ B.vertices → Turns a
    unfolding count_up_to some_up_to
    turns_taken zero h =
        let still-s = swell_none B r lost s w (below 0) (λ v k. refl) in
        record {
          spread = rw (still-s) (subst (Spread (identified B) lost s) (omega arith) c);
          pays = rw (still-s) (omega arith);
        }
    turns_taken (suc a) h = go (turns_taken a (omega arith)) (odd B l S a) refl
      where
        go : Turns a → (t : Bool) → odd B l S a ≡ t → Turns (suc a)
        go y false p =
            record {
              spread = rw (stage_even a p, p) (subst (Spread (identified B) lost (stage a)) (omega arith) y.spread);
              pays = rw (stage_even a p, p) (omega (arith, y.pays));
            }
        go y true p =
            record {
              spread = rw (stage_odd a p, p)
                  (subst (Spread (identified B) lost (swell B (stage a) (within l a))) (omega arith)
                  (spreads_identified B r lost y.spread (odd_avoids B l S a p) (turn_part a h p)));
              pays =
                  rw (stage_odd a p, p)
                  (omega (
                    arith,
                    y.pays,
                    paid_rises B r S lost E has (stage a) (swell_supports B lost s (below a) w) (within l a) (turn_fed a h p),
                  ));
            }
