-- Insertion: where every short closed walk is unmarked, an edge whose ends reach far enough, or for which d is paid, can be settled, and
-- the books still balance. Whether its ends lie in one cluster or in two makes no difference to what it costs. Assumes nothing.
use Prim.Native.Nat.{ℕ, suc, ◌+◌, ◌*◌, ◌≤◌, ◌<◌}
use mathlib.Core.Path.{◌≡◌, refl, sym, ap, ◌∙◌}
use mathlib.Core.Bool.{Bool, true, false, cond, ◌&&◌}
use mathlib.Core.List.{◌∷◌}
use native.Mathlib.Nat.{le_refl}
use native.Mathlib.Omega.{arith}
use borrow.Author.Tests.{eqb-true, eqb-false, eq-eqb, ne_eqb}
use lib.ListN.{length}
use lib.Dec.{eqb}
use Rattle.model.specs.Sums.{Set, ◌⊕◌}
use Rattle.model.specs.Board.{Board, Inside, edges, first_end, second_end}
use Rattle.model.proofs.Xor.{xor_false, xor_assoc, xor_swap, xor_equal, equal_xor}
use Rattle.theory.proofs.Totals.{sum_mono, sum_add, xor_through, xor_cancel}
use Rattle.theory.proofs.CrossedLines.{Line, crosses}
use Rattle.theory.proofs.Walks.{Along, forth, back, step}
use Rattle.theory.proofs.ShortLoops.{along_differs, ShortWalksUnmarked}
use Rattle.theory.proofs.Potentials.{difference}
use Rattle.theory.proofs.Clusters.{Clustering, Settled, Paid, share, worth, total, Balanced, paid_more, paid_through, worth_bound, worth_raised, raised, raised_total}

-- what K settles, J settles too
abbrev pub Keeps : Board → Clustering → Clustering → Type 0
Keeps B K J = (i : ℕ) → Settled B K i → Settled B J i

-- the books with edge e settled as well, at a cost of at most d
pub record Inserted (B : Board) (K : Clustering) (reach credit : ℕ → ℕ) (d e : ℕ) : Type 0 where
  pub clustering : Clustering
  pub credits : ℕ → ℕ
  pub balanced : Balanced B clustering reach credits
  pub cost : total B credits ≤ total B credit + d
  pub keeps : Keeps B K clustering
  pub settles : Settled B clustering e

-- Ends in one cluster: the walk between them and e close up. That closed walk is short, so it is unmarked, and the potentials fit e.
settled_inside : (B : Board) → Inside B → (K : Clustering) (reach credit : ℕ → ℕ) (T d e : ℕ) → ShortWalksUnmarked B T
    → Balanced B K reach credit → e < edges B → 2 ≤ 2 * d + reach (first_end B e) + reach (second_end B e) → total B credit + d ≤ T
    → K.cluster (first_end B e) ≡ K.cluster (second_end B e) → Settled B K e
settled_inside B r K reach credit T d e short b h enough fits same =
    let p = b.paid (first_end B e) (second_end B e) (r.first_in_range e h) (r.second_in_range e h) same in
    let few : suc (length p.route) ≤ T = omega (arith, worth_bound B K credit (K.cluster (first_end B e)), p.short) in
    let around = short.unmarked (second_end B e) (e ∷ p.route) (r.second_in_range e h) (step h (back refl refl) p.walk) few in
    record { inside = same; fits = λ x. xor_equal (crosses B x e) _ (around x) ∙ p.crossing x }

-- Ends in two clusters, the near and the far one: these become one, and on the far one the potentials are shifted to fit e.
module _ (B : Board) (K : Clustering) (e : ℕ) where
  abbrev near : ℕ
  near = K.cluster (first_end B e)

  abbrev far : ℕ
  far = K.cluster (second_end B e)

  shift : Line → Bool
  shift x = crosses B x e ⊕ difference B (K.potential x) e

  fused : Clustering
  fused =
      record {
        cluster = λ v. cond (eqb (K.cluster v) far) near (K.cluster v);
        potential = λ x v. K.potential x v ⊕ (eqb (K.cluster v) far && shift x);
      }

  -- within a cluster the differences stay
  fused_difference : (u v : ℕ) → K.cluster u ≡ K.cluster v → (x : Line)
      → K.potential x u ⊕ K.potential x v ≡ fused.potential x u ⊕ fused.potential x v
  unfolding fused
  fused_difference u v same x =
      let moved : ℕ → Bool = λ k. eqb k far && shift x in
      sym
      (xor_swap (K.potential x u) (moved (K.cluster u)) (K.potential x v) (moved (K.cluster v))
      ∙ ap (λ y. (K.potential x u ⊕ K.potential x v) ⊕ y) (equal_xor _ _ (ap moved same))
      ∙ xor_false (K.potential x u ⊕ K.potential x v))

  fused_keeps : Keeps B K fused
  unfolding fused
  fused_keeps i s =
      record {
        inside = ap (λ k. cond (eqb k far) near k) s.inside;
        fits = λ x. s.fits x ∙ fused_difference (first_end B i) (second_end B i) s.inside x;
      }

  module _ (parted : near ≡ far → ⊥) where
    -- the ends of e have one label now, that of the near cluster
    fused_first : fused.cluster (first_end B e) ≡ near
    unfolding fused
    fused_first = rw (ne_eqb near far parted)

    fused_second : fused.cluster (second_end B e) ≡ near
    unfolding fused
    fused_second = rw (eq-eqb far far refl)

    fused_settles : Settled B fused e
    unfolding fused shift
    fused_settles =
        record {
          inside = fused_first ∙ sym fused_second;
          fits = λ x.
              rw (ne_eqb near far parted, eq-eqb far far refl)
              (shifted (K.potential x (first_end B e)) (K.potential x (second_end B e)) (crosses B x e));
        }
      where
        shifted : (a b g : Bool) → g ≡ (a ⊕ false) ⊕ (b ⊕ (g ⊕ (a ⊕ b)))
        shifted a b g = sym (ap (λ y. y ⊕ (b ⊕ (g ⊕ (a ⊕ b)))) (xor_false a) ∙ sym (xor_assoc a b (g ⊕ (a ⊕ b))) ∙ xor_cancel (a ⊕ b) g)

    -- the new cluster has the credit of both
    fused_worth : (credit : ℕ → ℕ) → worth B K credit near + worth B K credit far ≤ worth B fused credit near
    unfolding worth fused
    fused_worth credit =
        let both : ℕ → ℕ = λ v. share K credit near v + share K credit far v in
        omega (
          arith,
          sum_add B.vertices (share K credit near) (share K credit far),
          sum_mono B.vertices both (share fused credit near) (λ v h. at v (eqb (K.cluster v) far) refl),
        )
      where
        at : (v : ℕ) (t : Bool) → eqb (K.cluster v) far ≡ t
            → share K credit near v + cond t (credit v) 0 ≤ cond (eqb (cond t near (K.cluster v)) near) (credit v) 0
        at v true q =
            rw (ne_eqb (K.cluster v) near (λ p. parted (sym p ∙ eqb-true (K.cluster v) far q)), eq-eqb near near refl) (omega arith)
        at v false q = omega arith

    -- any other cluster has its own
    other_worth : (credit : ℕ → ℕ) (k : ℕ) → (k ≡ far → ⊥) → worth B K credit k ≤ worth B fused credit k
    unfolding worth fused
    other_worth credit k other =
        sum_mono B.vertices (share K credit k) (share fused credit k) (λ v h. at v (eqb (K.cluster v) far) refl)
      where
        at : (v : ℕ) (t : Bool) → eqb (K.cluster v) far ≡ t
            → share K credit k v ≤ cond (eqb (cond t near (K.cluster v)) k) (credit v) 0
        at v true q = rw (ne_eqb (K.cluster v) k (λ p. other (sym p ∙ eqb-true (K.cluster v) far q))) (omega arith)
        at v false q = le_refl _

    module _
        (r : Inside B) (reach credit : ℕ → ℕ) (d : ℕ) (b : Balanced B K reach credit) (h : e < edges B)
        (enough : 2 ≤ 2 * d + reach (first_end B e) + reach (second_end B e)) where
      -- what each cluster has now: the fused one enough for a walk through e, any other no less than before
      abbrev paid_for : ℕ → ℕ
      paid_for k = worth B fused (raised credit (first_end B e) d) k

      both : worth B K credit near + worth B K credit far + d ≤ paid_for near
      both =
          let more : cond (eqb (fused.cluster (first_end B e)) near) d 0 ≡ d = rw (eq-eqb _ near fused_first) in
          omega (arith, fused_worth credit, worth_raised B fused credit (first_end B e) d near (r.first_in_range e h))

      own : (k : ℕ) → (k ≡ far → ⊥) → worth B K credit k ≤ paid_for k
      own k other = omega (arith, other_worth credit k other, worth_raised B fused credit (first_end B e) d k (r.first_in_range e h))

      -- the walks within the old clusters, over the new potentials
      within : (u v : ℕ) → u < B.vertices → v < B.vertices → K.cluster u ≡ K.cluster v
          → Paid B reach (worth B K credit (K.cluster u)) u v (λ x. fused.potential x u ⊕ fused.potential x v)
      within u v hu hv same = paid_more (b.paid u v hu hv same) (le_refl _) (fused_difference u v same)

      -- a walk that goes through e, from p to q
      through : (u p q v : ℕ) → u < B.vertices → p < B.vertices → q < B.vertices → v < B.vertices → Along B e p q
          → 2 ≤ 2 * d + reach p + reach q → K.cluster u ≡ K.cluster p → K.cluster q ≡ K.cluster v
          → Paid B reach (worth B K credit (K.cluster u) + worth B K credit (K.cluster q) + d) u v
          (λ x. fused.potential x u ⊕ fused.potential x v)
      through u p q v hu hp hq hv a far-enough same alike =
          paid_more (paid_through d (within u p hu hp same) h a far-enough (within q v hq hv alike)) (le_refl _)
          (λ x. via (fused.potential x) (fused_settles.fits x ∙ along_differs a (fused.potential x)))
        where
          via : (f : Set) {g : Bool} → g ≡ f p ⊕ f q → (f u ⊕ f p) ⊕ (g ⊕ (f q ⊕ f v)) ≡ f u ⊕ f v
          via f c = ap (λ y. (f u ⊕ f p) ⊕ y) (ap (λ y. y ⊕ (f q ⊕ f v)) c ∙ xor_through (f p) (f q) (f v)) ∙ xor_through (f u) (f p) (f v)

      -- the walks of the new cluster
      fused_paid : (u v : ℕ) → u < B.vertices → v < B.vertices → (s t : Bool) → eqb (K.cluster u) far ≡ s → eqb (K.cluster v) far ≡ t
          → cond s near (K.cluster u) ≡ cond t near (K.cluster v)
          → Paid B reach (paid_for (cond s near (K.cluster u))) u v (λ x. fused.potential x u ⊕ fused.potential x v)
      fused_paid u v hu hv true true p q same =
          let far-u = eqb-true (K.cluster u) far p in
          paid_more (within u v hu hv (far-u ∙ sym (eqb-true (K.cluster v) far q))) (rw far-u (omega (arith, both))) (λ x. refl)
      fused_paid u v hu hv true false p q same =
          let far-u = eqb-true (K.cluster u) far p in
          paid_more
          (through u (second_end B e) (first_end B e) v hu (r.second_in_range e h) (r.first_in_range e h) hv (back refl refl) (omega arith) far-u same)
          (rw far-u (omega (arith, both))) (λ x. refl)
      fused_paid u v hu hv false true p q same =
          let far-v = eqb-true (K.cluster v) far q in
          paid_more
          (through u (first_end B e) (second_end B e) v hu (r.first_in_range e h) (r.second_in_range e h) hv (forth refl refl) enough same (sym far-v))
          (rw same both) (λ x. refl)
      fused_paid u v hu hv false false p q same =
          paid_more (within u v hu hv same) (own (K.cluster u) (eqb-false (K.cluster u) far p)) (λ x. refl)

      fused_balanced : Balanced B fused reach (raised credit (first_end B e) d)
      unfolding fused
      fused_balanced =
          record { paid = λ u v hu hv same. fused_paid u v hu hv (eqb (K.cluster u) far) (eqb (K.cluster v) far) refl refl same }

-- Insertion of one edge.
pub insert : (B : Board) → Inside B → (K : Clustering) (reach credit : ℕ → ℕ) (T d e : ℕ) → ShortWalksUnmarked B T
    → Balanced B K reach credit → e < edges B → 2 ≤ 2 * d + reach (first_end B e) + reach (second_end B e)
    → total B credit + d ≤ T → Inserted B K reach credit d e
insert B r K reach credit T d e short b h enough fits = go (eqb (near B K e) (far B K e)) refl
  where
    go : (t : Bool) → eqb (near B K e) (far B K e) ≡ t → Inserted B K reach credit d e
    go true q =
        record {
          clustering = K;
          credits = credit;
          balanced = b;
          cost = omega arith;
          keeps = λ i s. s;
          settles = settled_inside B r K reach credit T d e short b h enough fits (eqb-true (near B K e) (far B K e) q);
        }
    go false q =
        let parted = eqb-false (near B K e) (far B K e) q in
        record {
          clustering = fused B K e;
          credits = raised credit (first_end B e) d;
          balanced = fused_balanced B K e parted r reach credit d b h enough;
          cost = omega (arith, raised_total B credit (first_end B e) d (r.first_in_range e h));
          keeps = fused_keeps B K e;
          settles = fused_settles B K e parted;
        }
