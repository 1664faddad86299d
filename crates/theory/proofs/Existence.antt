-- Vertices that are even on every part of a set are the odd ends of a subset of its forest, found edge by edge in falling number.
-- Assumes nothing.
use Prim.Native.Nat.{ℕ, zero, suc, ◌≤◌, ◌<◌, min, max}
use mathlib.Core.Path.{◌≡◌, refl, sym, ap, ap₂, ◌∙◌, subst}
use mathlib.Core.Bool.{Bool, true, false, cond, ◌&&◌, and_comm, and-true, and-false, false≢true}
use mathlib.Core.List.{List}
use native.Mathlib.Nat.{le_refl}
use native.Mathlib.Omega.{arith}
use borrow.Author.Tests.{eqb-true, eqb-false, eq-eqb, ne_eqb}
use lib.Dec.{eqb}
use Rattle.model.specs.Sums.{Set, ◌⊕◌}
use Rattle.model.specs.Board.{Board, Inside, edges, first_end, second_end}
use Rattle.model.specs.Syndrome.{meets, HasOddEnds}
use Rattle.model.specs.Winding.{together}
use Rattle.model.specs.Components.{label, labels_up_to, labels, within}
use Rattle.model.specs.Growth.{oddly_lit}
use Rattle.model.specs.Forest.{forest}
use Rattle.model.proofs.Xor.{xor_self, xor_comm, xor_false, and_xor, xor_and, and_right, xor_twice}
use Rattle.model.proofs.SumLaws.{odd_cong, odd_xor, odd_false}
use Rattle.theory.proofs.GrowthRun.{EvenlyLit}
use Rattle.theory.proofs.OddMembers.{odd_one}
use Rattle.theory.proofs.Syndromes.{odd_end_empty, odd_end_together, odd_end_edge, ends_parity}
use Rattle.theory.proofs.Components.{renamed, label_joined, label_passed, label_start, label_below}
use Rattle.theory.proofs.Forests.{forest_parted, forest_labels}

-- Parity of the parts

pub odd_together : (B : Board) (l : List ℕ) (S R : Set) (a : ℕ) → oddly_lit B l (λ v. S v ⊕ R v) a ≡ oddly_lit B l S a ⊕ oddly_lit B l R a
unfolding oddly_lit
odd_together B l S R a =
    odd_cong B.vertices (λ v. (S v ⊕ R v) && within l a v) (λ v. (S v && within l a v) ⊕ (R v && within l a v))
    (λ v h. xor_and (S v) (R v) (within l a v))
    ∙ odd_xor B.vertices (λ v. S v && within l a v) (λ v. R v && within l a v)

-- how the two ends of edge e count in part a, where p holds
odd_ends : (B : Board) → Inside B → (l : List ℕ) (p : Bool) (e a : ℕ) → e < edges B
    → oddly_lit B l (λ v. p && meets B e v) a ≡ (p && (within l a (first_end B e) ⊕ within l a (second_end B e)))
unfolding oddly_lit
odd_ends B r l false e a h = odd_false B.vertices
odd_ends B r l true e a h =
    odd_cong B.vertices (λ v. meets B e v && within l a v) (λ v. within l a v && meets B e v)
    (λ v u. and_comm (meets B e v) (within l a v))
    ∙ ends_parity B r (within l a) e h

-- Two parts made one

by_renamed : (x y z : ℕ) (P : ℕ → Type 0) → (z ≡ max x y → P (min x y)) → ((z ≡ max x y → ⊥) → P z) → P (renamed x y z)
by_renamed x y z P hit miss = go (eqb z (max x y)) refl
  where
    go : (t : Bool) → eqb z (max x y) ≡ t → P (cond t (min x y) z)
    go true p = hit (eqb-true z (max x y) p)
    go false p = miss (eqb-false z (max x y) p)

-- what lies in the part made of x and y lies in exactly one of them
renamed_min : (x y z : ℕ) → (x ≡ y → ⊥) → eqb (renamed x y z) (min x y) ≡ eqb z x ⊕ eqb z y
renamed_min x y z apart = go (eqb z x) (eqb z y) refl refl
  where
    go : (s t : Bool) → eqb z x ≡ s → eqb z y ≡ t → eqb (renamed x y z) (min x y) ≡ s ⊕ t
    go true true p q = let i = eqb-true z x p in let j = eqb-true z y q in absurd (apart (omega arith))
    go true false p q = let i = eqb-true z x p in eq-eqb _ _ (by_renamed x y z (λ r. r ≡ min x y) (λ m. refl) (λ m. omega arith))
    go false true p q = let i = eqb-true z y q in eq-eqb _ _ (by_renamed x y z (λ r. r ≡ min x y) (λ m. refl) (λ m. omega arith))
    go false false p q =
        let i = eqb-false z x p in let j = eqb-false z y q in
        ne_eqb _ _ (by_renamed x y z (λ r. r ≡ min x y → ⊥) (λ m. absurd (omega arith)) (λ m. omega arith))

-- the other parts stay
renamed_other : (x y z a : ℕ) → (x ≡ a → ⊥) → (y ≡ a → ⊥) → eqb (renamed x y z) a ≡ eqb z a
renamed_other x y z a notx noty =
    by_renamed x y z (λ r. eqb r a ≡ eqb z a)
    (λ m. ne_eqb (min x y) a (λ q. omega arith) ∙ sym (ne_eqb z a (λ q. omega arith))) (λ m. refl)

module _ (B : Board) (S : Set) (l m : List ℕ) (x y : ℕ) (apart : x ≡ y → ⊥) (joined : (v : ℕ) → label m v ≡ renamed x y (label l v)) where
  -- the part made of two is odd where exactly one of them is
  odd_joined : oddly_lit B m S (min x y) ≡ oddly_lit B l S x ⊕ oddly_lit B l S y
  unfolding oddly_lit
  odd_joined =
      odd_cong B.vertices (λ v. S v && within m (min x y) v) (λ v. (S v && within l x v) ⊕ (S v && within l y v))
      (λ v h. rw (joined v, renamed_min x y (label l v) apart) (and_xor (S v) (within l x v) (within l y v)))
      ∙ odd_xor B.vertices (λ v. S v && within l x v) (λ v. S v && within l y v)

  odd_other : (a : ℕ) → (x ≡ a → ⊥) → (y ≡ a → ⊥) → oddly_lit B m S a ≡ oddly_lit B l S a
  unfolding oddly_lit
  odd_other a notx noty =
      odd_cong B.vertices (λ v. S v && within m a v) (λ v. S v && within l a v)
      (λ v h. rw (joined v, renamed_other x y (label l v) a notx noty))

-- Taking an edge back

-- S, flipped at the ends of edge e where p holds
abbrev flipped : Board → Bool → ℕ → Set → Set
flipped B p e S v = S v ⊕ (p && meets B e v)

-- Edge e joins two parts. Where S is even on every part after it, S flipped at its ends is even on every part before it, if it is flipped
-- exactly where the part of its first end is odd.
split_even : (B : Board) → Inside B → (S : Set) (l m : List ℕ) (e : ℕ) → e < edges B
    → (apart : label l (first_end B e) ≡ label l (second_end B e) → ⊥)
    → ((v : ℕ) → label m v ≡ renamed (label l (first_end B e)) (label l (second_end B e)) (label l v))
    → label l (first_end B e) < B.vertices → label l (second_end B e) < B.vertices
    → EvenlyLit B m S → EvenlyLit B l (flipped B (oddly_lit B l S (label l (first_end B e))) e S)
split_even B r S l m e h apart joined lx ly even = record { even = λ a u. whole a ∙ go a u (eqb x a) (eqb y a) refl refl }
  where
    x : ℕ
    x = label l (first_end B e)

    y : ℕ
    y = label l (second_end B e)

    whole : (a : ℕ) → oddly_lit B l (flipped B (oddly_lit B l S x) e S) a ≡ oddly_lit B l S a ⊕ (oddly_lit B l S x && (eqb x a ⊕ eqb y a))
    whole a = odd_together B l S (λ v. oddly_lit B l S x && meets B e v) a ∙ ap (λ t. oddly_lit B l S a ⊕ t) (odd_ends B r l (oddly_lit B l S x) e a h)

    go : (a : ℕ) → a < B.vertices → (s t : Bool) → eqb x a ≡ s → eqb y a ≡ t → oddly_lit B l S a ⊕ (oddly_lit B l S x && (eqb x a ⊕ eqb y a)) ≡ false
    go a u true true p q = absurd (apart (eqb-true x a p ∙ sym (eqb-true y a q)))
    go a u true false p q = rw (p, q, and-true (oddly_lit B l S x), eqb-true x a p) (xor_self (oddly_lit B l S a))
    go a u false true p q =
        rw (p, q, and-true (oddly_lit B l S x), sym (eqb-true y a q))
        (xor_comm (oddly_lit B l S y) (oddly_lit B l S x) ∙ sym (odd_joined B S l m x y apart joined) ∙ even.even (min x y) (omega arith))
    go a u false false p q =
        rw (p, q, and-false (oddly_lit B l S x))
        (xor_false (oddly_lit B l S a) ∙ sym (odd_other B S l m x y apart joined a (eqb-false x a p) (eqb-false y a q)) ∙ even.even a u)

-- Existence

-- a set of edges of the forest of F, below k, with the odd ends S
pub record Peeled (B : Board) (F : Set) (k : ℕ) (S : Set) : Type 0 where
  pub set : Set
  pub less : (e : ℕ) → set e ≡ true → e < k
  pub inside : (e : ℕ) → set e ≡ true → forest B F e ≡ true
  pub has : HasOddEnds B set S

-- with every vertex alone, a set that is even on every part is empty
alone_even : (B : Board) (G S : Set) → EvenlyLit B (labels_up_to B G 0) S → (v : ℕ) → v < B.vertices → S v ≡ false
unfolding oddly_lit
alone_even B G S even v h = sym itself ∙ even.even v h
  where
    others : (i : ℕ) → i < B.vertices → (v ≡ i → ⊥) → (S i && within (labels_up_to B G 0) v i) ≡ false
    others i u apart = rw (label_start B G i u, ne_eqb i v (λ q. apart (sym q))) (and-false (S i))

    itself : oddly_lit B (labels_up_to B G 0) S v ≡ S v
    itself =
        odd_one B.vertices v (λ i. S i && within (labels_up_to B G 0) v i) h others
        ∙ rw (label_start B G v h, eq-eqb v v refl) (and-true (S v))

-- edge e comes to the edges below it where p holds
with_edge : (B : Board) (F : Set) (p : Bool) (e : ℕ) → e < edges B → (S : Set) → forest B F e ≡ true → Peeled B F e (flipped B p e S)
    → Peeled B F (suc e) S
with_edge B F p e h S taken w =
    record {
      set = together w.set (λ i. p && eqb e i);
      less = λ i q. omega (arith, (members i (w.set i) refl q).0);
      inside = λ i q. (members i (w.set i) refl q).1;
      has = record {
        at = λ v u. odd_end_together B w.set (λ i. p && eqb e i) v ∙ ap₂ ◌⊕◌ (w.has.at v u) (odd_end_edge B p e h v)
            ∙ xor_twice (S v) (p && meets B e v);
      };
    }
  where
    last : (i : ℕ) → (p && eqb e i) ≡ true → e ≡ i
    last i q = eqb-true e i (and_right p (eqb e i) q)

    members : (i : ℕ) (t : Bool) → w.set i ≡ t → (t ⊕ (p && eqb e i)) ≡ true → (i < suc e) × (forest B F i ≡ true)
    members i true q s = (omega (arith, w.less i q), w.inside i q)
    members i false q s = (omega (arith, last i s), subst (λ j. forest B F j ≡ true) (last i s) taken)

peel : (B : Board) → Inside B → (F : Set) (k : ℕ) → k ≤ edges B → (S : Set) → EvenlyLit B (labels_up_to B (forest B F) k) S → Peeled B F k S
peel B r F zero h S even =
    record {
      set = λ e. false;
      less = λ e p. absurd (false≢true p);
      inside = λ e p. absurd (false≢true p);
      has = record { at = λ v u. odd_end_empty B v ∙ sym (alone_even B (forest B F) S even v u) };
    }
peel B r F (suc e) h S even = go (forest B F e) refl (λ S even. peel B r F e (omega arith) S even)
  where
    l : List ℕ
    l = labels_up_to B (forest B F) e

    apart : forest B F e ≡ true → label l (first_end B e) ≡ label l (second_end B e) → ⊥
    apart p q = forest_parted B F e p (rw (forest_labels B F e) at q)

    go : (t : Bool) → forest B F e ≡ t → ((S : Set) → EvenlyLit B l S → Peeled B F e S) → Peeled B F (suc e) S
    go true p earlier =
        with_edge B F (oddly_lit B l S (label l (first_end B e))) e h S p
        (earlier (flipped B (oddly_lit B l S (label l (first_end B e))) e S)
        (split_even B r S l (labels_up_to B (forest B F) (suc e)) e h (apart p) (λ v. label_joined B (forest B F) e v p)
        (label_below B (forest B F) e (first_end B e) (r.first_in_range e h)) (label_below B (forest B F) e (second_end B e) (r.second_in_range e h)) even))
    go false p earlier =
        let w = earlier S (subst (λ m. EvenlyLit B m S) (label_passed B (forest B F) e p) even) in
        record { set = w.set; less = λ i q. omega (arith, w.less i q); inside = w.inside; has = w.has }

-- where every part of F holds an even number of S, some subset of its forest has the odd ends S
pub peeled : (B : Board) → Inside B → (F S : Set) → EvenlyLit B (labels B F) S → Peeled B F (edges B) S
unfolding labels
peeled B r F S even = peel B r F (edges B) (le_refl _) S (subst (λ l. EvenlyLit B l S) (sym (forest_labels B F (edges B))) even)
