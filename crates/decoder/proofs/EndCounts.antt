-- The counts of ends at each vertex, as edges are passed and as they become full. Assumes nothing.
use Prim.Native.Nat.{ℕ, suc, ◌+◌, ◌*◌, ◌-◌, ◌≤◌, ◌<◌}
use mathlib.Core.Path.{◌≡◌, refl, sym, ap, ap₂, ◌∙◌}
use mathlib.Core.Logic.{◌≢◌}
use mathlib.Core.Bool.{Bool, true, false, cond, not, ◌&&◌, ◌||◌, and-false, and-true, or-false, or-true, and-or_distrib_right}
use mathlib.Core.List.{List}
use native.Mathlib.Decide.{ℕ_discrete}
use native.Mathlib.Omega.{arith}
use borrow.Author.Tests.{eqb-true, eq-eqb, ne_eqb, ltb-true, lt-ltb}
use lib.ListN.{length, get_or, set, replicate, length-set, length-replicate, get_or-replicate}
use lib.Dec.{eqb, ltb}
use Rattle.model.specs.Sums.{Set, bit, count_up_to}
use Rattle.model.specs.Board.{vertex_limit, unmarked, EndsWithin}
use Rattle.model.specs.Syndrome.{touches}
use Rattle.model.specs.Growth.{full, exposed}
use Rattle.model.proofs.SumLaws.{count_cong, count_bound, count_mono}
use Rattle.model.proofs.CountLaws.{count_more, counts_some}
use Rattle.model.proofs.ListLaws.{get_d_set}
use Rattle.union_find.specs.Trees.{at}
use Rattle.decoder.specs.Exposures.{loose_first, loose_second, loose_ends, Exposures, counted, Countable}

-- One end more, one end fewer

one_more : (x : List ℕ) (a v : ℕ) → a < length x → at (set x a (at x a + 1)) v ≡ at x v + bit (eqb a v)
one_more x a v h = get_d_set x a v (at x a + 1) 0 h ∙ go (eqb a v) refl
  where
    go : (t : Bool) → eqb a v ≡ t → cond t (at x a + 1) (at x v) ≡ at x v + bit t
    go true p = rw (eqb-true a v p)
    go false p = omega arith

pub one_fewer : (x : List ℕ) (a v : ℕ) → a < length x → at (set x a (at x a - 1)) v ≡ at x v - bit (eqb a v)
one_fewer x a v h = get_d_set x a v (at x a - 1) 0 h ∙ go (eqb a v) refl
  where
    go : (t : Bool) → eqb a v ≡ t → cond t (at x a - 1) (at x v) ≡ at x v - bit t
    go true p = rw (eqb-true a v p)
    go false p = omega arith

-- only what is full among the edges matters
pub ends_cong : (m : ℕ) (ends : List ℕ) (F G : Set) (x : List ℕ) → ((e : ℕ) → e < m → F e ≡ G e) → Exposures m ends F x → Exposures m ends G x
ends_cong m ends F G x same w =
    record {
      long = w.long;
      counts = λ v h. w.counts v h
          ∙ ap₂ ◌+◌
          (count_cong m (loose_first ends F v) (loose_first ends G v) (λ e l. ap (λ t. eqb (get_or ends (2 * e) 0) v && not t) (same e l)))
          (count_cong m (loose_second ends F v) (loose_second ends G v) (λ e l. ap (λ t. eqb (get_or ends (2 * e + 1) 0) v && not t) (same e l)));
    }

-- where more edges are full, no further vertex has a count
pub counted_fewer : (m : ℕ) (ends : List ℕ) (F G : Set) (x x' : List ℕ) → ((e : ℕ) → e < m → F e ≡ true → G e ≡ true) → Exposures m ends F x
    → Exposures m ends G x' → (v : ℕ) → v < vertex_limit → counted x' v ≡ true → counted x v ≡ true
counted_fewer m ends F G x x' more w w' v h some =
    lt-ltb 0 (at x v)
    (omega (
      arith,
      ltb-true 0 (at x' v) some,
      w.counts v h,
      w'.counts v h,
      count_mono m (loose_first ends G v) (loose_first ends F v) (λ e l. loose (eqb (get_or ends (2 * e) 0) v) (F e) (G e) (more e l)),
      count_mono m (loose_second ends G v) (loose_second ends F v) (λ e l. loose (eqb (get_or ends (2 * e + 1) 0) v) (F e) (G e) (more e l)),
    ))
  where
    loose : (here f g : Bool) → (f ≡ true → g ≡ true) → (here && not g) ≡ true → (here && not f) ≡ true
    loose false f g i p = p
    loose true false g i p = refl
    loose true true true i p = p
    loose true true false i p = i refl

-- The first pass over the edges

pub ends_none : (ends : List ℕ) (F : Set) (n : ℕ) → n ≡ vertex_limit → Exposures 0 ends F (replicate n 0)
unfolding count_up_to
ends_none ends F n p = record { long = length-replicate n 0 ∙ p; counts = λ v h. get_or-replicate n v 0 0 (omega arith) }

-- there is room for one more end, and for another
pub room_first : (k : ℕ) (ends : List ℕ) (F : Set) (x : List ℕ) → k ≤ 4096 → Exposures k ends F x → (a : ℕ) → a < vertex_limit → Countable x a
room_first k ends F x few w a h =
    record {
      long = w.long;
      vertex = h;
      room = omega (arith, w.counts a h, count_bound k (loose_first ends F a), count_bound k (loose_second ends F a));
    }

pub room_second : (k : ℕ) (ends : List ℕ) (F : Set) (x : List ℕ) → k ≤ 4096 → Exposures k ends F x → (a : ℕ) → a < vertex_limit → {x₁ : List ℕ}
    → x₁ ≡ set x a (at x a + 1) → (b : ℕ) → b < vertex_limit → Countable x₁ b
room_second k ends F x few w a ha {x₁} q b hb =
    rw q
    record {
      long = simp length-set w.long;
      vertex = hb;
      room =
          rw (one_more x a b (omega (arith, w.long)))
          (go (eqb a b) (omega (arith, w.counts b hb, count_bound k (loose_first ends F b), count_bound k (loose_second ends F b))));
    }
  where
    go : (t : Bool) → at x b < 65534 → at x b + bit t < 65535
    go true h = omega arith
    go false h = omega arith

pub ends_more : (k : ℕ) (ends : List ℕ) (F : Set) (x : List ℕ) {x₁ x₂ : List ℕ} {a b : ℕ} → a ≡ get_or ends (2 * k) 0 → b ≡ get_or ends (2 * k + 1) 0
    → a < vertex_limit → b < vertex_limit → F k ≡ false → x₁ ≡ set x a (at x a + 1) → x₂ ≡ set x₁ b (at x₁ b + 1)
    → Exposures k ends F x → Exposures (suc k) ends F x₂
unfolding count_up_to
ends_more k ends F x {x₁} {x₂} {a} {b} p q ha hb loose q₁ q₂ w =
    rw (q₂, q₁)
    record {
      long = simp length-set w.long;
      counts = λ v h.
          one_more (set x a (at x a + 1)) b v (simp length-set (omega (arith, w.long)))
          ∙ ap (λ z. z + bit (eqb b v)) (one_more x a v (omega (arith, w.long)) ∙ ap (λ z. z + bit (eqb a v)) (w.counts v h))
          ∙ rw (loose, and-true (eqb (get_or ends (2 * k) 0) v), and-true (eqb (get_or ends (2 * k + 1) 0) v), ← p, ← q) (omega arith);
    }

-- a full edge adds no end
pub ends_passed : (k : ℕ) (ends : List ℕ) (F : Set) (x : List ℕ) → F k ≡ true → Exposures k ends F x → Exposures (suc k) ends F x
unfolding count_up_to
ends_passed k ends F x taken w =
    record {
      long = w.long;
      counts = λ v h. w.counts v h ∙ rw (taken, and-false (eqb (get_or ends (2 * k) 0) v), and-false (eqb (get_or ends (2 * k + 1) 0) v)) (omega arith);
    }

-- An edge becomes full

-- one edge fewer is loose, where it has the end
loose_fewer : (m : ℕ) (end : ℕ → ℕ) (F G : Set) (e v : ℕ) → e < m → F e ≡ false → ((i : ℕ) → G i ≡ (F i || eqb e i))
    → count_up_to m (λ i. eqb (end i) v && not (F i)) ≡ count_up_to m (λ i. eqb (end i) v && not (G i)) + bit (eqb (end e) v)
loose_fewer m end F G e v h out adds = go (eqb (end e) v) refl
  where
    elsewhere : (i : ℕ) → i ≢ e → (eqb (end i) v && not (F i)) ≡ (eqb (end i) v && not (G i))
    elsewhere i q = rw (adds i, ne_eqb e i (λ r. q (sym r)), or-false (F i))

    there : G e ≡ true
    there = adds e ∙ rw (eq-eqb e e refl, or-true (F e))

    go : (t : Bool) → eqb (end e) v ≡ t → count_up_to m (λ i. eqb (end i) v && not (F i)) ≡ count_up_to m (λ i. eqb (end i) v && not (G i)) + bit t
    go true p =
        count_more m e (λ i. eqb (end i) v && not (G i)) (λ i. eqb (end i) v && not (F i)) h
        (rw (p, there)) (rw (p, out)) elsewhere ∙ omega arith
    go false p =
        count_cong m (λ i. eqb (end i) v && not (F i)) (λ i. eqb (end i) v && not (G i))
        (λ i l. elim (ℕ_discrete i e) [ yes q ↦ rw (q, p) | no q ↦ elsewhere i q ])
        ∙ omega arith

module _ (m : ℕ) (ends : List ℕ) (F G : Set) (x : List ℕ) (e : ℕ) (h : e < m) (out : F e ≡ false) (adds : (i : ℕ) → G i ≡ (F i || eqb e i)) (w : Exposures m ends F x) where
  abbrev a : ℕ
  a = get_or ends (2 * e) 0

  abbrev b : ℕ
  b = get_or ends (2 * e + 1) 0

  -- both ends are counted
  ends_counted : (v : ℕ) → v < vertex_limit → at x v ≡ loose_ends m ends G v + bit (eqb a v) + bit (eqb b v)
  ends_counted v l =
      w.counts v l
      ∙ ap₂ ◌+◌ (loose_fewer m (λ i. get_or ends (2 * i) 0) F G e v h out adds) (loose_fewer m (λ i. get_or ends (2 * i + 1) 0) F G e v h out adds)
      ∙ omega arith

  pub first_left : a < vertex_limit → 1 ≤ at x a
  first_left l = omega (arith, ends_counted a l, ap bit (eq-eqb a a refl))

  pub second_there : b < vertex_limit → 1 ≤ at x b
  second_there l = omega (arith, ends_counted b l, ap bit (eq-eqb b b refl))

  module _ (l : a < vertex_limit) (l' : b < vertex_limit) where
    pub second_left : 1 ≤ at (set x a (at x a - 1)) b
    second_left =
        rw (one_fewer x a b (omega (arith, w.long)))
        (omega (arith, ends_counted b l', ap bit (eq-eqb b b refl)))

    pub ends_fewer : Exposures m ends G (set (set x a (at x a - 1)) b (at (set x a (at x a - 1)) b - 1))
    ends_fewer =
        record {
          long = simp length-set w.long;
          counts = λ v k.
              one_fewer (set x a (at x a - 1)) b v (simp length-set (omega (arith, w.long)))
              ∙ ap (λ z. z - bit (eqb b v)) (one_fewer x a v (omega (arith, w.long)))
              ∙ omega (arith, ends_counted v k);
        }

-- both ends of an edge that isn't full have a count
pub ends_there : (m : ℕ) (ends : List ℕ) (F : Set) (x : List ℕ) (e : ℕ) → e < m → F e ≡ false → EndsWithin vertex_limit m ends → Exposures m ends F x
    → (counted x (get_or ends (2 * e) 0) ≡ true) × (counted x (get_or ends (2 * e + 1) 0) ≡ true)
ends_there m ends F x e h out lent w =
    let G : Set = λ i. F i || eqb e i in (
      lt-ltb 0 _ (first_left m ends F G x e h out (λ i. refl) w (lent.first_in_range e h)),
      lt-ltb 0 _ (second_there m ends F G x e h out (λ i. refl) w (lent.second_in_range e h)),
    )

-- the vertices with a count are the exposed ones
pub counted_exposed : (n m : ℕ) (ends opened s x : List ℕ) → Exposures m ends (full s) x → (v : ℕ) → v < vertex_limit
    → counted x v ≡ exposed (unmarked n m ends opened) s v
unfolding exposed
counted_exposed n m ends opened s x w v h =
    ap (ltb 0) (w.counts v h)
    ∙ counts_some m (loose_first ends (full s) v) (loose_second ends (full s) v) (λ e. touches (unmarked n m ends opened) e v && not (full s e))
    (λ e l. and-or_distrib_right (eqb (get_or ends (2 * e) 0) v) (eqb (get_or ends (2 * e + 1) 0) v) (not (full s e)))
    ∙ rw (length-replicate {A = ℕ} m 0)
