-- The rings of a book's clusters: at the start, when vertices leave the boundary, and when two clusters become one. Assumes nothing.
use Prim.Native.Nat.{ℕ, ◌+◌, ◌≤◌, ◌<◌}
use mathlib.Core.Path.{◌≡◌, refl, sym, ap, ◌∙◌, subst}
use mathlib.Core.Logic.{◌≢◌, ◌⊎◌, inl, inr, ⊎_elim}
use mathlib.Core.Bool.{Bool, true, false, ◌&&◌, ◌||◌, false≢true}
use mathlib.Core.List.{List, [], ◌∷◌, ◌++◌}
use native.Mathlib.Decide.{ℕ_discrete}
use native.Mathlib.Nat.{le_antisymm}
use native.Mathlib.Omega.{arith}
use borrow.Author.Tests.{eqb-true, eqb-false, eq-eqb}
use lib.ListN.{set, length-set}
use lib.Seq.{get_or-set_same, get_or-set_other}
use Rattle.model.specs.Board.{vertex_limit}
use Rattle.union_find.specs.Trees.{at, root_of}
use Rattle.union_find.specs.Joining.{same_root}
use Rattle.decoder.specs.declared.book.Book.{Book}
use Rattle.decoder.specs.Exposures.{counted}
use Rattle.decoder.specs.Figures.{name_of}
use Rattle.decoder.specs.Rings.{Passes, times, Ring, Rings, LoneRings, exchanged}
use Rattle.decoder.specs.Books.{parents_by, lows_of, Good, Unites}
use Rattle.decoder.proofs.NameLaws.{name_below}
use Rattle.decoder.proofs.PassLaws.{times_here, times_other, times_cons, times_none, times_append, passes_append, passes_same, Step, step_round}

-- Every vertex alone

-- what is passed in a round of one
only : (v a : ℕ) → 1 ≤ times v (a ∷ []) → v ≡ a
only v a h = elim (ℕ_discrete v a) [
  | yes q ↦ q
  | no q ↦ absurd (none (omega (arith, h, times_other v a [] q, times_none v)))
]
  where
    none : 1 ≤ 0 → ⊥
    none z = omega (arith, z)

single : (v a : ℕ) → times v (a ∷ []) ≤ 1
single v a = elim (ℕ_discrete v a) [
  | yes q ↦ rw q (omega (arith, times_here a [], times_none a))
  | no q ↦ omega (arith, times_other v a [] q, times_none v)
]

pub rings_alone : (n : ℕ) (p low x ring : List ℕ) → ((v : ℕ) → v < n → root_of p v ≡ v) → LoneRings n ring → Rings n p low x ring
unfolding Passes
rings_alone n p low x ring own w = record { long = w.long; each = λ a h named. alone a h }
  where
    alone : (a : ℕ) → a < n → Ring n p x ring a
    alone a h =
        record {
          round = a ∷ [];
          passes = (refl, w.each a h);
          begins = omega (arith, times_here a []);
          distinct = record { once = λ v. single v a; inside = λ v i. rw (only v a i) h };
          own = λ v i. ap (root_of p) (only v a i);
          all = λ v i same c. rw (sym (own v i) ∙ same ∙ own a h) (omega (arith, times_here a []));
        }

-- Fewer vertices are counted

pub rings_fewer : {n : ℕ} {p low x x' ring : List ℕ} → ((v : ℕ) → v < n → counted x' v ≡ true → counted x v ≡ true) → Rings n p low x ring → Rings n p low x' ring
rings_fewer fewer w =
    record {
      long = w.long;
      each = λ a h named.
          let r = w.each a h named in
          record {
            round = r.round;
            passes = r.passes;
            begins = r.begins;
            distinct = r.distinct;
            own = r.own;
            all = λ v i same c. r.all v i same (fewer v i c);
          };
    }

-- Two rings as one

either : (a b : ℕ) → 1 ≤ a + b → (1 ≤ a) ⊎ (1 ≤ b)
either a b h = elim (ℕ_discrete a 0) [ yes q ↦ inr (omega (arith, q, h)) | no q ↦ inl (omega (arith, q)) ]

-- the trees of p and q become one, and their entries in the ring change places: the ring from p on goes through both
module _ (n : ℕ) (P P' x ring ring' : List ℕ) (p q : ℕ) (one : Ring n P x ring p) (other : Ring n P x ring q) (apart : root_of P p ≢ root_of P q) (at_p : at ring' p ≡ at ring q) (at_q : at ring' q ≡ at ring p) (others : (z : ℕ) → z ≢ p → z ≢ q → at ring' z ≡ at ring z) (into : (z : ℕ) → z < n → (root_of P z ≡ root_of P p) ⊎ (root_of P z ≡ root_of P q) → root_of P' z ≡ root_of P' p) (from : (z : ℕ) → z < n → root_of P' z ≡ root_of P' p → (root_of P z ≡ root_of P p) ⊎ (root_of P z ≡ root_of P q)) where
  abbrev first : Step ring p one.round p
  first = step_round ring p one.round one.begins one.passes

  abbrev second : Step ring q other.round q
  second = step_round ring q other.round other.begins other.passes

  in_first : (z : ℕ) → times z one.round ≡ times z (p ∷ first.rest)
  in_first z = ap (times z) first.is

  in_second : (z : ℕ) → times z other.round ≡ times z (q ∷ second.rest)
  in_second z = ap (times z) second.is

  -- no entry between is changed
  kept_first : (z : ℕ) → 1 ≤ times z first.rest → at ring' z ≡ at ring z
  kept_first z h =
      let mine : root_of P z ≡ root_of P p = one.own z (omega (arith, h, in_first z, times_cons z p first.rest)) in
      others z
      (λ e. twice (times p first.rest) (rw e at h) (omega (arith, one.distinct.once p, in_first p, times_here p first.rest)))
      (λ e. apart (sym mine ∙ ap (root_of P) e))
    where
      twice : (k : ℕ) → 1 ≤ k → k ≤ 0 → ⊥
      twice k i j = omega (arith, i, j)

  kept_second : (z : ℕ) → 1 ≤ times z second.rest → at ring' z ≡ at ring z
  kept_second z h =
      let mine : root_of P z ≡ root_of P q = other.own z (omega (arith, h, in_second z, times_cons z q second.rest)) in
      others z
      (λ e. apart (sym (ap (root_of P) e) ∙ mine))
      (λ e. twice (times q second.rest) (rw e at h) (omega (arith, other.distinct.once q, in_second q, times_here q second.rest)))
    where
      twice : (k : ℕ) → 1 ≤ k → k ≤ 0 → ⊥
      twice k i j = omega (arith, i, j)

  abbrev both : List ℕ
  both = (p ∷ second.rest) ++ (q ∷ first.rest)

  sum : (z : ℕ) → times z both ≡ times z one.round + times z other.round
  sum z =
      times_append z (p ∷ second.rest) (q ∷ first.rest)
      ∙ omega (arith, in_first z, in_second z, times_cons z p first.rest, times_cons z q second.rest, times_cons z p second.rest, times_cons z q first.rest)

  goes_round : Passes ring' p both p
  unfolding Passes
  goes_round =
      passes_append ring' p q p (p ∷ second.rest) (q ∷ first.rest)
      (refl, rw at_p (passes_same ring ring' (at ring q) q second.rest kept_second second.goes))
      (refl, rw at_q (passes_same ring ring' (at ring p) p first.rest kept_first first.goes))

  -- what is passed lies in one of the two trees
  which : (z : ℕ) → 1 ≤ times z both → (root_of P z ≡ root_of P p) ⊎ (root_of P z ≡ root_of P q)
  which z h = ⊎_elim (λ i. inl (one.own z i)) (λ i. inr (other.own z i)) (either (times z one.round) (times z other.round) (omega (arith, h, sum z)))

  below : (z : ℕ) → 1 ≤ times z both → z < n
  below z h =
      ⊎_elim (λ i. one.distinct.inside z i) (λ i. other.distinct.inside z i)
      (either (times z one.round) (times z other.round) (omega (arith, h, sum z)))

  once : (z : ℕ) → times z both ≤ 1
  once z = elim (ℕ_discrete (times z one.round) 0) [
    | yes e ↦ omega (arith, e, sum z, other.distinct.once z)
    | no e ↦ elim (ℕ_discrete (times z other.round) 0) [
      | yes f ↦ omega (arith, f, sum z, one.distinct.once z)
      | no f ↦ absurd (apart (sym (one.own z (omega (arith, e))) ∙ other.own z (omega (arith, f))))
    ]
  ]

  pub ring_joined : Ring n P' x ring' p
  ring_joined =
      record {
        round = both;
        passes = goes_round;
        begins = omega (arith, sum p, one.begins);
        distinct = record { once = once; inside = below };
        own = λ z h. into z (below z h) (which z h);
        all = λ z h same c.
            ⊎_elim (λ i. omega (arith, sum z, one.all z h i c)) (λ i. omega (arith, sum z, other.all z h i c)) (from z h same);
      }

-- .. on a book

some_of : (a b c : Bool) → (a || ((a || b) && c)) ≡ true → (a ≡ true) ⊎ (b ≡ true)
some_of true b c h = inl refl
some_of false true c h = inr refl
some_of false false c h = inl h

module _ (b : Book) (x ring : List ℕ) (u v : ℕ) (b' : Book) (good : Good b) (hu : u < b.vertices) (hv : v < b.vertices) (apart : same_root (parents_by b) u v ≡ false) (f : Unites b u v b') (w : Rings b.vertices (parents_by b) (lows_of b) x ring) where
  abbrev n : ℕ
  n = b.vertices

  abbrev P : List ℕ
  P = parents_by b

  abbrev P' : List ℕ
  P' = parents_by b'

  abbrev p : ℕ
  p = name_of P (lows_of b) u

  abbrev q : ℕ
  q = name_of P (lows_of b) v

  abbrev ring' : List ℕ
  ring' = exchanged ring p q

  root_p : root_of P p ≡ root_of P u
  root_p = good.lows.same u hu

  root_q : root_of P q ≡ root_of P v
  root_q = good.lows.same v hv

  below_p : p < n
  below_p = name_below n P (lows_of b) good.lows u hu

  below_q : q < n
  below_q = name_below n P (lows_of b) good.lows v hv

  roots_differ : root_of P u ≢ root_of P v
  roots_differ = eqb-false (root_of P u) (root_of P v) apart

  p_q : p ≢ q
  p_q e = roots_differ (sym root_p ∙ ap (root_of P) e ∙ root_q)

  few : n ≤ vertex_limit
  few = good.packed.trees.climbs.limit

  at_p : at ring' p ≡ at ring q
  at_p = get_or-set_other (set ring p (at ring q)) q p (at ring p) 0 p_q ∙ get_or-set_same ring p (at ring q) 0 (omega (arith, below_p, few, w.long))

  at_q : at ring' q ≡ at ring p
  at_q = get_or-set_same (set ring p (at ring q)) q (at ring p) 0 (simp length-set (omega (arith, below_q, few, w.long)))

  at_others : (z : ℕ) → z ≢ p → z ≢ q → at ring' z ≡ at ring z
  at_others z e g = get_or-set_other (set ring p (at ring q)) q z (at ring p) 0 g ∙ get_or-set_other ring p z (at ring q) 0 e

  -- those who were together stay so
  stays : (y z : ℕ) → y < n → z < n → root_of P y ≡ root_of P z → root_of P' y ≡ root_of P' z
  stays y z hy hz e = eqb-true (root_of P' y) (root_of P' z) (f.one y z hy hz ∙ rw (eq-eqb (root_of P y) (root_of P z) e))

  -- the united cluster is that of u and of v
  united : (z : ℕ) → z < n → root_of P' z ≡ root_of P' u → (root_of P z ≡ root_of P u) ⊎ (root_of P z ≡ root_of P v)
  united z h e =
      ⊎_elim (λ i. inl (eqb-true (root_of P z) (root_of P u) i)) (λ i. inr (eqb-true (root_of P z) (root_of P v) i))
      (some_of (same_root P z u) (same_root P z v) (same_root P u u || same_root P u v)
      (sym (f.one z u h hu) ∙ eq-eqb (root_of P' z) (root_of P' u) e))

  one_now : root_of P' v ≡ root_of P' u
  one_now =
      eqb-true (root_of P' v) (root_of P' u)
      (f.one v u hv hu ∙ rw (eq-eqb (root_of P u) (root_of P u) refl, eq-eqb (root_of P v) (root_of P v) refl) (all (same_root P v u)))
    where
      all : (t : Bool) → (t || ((t || true) && true)) ≡ true
      all true = refl
      all false = refl

  united_in : (z : ℕ) → z < n → (root_of P z ≡ root_of P u) ⊎ (root_of P z ≡ root_of P v) → root_of P' z ≡ root_of P' u
  united_in z h s = ⊎_elim (λ i. stays z u h hu i) (λ i. stays z v h hv i ∙ one_now) s

  root_p' : root_of P' p ≡ root_of P' u
  root_p' = stays p u below_p hu root_p

  root_q' : root_of P' q ≡ root_of P' u
  root_q' = stays q v below_q hv root_q ∙ one_now

  -- a smallest vertex was one before
  led : (a : ℕ) → a < n → name_of P' (lows_of b') a ≡ a → name_of P (lows_of b) a ≡ a
  led a h named =
      let c = name_of P (lows_of b) a in
      let hc = name_below n P (lows_of b) good.lows a h in
      let root : root_of P' c ≡ root_of P' a = stays c a hc h (good.lows.same a h) in
      let least : name_of P' (lows_of b') c ≤ c = f.good.lows.below c (omega (arith, hc, f.vertices)) in
      le_antisymm (good.lows.below a h) (omega (arith, least, ap (at (lows_of b')) root, named))

  ring_p : Ring n P x ring p
  ring_p = w.each p below_p (ap (at (lows_of b)) root_p)

  ring_q : Ring n P x ring q
  ring_q = w.each q below_q (ap (at (lows_of b)) root_q)

  swap : {A C : Type 0} → A ⊎ C → C ⊎ A
  swap s = ⊎_elim (λ a. inr a) (λ c. inl c) s

  joined_p : Ring n P' x ring' p
  joined_p =
      ring_joined n P P' x ring ring' p q ring_p ring_q (λ e. roots_differ (sym root_p ∙ e ∙ root_q)) at_p at_q at_others
      (λ z h s. united_in z h (rw (← root_p, ← root_q) s) ∙ sym root_p')
      (λ z h e. rw (root_p, root_q) (united z h (e ∙ root_p')))

  joined_q : Ring n P' x ring' q
  joined_q =
      ring_joined n P P' x ring ring' q p ring_q ring_p (λ e. roots_differ (sym root_p ∙ sym e ∙ root_q)) at_q at_p (λ z e g. at_others z g e)
      (λ z h s. united_in z h (swap (rw (← root_p, ← root_q) s)) ∙ sym root_q')
      (λ z h e. rw (root_p, root_q) (swap (united z h (e ∙ root_q'))))

  -- a cluster that is none of the two keeps its ring
  kept_ring : (a : ℕ) → a < n → name_of P (lows_of b) a ≡ a → root_of P' a ≢ root_of P' u → Ring n P' x ring' a
  kept_ring a h named differ =
      let r = w.each a h named in
      let out : (z : ℕ) → root_of P' z ≡ root_of P' u → 1 ≤ times z r.round → ⊥ =
      λ z e i. differ (sym (stays z a (r.distinct.inside z i) h (r.own z i)) ∙ e) in
      record {
        round = r.round;
        passes = passes_same ring ring' a a r.round
            (λ z i. at_others z (λ e. out z (ap (root_of P') e ∙ root_p') i) (λ e. out z (ap (root_of P') e ∙ root_q') i)) r.passes;
        begins = r.begins;
        distinct = r.distinct;
        own = λ z i. stays z a (r.distinct.inside z i) h (r.own z i);
        all = λ z i same c. r.all z i (back z i same) c;
      }
    where
      -- it gained no vertex
      back : (z : ℕ) → z < n → root_of P' z ≡ root_of P' a → root_of P z ≡ root_of P a
      back z i same = go (same_root P z a) (same_root P z u) (same_root P z v) (same_root P a u || same_root P a v) refl refl refl
          (sym (f.one z a i h) ∙ eq-eqb (root_of P' z) (root_of P' a) same)
        where
          go : (s t r c : Bool) → same_root P z a ≡ s → same_root P z u ≡ t → same_root P z v ≡ r → (s || ((t || r) && c)) ≡ true → root_of P z ≡ root_of P a
          go true t r c e g k y = eqb-true (root_of P z) (root_of P a) e
          go false true r c e g k y = absurd (differ (sym same ∙ stays z u i hu (eqb-true (root_of P z) (root_of P u) g)))
          go false false true c e g k y = absurd (differ (sym same ∙ stays z v i hv (eqb-true (root_of P z) (root_of P v) k) ∙ one_now))
          go false false false c e g k y = absurd (false≢true y)

  ring_now : (a : ℕ) → a < n → name_of P' (lows_of b') a ≡ a → Ring n P' x ring' a
  ring_now a h named =
      let was = led a h named in
      elim (ℕ_discrete (root_of P' a) (root_of P' u)) [
        | no e ↦ kept_ring a h was e
        | yes e ↦ ⊎_elim
            (λ i. subst (Ring n P' x ring') (sym (ap (at (lows_of b)) i) ∙ was) joined_p)
            (λ i. subst (Ring n P' x ring') (sym (ap (at (lows_of b)) i) ∙ was) joined_q)
            (united a h e)
      ]

  pub rings_united : Rings b'.vertices (parents_by b') (lows_of b') x (exchanged ring p q)
  rings_united = rw f.vertices record { long = simp length-set w.long; each = ring_now }
