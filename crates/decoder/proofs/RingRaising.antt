-- The half-edges that a growth gives, vertex after vertex of a ring and ring after ring: in all, one for each end in what grows.
-- Assumes nothing.
use Prim.Native.Nat.{ℕ, suc, ◌+◌, ◌*◌, ◌≤◌, ◌<◌}
use mathlib.Core.Path.{◌≡◌, refl, sym, ap, ap₂, ◌∙◌, subst}
use mathlib.Core.Logic.{◌≢◌}
use mathlib.Core.Bool.{Bool, true, false, not, ◌&&◌, and-false}
use mathlib.Core.List.{List, [], ◌∷◌, ◌++◌}
use native.Mathlib.Decide.{ℕ_discrete}
use native.Mathlib.Omega.{arith}
use borrow.Author.Tests.{eq-eqb, ne_eqb, lt-ltb, le-ltb, ltb-true, ltb-false}
use lib.ListN.{length, get_or}
use lib.Dec.{eqb, ltb}
use Rattle.model.specs.Sums.{Set, bit}
use Rattle.model.specs.Board.{vertex_limit, EndsWithin}
use Rattle.model.specs.Growth.{full}
use Rattle.model.proofs.EndLaws.{within_limit}
use Rattle.union_find.specs.Trees.{at, root_of}
use Rattle.std.specs.declared.ops.Range.{Range}
use Rattle.decoder.specs.Exposures.{counted}
use Rattle.decoder.specs.Figures.{name_of, odd_figure}
use Rattle.decoder.specs.Gains.{Raised, RaisableAt, RaisesAt, ends_at}
use Rattle.decoder.specs.Rings.{Passes, times, Distinct, way, Ring, Rings, Prunable, Prunes}
use Rattle.decoder.specs.Raising.{RingRaisable, ends_in, RaisesRing, growers, ends_of, Raisable, RaisedBy}
use Rattle.decoder.proofs.EndCounts.{ends_there}
use Rattle.decoder.proofs.Lifting.{raised_none, raised_cong}
use Rattle.decoder.proofs.PassLaws.{times_here, times_cons, times_none, times_last, Step, step, step_round, came, way_is, distinct_short}

-- One ring

module _ {latest earlier ring : List ℕ} {a : ℕ} {s₀ filled₀ : List ℕ} {count₀ : ℕ} (w : RingRaisable latest earlier ring a s₀ filled₀ count₀) where
  -- the ends at the vertices passed have given their half-edges; v is next, and then the rest
  pub record Going (v : ℕ) (s filled : List ℕ) (total : ℕ) : Type 0 where
    pub passed : List ℕ
    pub rest : List ℕ
    pub splits : (u : ℕ) → times u passed + times u (v ∷ rest) ≡ times u w.round
    pub begun : 1 ≤ times a passed + bit (eqb a v)
    pub goes : Passes ring (at ring v) rest a
    pub raised : Raised w.start (λ e. w.gains e + ends_in w.ends passed e) s filled total

  pub ring_begins : Going a s₀ filled₀ count₀
  ring_begins =
      let first = step_round ring a w.round w.begins w.passes in
      record {
        passed = [];
        rest = first.rest;
        splits = λ u. omega (arith, times_none u, ap (times u) first.is);
        begun = omega (arith, ap bit (eq-eqb a a refl));
        goes = first.goes;
        raised =
            raised_cong w.gains (λ e. w.gains e + ends_in w.ends [] e)
            (λ e h loose. omega (arith, times_none (get_or w.ends (2 * e) 0), times_none (get_or w.ends (2 * e + 1) 0)))
            w.supports w.raised;
      }

  module _ {v : ℕ} {s filled : List ℕ} {total : ℕ} (now : Going v s filled total) where
    -- a is passed already, or it is v
    a_passed : times a now.rest ≡ 0
    a_passed = omega (arith, now.splits a, now.begun, w.distinct.once a, times_cons a v now.rest)

    rest_distinct : Distinct vertex_limit now.rest
    rest_distinct =
        record {
          once = λ u. omega (arith, now.splits u, w.distinct.once u, times_cons u v now.rest);
          inside = λ u h. w.distinct.inside u (omega (arith, now.splits u, h, times_cons u v now.rest));
        }

    -- so many vertices come after v
    pub ring_steps : length (way vertex_limit ring (at ring v) a) ≡ length now.rest
    ring_steps = ap length (way_is vertex_limit ring (at ring v) a now.rest now.goes a_passed (distinct_short vertex_limit now.rest rest_distinct))

    pub ring_inside : v < vertex_limit
    ring_inside = w.distinct.inside v (omega (arith, now.splits v, times_here v now.rest))

    pub raisable_next : RaisableAt latest earlier v s filled total
    raisable_next =
        record {
          ends = w.ends;
          lent = subst (λ m. EndsWithin vertex_limit m w.ends) (w.raised.long ∙ sym now.raised.long) w.lent;
          lists = w.lists;
          vertex = ring_inside;
          start = w.start;
          gains = λ e. w.gains e + ends_in w.ends now.passed e;
          supports = w.supports;
          raised = now.raised;
        }

    module _ (r : ℕ) (s' filled' : List ℕ) (raises : RaisesAt latest earlier v s filled total r s' filled') where
      -- v has given its half-edges
      raised_here : Raised w.start (λ e. w.gains e + ends_in w.ends (now.passed ++ (v ∷ [])) e) s' filled' r
      unfolding raisable_next
      raised_here =
          raised_cong (λ e. w.gains e + ends_in w.ends now.passed e + ends_at w.ends v e) (λ e. w.gains e + ends_in w.ends (now.passed ++ (v ∷ [])) e)
          (λ e h loose. omega (arith, times_last (get_or w.ends (2 * e) 0) v now.passed, times_last (get_or w.ends (2 * e + 1) 0) v now.passed))
          w.supports (raises.each raisable_next)

      -- the round is over
      pub ring_ends : at ring v ≡ a → Raised w.start (λ e. w.gains e + ends_in w.ends w.round e) s' filled' r
      ring_ends q =
          raised_cong (λ e. w.gains e + ends_in w.ends (now.passed ++ (v ∷ [])) e) (λ e. w.gains e + ends_in w.ends w.round e)
          (λ e h loose. ap₂ (λ i j. w.gains e + (i + j)) (all (get_or w.ends (2 * e) 0)) (all (get_or w.ends (2 * e + 1) 0)))
          w.supports raised_here
        where
          nothing : now.rest ≡ []
          nothing = came ring (at ring v) a now.rest q a_passed now.goes

          all : (u : ℕ) → times u (now.passed ++ (v ∷ [])) ≡ times u w.round
          all u = omega (arith, now.splits u, times_last u v now.passed, times_cons u v now.rest, ap (times u) nothing, times_none u)

      module _ (differ : at ring v ≢ a) where
        abbrev pub ring_next : Step ring (at ring v) now.rest a
        ring_next = step ring (at ring v) a now.rest differ now.goes

        pub ring_goes_on : Going (at ring v) s' filled' r
        ring_goes_on =
            record {
              passed = now.passed ++ (v ∷ []);
              rest = ring_next.rest;
              splits = λ u. omega (arith, now.splits u, times_last u v now.passed, times_cons u v now.rest, ap (times u) ring_next.is);
              begun = omega (arith, now.begun, times_last a v now.passed);
              goes = ring_next.goes;
              raised = raised_here;
            }

  pub ring_fewer : {v : ℕ} {s filled : List ℕ} {total : ℕ} (now : Going v s filled total) (r : ℕ) (s' filled' : List ℕ)
      (raises : RaisesAt latest earlier v s filled total r s' filled') (differ : at ring v ≢ a)
      → length (way vertex_limit ring (at ring (at ring v)) a) < length (way vertex_limit ring (at ring v) a)
  unfolding ring_goes_on
  ring_fewer now r s' filled' raises differ =
      let same : (ring_goes_on now r s' filled' raises differ).rest ≡ (ring_next now r s' filled' raises differ).rest = refl in
      omega (
        arith,
        ring_steps now,
        ring_steps (ring_goes_on now r s' filled' raises differ),
        ap length same,
        ap length (ring_next now r s' filled' raises differ).is,
      )

-- Ring after ring

ltb_next : (x a : ℕ) → x ≢ a → ltb x a ≡ ltb x (suc a)
ltb_next x a q = go (ltb x a) refl
  where
    go : (t : Bool) → ltb x a ≡ t → t ≡ ltb x (suc a)
    go true p = sym (lt-ltb x (suc a) (omega (arith, ltb-true x a p)))
    go false p = sym (le-ltb x (suc a) (omega (arith, ltb-false x a p)))

module _ {latest earlier figure : List ℕ} {r : Range ℕ} {x ring₀ s filled₀ : List ℕ} (w : Raisable latest earlier figure r x ring₀ s filled₀) where
  abbrev n : ℕ
  n = w.vertices

  abbrev P : List ℕ
  P = w.parent

  abbrev name : ℕ → ℕ
  name = name_of P w.low

  abbrev R : ℕ → Set
  R k = growers name figure r.start k

  nobody : (v : ℕ) → R r.start v ≡ false
  nobody v = go (ltb (name v) r.start)
    where
      go : (t : Bool) → (not t && (t && odd_figure figure (name v))) ≡ false
      go true = refl
      go false = refl

  pub raise_begins : RaisedBy w r.start 0 ring₀ s filled₀
  raise_begins =
      record {
        raised =
            raised_cong (λ e. 0) (ends_of w.ends (R r.start))
            (λ e h loose. rw (nobody (get_or w.ends (2 * e) 0), nobody (get_or w.ends (2 * e + 1) 0)))
            w.supports (raised_none s filled₀ w.supports w.room);
        rings = w.rings;
      }

  few : n ≤ vertex_limit
  few = w.lent.vertices_limited

  module _ {a : ℕ} {count : ℕ} {ring s' filled : List ℕ} (now : RaisedBy w a count ring s' filled) (begun : r.start ≤ a) (below : a < n) where
    -- who has another name grows with a as without
    others : (v : ℕ) → name v ≢ a → R a v ≡ R (suc a) v
    others v q = ap (λ t. not (ltb (name v) r.start) && (t && odd_figure figure (name v))) (ltb_next (name v) a q)

    -- a is not odd
    pub raise_passes : odd_figure figure a ≡ false → RaisedBy w (suc a) count ring s' filled
    raise_passes even =
        record {
          raised =
              raised_cong (ends_of w.ends (R a)) (ends_of w.ends (R (suc a)))
              (λ e h loose. ap₂ (λ i j. bit i + bit j) (each (get_or w.ends (2 * e) 0)) (each (get_or w.ends (2 * e + 1) 0)))
              w.supports now.raised;
          rings = now.rings;
        }
      where
        each : (v : ℕ) → R a v ≡ R (suc a) v
        each v = elim (ℕ_discrete (name v) a) [
          | yes q ↦
              rw (q, even, and-false (ltb a a), and-false (ltb a (suc a)))
          | no q ↦ others v q
        ]

    module _ (odd : odd_figure figure a ≡ true) where
      named : name a ≡ a
      named = w.leads a below odd

      pub prunable : Prunable x ring a
      prunable =
          record {
            vertices = n;
            few = few;
            parent = P;
            low = w.low;
            rings = now.rings;
            below = below;
            named = named;
          }

      module _ (ring' : List ℕ) (pruned : Prunes x ring a ring') where
        rings_after : Rings n P w.low x ring'
        unfolding prunable
        rings_after = pruned.each prunable

        abbrev mine : Ring n P x ring' a
        mine = rings_after.each a below named

        pub ring_raisable : RingRaisable latest earlier ring' a s' filled count
        ring_raisable =
            record {
              ends = w.ends;
              lent = subst (λ m. EndsWithin vertex_limit m w.ends) (sym now.raised.long) (within_limit w.lent);
              lists = w.lists;
              long = rings_after.long;
              vertex = omega (arith, below, few);
              round = mine.round;
              passes = mine.passes;
              begins = mine.begins;
              distinct = record { once = mine.distinct.once; inside = λ u h. omega (arith, mine.distinct.inside u h, few) };
              start = s;
              gains = ends_of w.ends (R a);
              supports = w.supports;
              raised = now.raised;
            }

        -- a vertex with a count is passed once, if it is in the tree
        passed_once : (v : ℕ) → v < n → counted x v ≡ true → times v mine.round ≡ bit (eqb (name v) a)
        passed_once v h c = elim (ℕ_discrete (root_of P v) (root_of P a)) [
          | yes q ↦
              rw (eq-eqb (name v) a (ap (at w.low) q ∙ named))
              (omega (arith, mine.all v h q c, mine.distinct.once v))
          | no q ↦
              rw (ne_eqb (name v) a (λ e. q (sym (w.lows.same v h) ∙ ap (root_of P) e)))
              (elim (ℕ_discrete (times v mine.round) 0) [ yes z ↦ z | no z ↦ absurd (q (mine.own v (omega (arith, z)))) ])
        ]

        -- so it gets its share
        share : (v : ℕ) → v < n → counted x v ≡ true → bit (R a v) + times v mine.round ≡ bit (R (suc a) v)
        share v h c = rw (passed_once v h c) (elim (ℕ_discrete (name v) a) [
          | yes q ↦ rw (q, eq-eqb a a refl, le-ltb a a (omega arith), lt-ltb a (suc a) (omega arith), le-ltb a r.start begun, odd)
          | no q ↦ rw (ne_eqb (name v) a q, others v q) (omega arith)
        ])

        pub raise_adds : (count' : ℕ) (s'' filled' : List ℕ) → RaisesRing latest earlier ring' a s' filled count count' s'' filled'
            → RaisedBy w (suc a) count' ring' s'' filled'
        unfolding ring_raisable
        raise_adds count' s'' filled' raises =
            record {
              raised =
                  raised_cong (λ e. ends_of w.ends (R a) e + ends_in w.ends mine.round e) (ends_of w.ends (R (suc a)))
                  (λ e h loose.
                  let there = ends_there (length s) w.ends (full s) x e h loose (within_limit w.lent) w.counts in
                  omega (
                    arith,
                    share (get_or w.ends (2 * e) 0) (w.lent.first_in_range e h) there.0,
                    share (get_or w.ends (2 * e + 1) 0) (w.lent.second_in_range e h) there.1,
                  ))
                  w.supports (raises.each ring_raisable);
              rings = rings_after;
            }
