-- Edges become full one after the other: the counts of ends follow, and with the last end of a vertex the figure of its own tree. No tree is
-- hung meanwhile. Assumes nothing.
use Prim.Native.Nat.{ℕ, suc, ◌+◌, ◌*◌, ◌-◌, ◌≤◌, ◌<◌}
use mathlib.Core.Path.{◌≡◌, refl, sym, ap, ◌∙◌}
use mathlib.Core.Logic.{◌≢◌}
use mathlib.Core.Bool.{Bool, true, false, cond, ◌&&◌, ◌||◌, and-false, or-false, or_assoc}
use mathlib.Core.List.{List}
use native.Mathlib.Decide.{ℕ_discrete}
use native.Mathlib.Omega.{arith}
use borrow.Author.Tests.{eqb-true, eqb-false, eq-eqb, ne_eqb, lt-ltb, le-ltb}
use lib.ListN.{length, get_or, set, length-set}
use lib.Seq.{get_or-set_same, get_or-set_other}
use lib.Dec.{eqb, ltb}
use Rattle.model.specs.Sums.{Set, bit, some_up_to}
use Rattle.model.specs.Board.{vertex_limit}
use Rattle.model.specs.Components.{within}
use Rattle.model.proofs.SumLaws.{count_bound, count_cong, none_some}
use Rattle.model.proofs.CountLaws.{count_before, count_more}
use Rattle.union_find.specs.Trees.{at}
use Rattle.decoder.specs.Gains.{listed, with_listed}
use Rattle.decoder.specs.Figures.{name_mark, names_by, name_of, names, Figurable, Leads, Keeps}
use Rattle.decoder.specs.Exposures.{counted}
use Rattle.decoder.specs.Shutting.{sized, Shuttable, Shuts, ListShuttable, ShutUpTo}
use Rattle.decoder.proofs.NameLaws.{names_label, name_leads}
use Rattle.decoder.proofs.NamesTold.{told_still}
use Rattle.decoder.proofs.EndCounts.{ends_cong, one_fewer, first_left, second_left, ends_fewer}

-- One end

module _ (n : ℕ) (p low x figure : List ℕ) (rest : ℕ → ℕ) (named : Figurable n p low figure) (long : length x ≡ vertex_limit) (v : ℕ) (h : v < n) (some_end : 1 ≤ at x v) (w : Keeps n (names n p low) (sized n (names n p low) (counted x) rest) figure) where
  abbrev l : List ℕ
  l = names n p low

  abbrev a : ℕ
  a = name_of p low v

  few : n ≤ vertex_limit
  few = named.rooted.climbs.limit

  lead : Leads n l a
  lead = name_leads n p low named.lows v h

  within_own : within l a v ≡ true
  within_own = eq-eqb _ _ (names_label n p low v h)

  counted_here : counted x v ≡ true
  counted_here = lt-ltb 0 (at x v) some_end

  both_here : (within l a v && counted x v) ≡ true
  both_here = rw (within_own, counted_here)

  -- a vertex that has a count is counted in its tree's figure
  some_figure : 1 ≤ at figure a
  some_figure = rw (w.named a lead) (omega (arith, count_before v n (λ u. within l a u && counted x u) h both_here))

  -- .. so an end can be taken off
  shuttable : Shuttable p low v x figure
  shuttable = record { vertices = n; named = named; long = long; vertex = h; some_end = some_end; some_figure = some_figure }

  abbrev x' : List ℕ
  x' = set x v (at x v - 1)

  left_over : (u : ℕ) → at x' u ≡ at x u - bit (eqb v u)
  left_over u = one_fewer x v u (omega (arith, few))

  elsewhere : (u : ℕ) → u ≢ v → counted x u ≡ counted x' u
  elsewhere u q =
      let same : at x u ≡ at x' u = sym (left_over u ∙ rw (ne_eqb v u (λ e. q (sym e))) (omega arith)) in
      ap (ltb 0) same

  here : at x' v ≡ at x v - 1
  here = left_over v ∙ rw (eq-eqb v v refl)

  -- the last end: v leaves the boundary of its tree, and of no other
  last_end : at x v ≡ 1 → Keeps n l (sized n l (counted x') rest) (set figure a (at figure a - 1))
  last_end one = record { named = each; others = others }
    where
      out : counted x' v ≡ false
      out = le-ltb 0 (at x' v) (omega (arith, here))

      each : (b : ℕ) → Leads n l b → at (set figure a (at figure a - 1)) b ≡ sized n l (counted x') rest b
      each b leads = elim (ℕ_discrete b a) [
        | yes q ↦
            rw q
            (get_or-set_same figure a (at figure a - 1) 0 (omega (arith, few, named.long, lead.below))
            ∙ omega (
              arith,
              w.named a lead,
              count_more n v (λ u. within l a u && counted x' u) (λ u. within l a u && counted x u) h
                  (rw out (and-false (within l a v))) both_here (λ u e. ap (λ t. within l a u && t) (elsewhere u e)),
            ))
        | no q ↦
            get_or-set_other figure a b (at figure a - 1) 0 q ∙ w.named b leads
            ∙ ap (λ z. rest b + z)
            (count_cong n (λ u. within l b u && counted x u) (λ u. within l b u && counted x' u)
            (λ u k. elim (ℕ_discrete u v) [
              | yes e ↦ rw (e, names_label n p low v h, ne_eqb a b (λ r. q (sym r)))
              | no e ↦ ap (λ t. within l b u && t) (elsewhere u e)
            ]))
      ]

      others : (b : ℕ) → b < vertex_limit → (Leads n l b → ⊥) → name_mark ≤ at (set figure a (at figure a - 1)) b
      others b k none = rw (get_or-set_other figure a b (at figure a - 1) 0 (λ q. none (rw q lead))) (w.others b k none)

  -- another end stays: so does v
  end_left : at x v ≢ 1 → Keeps n l (sized n l (counted x') rest) figure
  end_left more =
      record {
        named = λ b leads. w.named b leads
            ∙ ap (λ z. rest b + z)
            (count_cong n (λ u. within l b u && counted x u) (λ u. within l b u && counted x' u) (λ u k. ap (λ t. within l b u && t) (same u)));
        others = w.others;
      }
    where
      same : (u : ℕ) → counted x u ≡ counted x' u
      same u = elim (ℕ_discrete u v) [
        | yes e ↦ rw e (counted_here ∙ sym (lt-ltb 0 (at x' v) (omega (arith, here))))
        | no e ↦ elsewhere u e
      ]

  shut_long : {x'' figure'' : List ℕ} → Shuts p low v x figure x'' figure'' → length figure'' ≡ vertex_limit
  shut_long s = rw s.figures (go (eqb (at x v) 1))
    where
      go : (t : Bool) → length (cond t (set figure a (at figure a - 1)) figure) ≡ vertex_limit
      go true = simp length-set named.long
      go false = named.long

  -- what was a figure is one, so that no name has changed
  shut_told : ((b : ℕ) → rest b + vertex_limit < name_mark) → {x'' figure'' : List ℕ} → Shuts p low v x figure x'' figure''
      → names_by figure'' ≡ names_by figure
  shut_told small s = rw s.figures (go (eqb (at x v) 1))
    where
      figure_small : at figure a < name_mark
      figure_small = omega (arith, w.named a lead, count_bound n (λ u. within l a u && counted x u), few, small a)

      go : (t : Bool) → names_by (cond t (set figure a (at figure a - 1)) figure) ≡ names_by figure
      go true = told_still figure a (at figure a - 1) figure_small (omega (arith, figure_small)) (omega (arith, few, named.long, lead.below))
      go false = refl

  shut_keeps : {x'' figure'' : List ℕ} → Shuts p low v x figure x'' figure'' → Keeps n l (sized n l (counted x'') rest) figure''
  shut_keeps s = rw (s.counts, s.figures) (go (eqb (at x v) 1) refl)
    where
      go : (t : Bool) → eqb (at x v) 1 ≡ t → Keeps n l (sized n l (counted x') rest) (cond t (set figure a (at figure a - 1)) figure)
      go true q = last_end (eqb-true (at x v) 1 q)
      go false q = end_left (eqb-false (at x v) 1 q)

-- the same of a vertex by another name
pub at_vertex : {p low x figure : List ℕ} {u v : ℕ} → u ≡ v → Shuttable p low v x figure → Shuttable p low u x figure
at_vertex q s = rw q s

-- One edge

module _ {p low ends filled : List ℕ} {k : ℕ} {x₀ figure₀ : List ℕ} (w : ListShuttable p low ends filled k x₀ figure₀) where
  abbrev n : ℕ
  n = w.vertices

  pub shut_none : ShutUpTo w 0 x₀ figure₀
  unfolding some_up_to
  shut_none =
      record {
        long = w.named.long;
        told = w.told;
        counts = ends_cong w.edges ends w.full (with_listed w.full 0 filled) x₀ (λ e h. sym (or-false (w.full e))) w.counts;
        figures = w.figures;
      }

  module _ (i : ℕ) (x figure : List ℕ) (u : ShutUpTo w i x figure) (h : i < k) where
    abbrev e : ℕ
    e = get_or filled i 0

    abbrev first : ℕ
    first = get_or ends (2 * e) 0

    abbrev second : ℕ
    second = get_or ends (2 * e + 1) 0

    edge : e < w.edges
    edge = w.fresh.edges i h

    first_inside : first < n
    first_inside = w.lent.first_in_range e edge

    second_inside : second < n
    second_inside = w.lent.second_in_range e edge

    few_vertices : n ≤ vertex_limit
    few_vertices = w.lent.vertices_limited

    abbrev F : Set
    F = with_listed w.full i filled

    abbrev G : Set
    G = with_listed w.full (suc i) filled

    -- the edge is not full before its turn
    not_yet : F e ≡ false
    not_yet =
        rw (w.fresh.outside i h)
        (none_some i (λ j. eqb (get_or filled j 0) e) (λ j l. ne_eqb (get_or filled j 0) e (w.fresh.distinct j i l h)))

    adds : (j : ℕ) → G j ≡ (F j || eqb e j)
    unfolding some_up_to
    adds j = sym (or_assoc (w.full j) (listed i filled j) (eqb e j))

    named_now : Figurable n p low figure
    named_now = record { rooted = w.named.rooted; lows = w.named.lows; long = u.long }

    first_end_left : 1 ≤ at x first
    first_end_left = first_left w.edges ends F G x e edge not_yet adds u.counts (omega (arith, first_inside, few_vertices))

    pub shut_first : Shuttable p (names_by figure) first x figure
    shut_first = rw u.told (shuttable n p low x figure w.rest named_now u.counts.long first first_inside first_end_left u.figures)

    module _ (x₁ figure₁ : List ℕ) (shut_one : Shuts p (names_by figure) first x figure x₁ figure₁) where
      one : Shuts p low first x figure x₁ figure₁
      one = rw u.told at shut_one

      told₁ : names_by figure₁ ≡ low
      told₁ =
          shut_told n p low x figure w.rest named_now u.counts.long first first_inside first_end_left u.figures w.small one ∙ u.told

      long₁ : length x₁ ≡ vertex_limit
      long₁ = rw one.counts (simp length-set u.counts.long)

      named₁ : Figurable n p low figure₁
      named₁ =
          record {
            rooted = w.named.rooted;
            lows = w.named.lows;
            long = shut_long n p low x figure w.rest named_now u.counts.long first first_inside first_end_left u.figures one;
          }

      figures₁ : Keeps n (names n p low) (sized n (names n p low) (counted x₁) w.rest) figure₁
      figures₁ = shut_keeps n p low x figure w.rest named_now u.counts.long first first_inside first_end_left u.figures one

      second_end_left : 1 ≤ at x₁ second
      second_end_left =
          rw one.counts
          (second_left w.edges ends F G x e edge not_yet adds u.counts (omega (arith, first_inside, few_vertices)) (omega (arith, second_inside, few_vertices)))

      pub shut_second : Shuttable p (names_by figure₁) second x₁ figure₁
      shut_second = rw told₁ (shuttable n p low x₁ figure₁ w.rest named₁ long₁ second second_inside second_end_left figures₁)

      pub shut_next : (x₂ figure₂ : List ℕ) → Shuts p (names_by figure₁) second x₁ figure₁ x₂ figure₂ → ShutUpTo w (suc i) x₂ figure₂
      shut_next x₂ figure₂ shut-two =
          let two : Shuts p low second x₁ figure₁ x₂ figure₂ = rw told₁ at shut-two in
          record {
            long = shut_long n p low x₁ figure₁ w.rest named₁ long₁ second second_inside second_end_left figures₁ two;
            told = shut_told n p low x₁ figure₁ w.rest named₁ long₁ second second_inside second_end_left figures₁ w.small two ∙ told₁;
            counts =
                rw (two.counts, one.counts)
                (ends_fewer w.edges ends F G x e edge not_yet adds u.counts (omega (arith, first_inside, few_vertices)) (omega (arith, second_inside, few_vertices)));
            figures = shut_keeps n p low x₁ figure₁ w.rest named₁ long₁ second second_inside second_end_left figures₁ two;
          }
