-- A ring loses the vertices that have left the boundary, one after the other. Assumes nothing.
use Prim.Native.Nat.{ℕ, ◌+◌, ◌≤◌, ◌<◌}
use mathlib.Core.Path.{◌≡◌, refl, sym, ap, ◌∙◌}
use mathlib.Core.Logic.{◌≢◌}
use mathlib.Core.Bool.{true, false≢true}
use mathlib.Core.List.{List, [], ◌∷◌, ◌++◌}
use native.Mathlib.Decide.{ℕ_discrete}
use native.Mathlib.Omega.{arith}
use borrow.Author.Tests.{eq-eqb, le-ltb}
use lib.ListN.{length, set, length-set}
use lib.Seq.{get_or-set_same, get_or-set_other}
use lib.Dec.{eqb}
use Rattle.model.specs.Sums.{bit}
use Rattle.model.specs.Board.{vertex_limit}
use Rattle.union_find.specs.Trees.{at, root_of}
use Rattle.decoder.specs.Exposures.{counted}
use Rattle.decoder.specs.Figures.{name_of}
use Rattle.decoder.specs.Rings.{Passes, times, Distinct, way, Ring, Rings, Prunable}
use Rattle.decoder.proofs.PassLaws.{times_here, times_other, times_cons, times_none, times_append, times_last, passes_on, passes_same, Step, step, step_round, came, way_is, distinct_short}

module _ {x ring₀ : List ℕ} {a : ℕ} (w : Prunable x ring₀ a) where
  abbrev n : ℕ
  n = w.vertices

  abbrev P : List ℕ
  P = w.parent

  -- the ring goes from a through what was passed to `kept`, the last that stays, and on from v through the rest
  pub record Pruning (ring : List ℕ) (kept v : ℕ) : Type 0 where
    pub long : length ring ≡ vertex_limit
    pub others : (u : ℕ) → u < n → root_of P u ≢ root_of P a → at ring u ≡ at ring₀ u
    pub passed : List ℕ
    pub rest : List ℕ
    pub to_kept : Passes ring a passed kept
    pub on : at ring kept ≡ v
    pub goes : Passes ring v rest a
    pub begun : 1 ≤ times a passed + bit (eqb a kept)
    pub once : (u : ℕ) → times u passed + times u (kept ∷ rest) ≤ 1
    pub inside : (u : ℕ) → 1 ≤ times u passed + times u (kept ∷ rest) → u < n
    pub own : (u : ℕ) → 1 ≤ times u passed + times u (kept ∷ rest) → root_of P u ≡ root_of P a
    pub all : (u : ℕ) → u < n → root_of P u ≡ root_of P a → counted x u ≡ true → 1 ≤ times u passed + times u (kept ∷ rest)

  abbrev whole : Ring n P x ring₀ a
  whole = w.rings.each a w.below w.named

  pub prune_begins : Pruning ring₀ a (at ring₀ a)
  unfolding Passes
  prune_begins =
      let first = step_round ring₀ a whole.round whole.begins whole.passes in
      let same : (u : ℕ) → times u [] + times u (a ∷ first.rest) ≡ times u whole.round =
      λ u. omega (arith, times_none u, ap (times u) first.is) in
      record {
        long = w.rings.long;
        others = λ u h q. refl;
        passed = [];
        rest = first.rest;
        to_kept = refl;
        on = refl;
        goes = first.goes;
        begun = omega (arith, ap bit (eq-eqb a a refl));
        once = λ u. omega (arith, same u, whole.distinct.once u);
        inside = λ u h. whole.distinct.inside u (omega (arith, h, same u));
        own = λ u h. whole.own u (omega (arith, h, same u));
        all = λ u h q c. omega (arith, same u, whole.all u h q c);
      }

  module _ {ring : List ℕ} {kept v : ℕ} (now : Pruning ring kept v) where
    few : n ≤ vertex_limit
    few = w.few

    kept_here : 1 ≤ times kept now.passed + times kept (kept ∷ now.rest)
    kept_here = omega (arith, times_here kept now.rest)

    kept_inside : kept < n
    kept_inside = now.inside kept kept_here

    pub kept_below : kept < vertex_limit
    kept_below = omega (arith, kept_inside, few)

    -- a is passed already
    a_passed : times a now.rest ≡ 0
    a_passed = omega (arith, now.once a, now.begun, times_cons a kept now.rest)

    rest_distinct : Distinct n now.rest
    rest_distinct =
        record {
          once = λ u. omega (arith, now.once u, times_cons u kept now.rest);
          inside = λ u h. now.inside u (omega (arith, h, times_cons u kept now.rest));
        }

    -- so many steps are left
    pub steps_left : length (way vertex_limit ring v a) ≡ length now.rest
    steps_left = ap length (way_is vertex_limit ring v a now.rest now.goes a_passed (omega (arith, distinct_short n now.rest rest_distinct, few)))

    -- one round is over
    pub prune_ends : v ≡ a → Rings n P w.low x ring
    prune_ends q = record { long = now.long; each = each }
      where
        nothing : now.rest ≡ []
        nothing = came ring v a now.rest q a_passed now.goes

        same : (u : ℕ) → times u (now.passed ++ (kept ∷ [])) ≡ times u now.passed + times u (kept ∷ now.rest)
        same u = times_append u now.passed (kept ∷ []) ∙ ap (λ l. times u now.passed + times u (kept ∷ l)) (sym nothing)

        mine : Ring n P x ring a
        mine =
            record {
              round = now.passed ++ (kept ∷ []);
              passes = passes_on ring a kept a now.passed now.to_kept (now.on ∙ q);
              begins = omega (arith, now.begun, times_last a kept now.passed);
              distinct = record { once = λ u. omega (arith, same u, now.once u); inside = λ u h. now.inside u (omega (arith, h, same u)) };
              own = λ u h. now.own u (omega (arith, h, same u));
              all = λ u h e c. omega (arith, same u, now.all u h e c);
            }

        other : (b : ℕ) → b < n → name_of P w.low b ≡ b → b ≢ a → Ring n P x ring b
        other b h named differ =
            let r = w.rings.each b h named in
            let apart : root_of P b ≢ root_of P a = λ e. differ (sym named ∙ ap (at w.low) e ∙ w.named) in
            record {
              round = r.round;
              passes = passes_same ring₀ ring b b r.round
                  (λ u i. now.others u (r.distinct.inside u i) (λ e. apart (sym (r.own u i) ∙ e))) r.passes;
              begins = r.begins;
              distinct = r.distinct;
              own = r.own;
              all = r.all;
            }

        each : (b : ℕ) → b < n → name_of P w.low b ≡ b → Ring n P x ring b
        each b h named = elim (ℕ_discrete b a) [ yes e ↦ rw e mine | no e ↦ other b h named e ]

    -- One vertex more

    module _ (differ : v ≢ a) where
      abbrev next : Step ring v now.rest a
      next = step ring v a now.rest differ now.goes

      in_rest : (u : ℕ) → times u (kept ∷ now.rest) ≡ bit (eqb u kept) + times u (v ∷ next.rest)
      in_rest u = times_cons u kept now.rest ∙ ap (λ l. bit (eqb u kept) + times u l) next.is

      pub v_below : v < vertex_limit
      v_below = omega (arith, few, now.inside v (omega (arith, in_rest v, times_here v next.rest)))

      -- v stays
      pub prune_keeps : Pruning ring v (at ring v)
      prune_keeps =
          record {
            long = now.long;
            others = now.others;
            passed = now.passed ++ (kept ∷ []);
            rest = next.rest;
            to_kept = passes_on ring a kept v now.passed now.to_kept now.on;
            on = refl;
            goes = next.goes;
            begun = omega (arith, now.begun, times_last a kept now.passed);
            once = λ u. omega (arith, same u, now.once u);
            inside = λ u h. now.inside u (omega (arith, h, same u));
            own = λ u h. now.own u (omega (arith, h, same u));
            all = λ u h e c. omega (arith, same u, now.all u h e c);
          }
        where
          same : (u : ℕ) → times u (now.passed ++ (kept ∷ [])) + times u (v ∷ next.rest) ≡ times u now.passed + times u (kept ∷ now.rest)
          same u = omega (arith, times_last u kept now.passed, in_rest u)

      abbrev ring' : List ℕ
      ring' = set ring kept (at ring v)

      -- v is left out
      pub prune_drops : at x v ≡ 0 → Pruning ring' kept (at ring v)
      prune_drops none =
          record {
            long = simp length-set now.long;
            others = λ u h q. get_or-set_other ring kept u (at ring v) 0 (λ e. q (ap (root_of P) e ∙ now.own kept kept_here)) ∙ now.others u h q;
            passed = now.passed;
            rest = next.rest;
            to_kept = passes_same ring ring' a kept now.passed (λ u i. apart u (λ e. twice (times kept now.passed) (rw e at i) kept_once)) now.to_kept;
            on = get_or-set_same ring kept (at ring v) 0 (omega (arith, kept_below, now.long));
            goes = passes_same ring ring' (at ring v) a next.rest (λ u i. apart u (λ e. twice (times kept next.rest) (rw e at i) kept_gone)) next.goes;
            begun = now.begun;
            once = λ u. omega (arith, less u, now.once u);
            inside = λ u h. now.inside u (omega (arith, h, less u));
            own = λ u h. now.own u (omega (arith, h, less u));
            all = λ u h e c. omega (arith, counts u c, now.all u h e c);
          }
        where
          apart : (u : ℕ) → u ≢ kept → at ring' u ≡ at ring u
          apart u q = get_or-set_other ring kept u (at ring v) 0 q

          twice : (k : ℕ) → 1 ≤ k → k ≤ 0 → ⊥
          twice k i j = omega (arith, i, j)

          kept_once : times kept now.passed ≤ 0
          kept_once = omega (arith, now.once kept, times_here kept now.rest)

          kept_gone : times kept next.rest ≤ 0
          kept_gone = omega (arith, now.once kept, in_rest kept, ap bit (eq-eqb kept kept refl), times_cons kept v next.rest)

          less : (u : ℕ) → times u now.passed + times u (kept ∷ next.rest) ≤ times u now.passed + times u (kept ∷ now.rest)
          less u = omega (arith, in_rest u, times_cons u kept next.rest, times_cons u v next.rest)

          -- only v is missing, which has no count
          counts : (u : ℕ) → counted x u ≡ true → times u (kept ∷ next.rest) ≡ times u (kept ∷ now.rest)
          counts u c = elim (ℕ_discrete u v) [
            | yes e ↦ absurd (false≢true (sym (le-ltb 0 (at x v) (omega (arith, none))) ∙ sym (ap (counted x) e) ∙ c))
            | no e ↦ omega (arith, in_rest u, times_cons u kept next.rest, times_other u v next.rest e)
          ]

  -- either way there are fewer steps left
  pub keeps_fewer : {ring : List ℕ} {kept v : ℕ} (now : Pruning ring kept v) (differ : v ≢ a)
      → length (way vertex_limit ring (at ring v) a) < length (way vertex_limit ring v a)
  unfolding prune_keeps
  keeps_fewer now differ =
      let same : (prune_keeps now differ).rest ≡ (next now differ).rest = refl in
      omega (arith, steps_left now, steps_left (prune_keeps now differ), ap length same, ap length (next now differ).is)

  pub drops_fewer : {ring : List ℕ} {kept v : ℕ} (now : Pruning ring kept v) (differ : v ≢ a) → at x v ≡ 0
      → length (way vertex_limit (set ring kept (at ring v)) (at ring v) a) < length (way vertex_limit ring v a)
  unfolding prune_drops
  drops_fewer now differ none =
      let same : (prune_drops now differ none).rest ≡ (next now differ).rest = refl in
      omega (arith, steps_left now, steps_left (prune_drops now differ none), ap length same, ap length (next now differ).is)
