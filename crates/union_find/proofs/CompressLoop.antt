-- The loop of `compress`: what a turn leaves, at a vertex w on the way up from v. Assumes nothing.
use Prim.Native.Nat.{ℕ, ◌≤◌, ◌<◌}
use mathlib.Core.Path.{◌≡◌, sym, ap, ◌∙◌}
use mathlib.Core.Logic.{◌≢◌}
use mathlib.Core.Bool.{true, false, cond}
use mathlib.Core.List.{List}
use native.Mathlib.Decide.{ℕ_discrete}
use native.Mathlib.Omega.{arith}
use borrow.Author.Tests.{ne_eqb}
use lib.ListN.{length, set, length-set}
use lib.Seq.{get_or-set_same, get_or-set_other}
use Rattle.model.specs.Sums.{◌⊕◌}
use Rattle.model.proofs.Xor.{xor_false}
use Rattle.union_find.specs.Trees.{at, RootIs, under, Compressed}
use Rattle.union_find.proofs.Roots.{steps, steps_parent, root_self, root_top, root_parent, root_inside}
use Rattle.union_find.specs.Packed.{root_mark, parents_of, Compresses}
use Rattle.union_find.proofs.Packing.{parents_long, link_read, parents_set, link_here}
use Rattle.union_find.proofs.Subtrees.{under_self, under_root, under_parent, under_before}

-- What the loop has done when it stands at w: the vertices on the way up from v to w, w not counted, hang under r.
pub record Passed (p : List ℕ) (v r w : ℕ) (p' : List ℕ) : Type 0 where
  pub way : RootIs p w r
  pub same_length : length p' ≡ length p
  pub ahead : (z : ℕ) → under p z w ≡ true → under p z v ≡ true
  pub each : (z : ℕ) → at p' z ≡ cond (under p z v ⊕ under p z w) r (at p z)

module _ {p p' : List ℕ} {v r w : ℕ} (k : Passed p v r w p') where
  -- w itself and what lies ahead is untouched
  here : at p' w ≡ at p w
  here = k.each w ∙ rw (k.ahead w (under_self p w), under_self p w)

  module _ (apart : w ≢ r) where
    below_root : at p w ≢ w
    below_root q = apart (sym (root_self p w q) ∙ sym k.way.root)

    passed_less : steps p (at p' w) < steps p w
    passed_less = rw here (omega (arith, steps_parent k.way.way.climbs w k.way.way.vertex below_root))

    -- another vertex is as far ahead of w's parent as of w
    elsewhere : (z : ℕ) → z ≢ w → under p z w ≡ under p z (at p w)
    elsewhere z e = under_parent k.way.way.climbs z w k.way.way.vertex below_root ∙ rw (ne_eqb w z (λ q. e (sym q)))

    behind : under p w (at p w) ≡ false
    behind = under_before k.way.way.climbs w k.way.way.vertex below_root

    -- one vertex more
    passed_next : Passed p v r (at p' w) (set p' w r)
    passed_next =
        let i = k.way.way in
        rw here
        (record {
          way = record {
            way = record { count = i.count; size = i.size; climbs = i.climbs; vertex = i.climbs.inside w i.vertex };
            root = k.way.root ∙ sym (root_parent i.climbs w i.vertex);
          };
          same_length = length-set p' w r ∙ k.same_length;
          ahead = λ z on. elim (ℕ_discrete z w) [
            | yes e ↦ rw e (k.ahead w (under_self p w))
            | no e ↦ k.ahead z (elsewhere z e ∙ on)
          ];
          each = λ z. elim (ℕ_discrete z w) [
            | yes e ↦ rw (e, k.ahead w (under_self p w), behind)
                (get_or-set_same p' w r 0 (omega (arith, k.same_length, i.vertex, i.climbs.parents)))
            | no e ↦ rw (← elsewhere z e) (get_or-set_other p' w z r 0 e ∙ k.each z)
          ];
        })

-- at the root nothing is left to do
passed_all : {p p' : List ℕ} {v r : ℕ} → Passed p v r r p' → Compressed p v r p'
passed_all {p} {p'} {v} {r} k = record { same_length = k.same_length; each = each }
  where
    top : at p r ≡ r
    top = ap (at p) k.way.root ∙ root_top k.way.way.climbs r k.way.way.vertex ∙ sym k.way.root

    each : (z : ℕ) → at p' z ≡ cond (under p z v) r (at p z)
    each z =
        elim (ℕ_discrete z r) [
          | yes e ↦ rw (e, k.ahead r (under_self p r)) (here k ∙ top)
          | no e ↦ k.each z ∙ rw (under_root p z r top, ne_eqb r z (λ q. e (sym q)), xor_false (under p z v))
        ]

-- The same in the array, in which what stands by roots is left

pub record Passing (t : List ℕ) (v r w : ℕ) (t' : List ℕ) : Type 0 where
  pub passed : Passed (parents_of t) v r w (parents_of t')
  pub same_length : length t' ≡ length t
  pub roots : (z : ℕ) → root_mark ≤ at t z → at t' z ≡ at t z

module _ (t t' : List ℕ) {v r w : ℕ} (k : Passing t v r w t') where
  ways : RootIs (parents_of t) w r
  ways = k.passed.way

  pub passing_inside : w < length t'
  passing_inside = omega (arith, k.same_length, ways.way.climbs.parents, parents_long t, ways.way.vertex)

  root_small : r < root_mark
  root_small = rw ways.root (omega (arith, root_inside ways.way.climbs w ways.way.vertex, ways.way.climbs.limit))

  module _ (apart : w ≢ r) where
    -- what stands by w is its parent still
    link : at t' w ≡ at (parents_of t') w
    link =
        link_read t' w passing_inside (λ q. below_root k.passed apart (sym (here k.passed) ∙ q))
        (rw (here k.passed) (omega (arith, ways.way.climbs.inside w ways.way.vertex, ways.way.climbs.limit)))

    pub passing_less : steps (parents_of t) (at t' w) < steps (parents_of t) w
    passing_less = rw link (passed_less k.passed apart)

    pub passing_next : Passing t v r (at t' w) (set t' w r)
    passing_next =
        rw link
        (record {
          passed = rw (parents_set t' w r passing_inside root_small (λ q. apart (sym q))) (passed_next k.passed apart);
          same_length = length-set t' w r ∙ k.same_length;
          roots = λ z h.
              get_or-set_other t' w z r 0
              (λ q. omega (arith, h, link_here t ways.way.climbs w ways.way.vertex (below_root k.passed apart), ap (at t) q))
              ∙ k.roots z h;
        })

pub passing_all : (t t' : List ℕ) {v r : ℕ} → Passing t v r r t' → Compresses t v r t'
passing_all t t' k = record { parents = passed_all k.passed; roots = k.roots }
