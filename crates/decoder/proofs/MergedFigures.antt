-- One cluster becomes part of another: the labels change from j to k, and the figure that is carried from j to k is that of both.
-- Assumes nothing.
use Prim.Native.Nat.{ℕ, ◌+◌, ◌≤◌, ◌<◌}
use mathlib.Core.Path.{◌≡◌, refl, sym, ap, ap₂, ◌∙◌}
use mathlib.Core.Logic.{◌≢◌}
use mathlib.Core.Bool.{Bool, true, false, ◌&&◌, ◌||◌, and-or_distrib_left}
use mathlib.Core.List.{List}
use native.Mathlib.Decide.{ℕ_discrete}
use native.Mathlib.Omega.{arith}
use borrow.Author.Tests.{eqb-true}
use lib.ListN.{length, set}
use lib.Seq.{get_or-set_same, get_or-set_other}
use lib.Dec.{eqb}
use Rattle.model.specs.Sums.{Set, ◌⊕◌, bit}
use Rattle.model.specs.Board.{Board, vertex_limit, is_open}
use Rattle.model.specs.Components.{label, within}
use Rattle.model.specs.Growth.{oddly_lit, holds_open, exposed, boundary}
use Rattle.model.proofs.SumLaws.{odd_cong, odd_xor, count_cong, count_bound, some_cong, some_or}
use Rattle.model.proofs.CountLaws.{count_parts}
use Rattle.union_find.specs.Trees.{at, moved}
use Rattle.union_find.proofs.Moved.{moved_here, moved_other, moved_target, moved_elsewhere}
use Rattle.decoder.specs.Figures.{figure_of, name_mark, no_figure, plus_figure, carried, Leads, Keeps, Figured}
use Rattle.decoder.proofs.FigureLaws.{plus_figures, carried_to, carried_from, carried_beside}

-- two that do not both hold
data Side (a b : Bool) : Type 0 where
  left : a ≡ true → b ≡ false → Side a b
  right : a ≡ false → b ≡ true → Side a b
  neither : a ≡ false → b ≡ false → Side a b

counted_apart : (a b c : Bool) → Side a b → bit ((a || b) && c) ≡ bit (a && c) + bit (b && c)
counted_apart a b c (left p q) = rw (p, q) (omega arith)
counted_apart a b c (right p q) = rw (p, q) (omega arith)
counted_apart a b c (neither p q) = rw (p, q)

odd_apart : (a b c : Bool) → Side a b → (c && (a || b)) ≡ (c && a) ⊕ (c && b)
odd_apart a b true (left p q) = rw (p, q)
odd_apart a b true (right p q) = rw (p, q)
odd_apart a b true (neither p q) = rw (p, q)
odd_apart a b false d = refl

module _ (B : Board) (l l' : List ℕ) (j k : ℕ) (moves : (v : ℕ) → v < B.vertices → label l' v ≡ moved j k (label l v)) (lead_j : Leads B.vertices l j) (lead_k : Leads B.vertices l k) (apart : j ≢ k) where
  abbrev n : ℕ
  n = B.vertices

  -- Which vertices a cluster has

  within_k : (v : ℕ) → v < n → within l' k v ≡ (within l j v || within l k v)
  within_k v h = ap (λ z. eqb z k) (moves v h) ∙ moved_target j k (label l v)

  within_other : (a : ℕ) → a ≢ j → a ≢ k → (v : ℕ) → v < n → within l' a v ≡ within l a v
  within_other a p q v h = ap (λ z. eqb z a) (moves v h) ∙ moved_elsewhere j k (label l v) a p q

  -- no vertex lies in both
  side : (v : ℕ) → Side (within l j v) (within l k v)
  side v = go (within l j v) (within l k v) refl refl
    where
      go : (a b : Bool) → within l j v ≡ a → within l k v ≡ b → Side a b
      go true true p q = absurd (apart (sym (eqb-true (label l v) j p) ∙ eqb-true (label l v) k q))
      go true false p q = left refl refl
      go false true p q = right refl refl
      go false false p q = neither refl refl

  -- What names a cluster

  leads_after : (a : ℕ) → a ≢ j → Leads n l a → Leads n l' a
  leads_after a p w = record { below = w.below; own = moves a w.below ∙ ap (moved j k) w.own ∙ moved_other j k a p }

  leads_before : (a : ℕ) → Leads n l' a → (a ≢ j) × Leads n l a
  leads_before a w = elim (ℕ_discrete (label l a) j) [
    | yes p ↦
        let is-k : a ≡ k = sym w.own ∙ moves a w.below ∙ ap (moved j k) p ∙ moved_here j k in
        absurd (apart (sym p ∙ ap (label l) is-k ∙ lead_k.own))
    | no p ↦
        let own : label l a ≡ a = sym (moved_other j k (label l a) p) ∙ sym (moves a w.below) ∙ w.own in
        ((λ q. p (own ∙ q)), record { below = w.below; own = own })
  ]

  -- The carried figures

  module _ (figure : List ℕ) (long : length figure ≡ vertex_limit) (few : n ≤ vertex_limit) where
    at_k : at (carried figure j k) k ≡ plus_figure (at figure j) (at figure k)
    at_k = carried_to figure j k apart (omega (arith, lead_k.below))

    at_j : at (carried figure j k) j ≡ no_figure
    at_j = carried_from figure j k (omega (arith, lead_j.below))

    at_other : (a : ℕ) → a ≢ j → a ≢ k → at (carried figure j k) a ≡ at figure a
    at_other = carried_beside figure j k

    -- where f says of both what the sum of the figures says, and of the others what it said
    keeps_carried : (f f' : ℕ → ℕ) → plus_figure (f j) (f k) ≡ f' k → ((a : ℕ) → a ≢ j → a ≢ k → f a ≡ f' a)
        → Keeps n l f figure → Keeps n l' f' (carried figure j k)
    keeps_carried f f' sum same w = record { named = named; others = others }
      where
        named : (a : ℕ) → Leads n l' a → at (carried figure j k) a ≡ f' a
        named a lead =
            let before = leads_before a lead in
            elim (ℕ_discrete a k) [
              | yes q ↦ rw q (at_k ∙ ap₂ plus_figure (w.named j lead_j) (w.named k lead_k) ∙ sum)
              | no q ↦ at_other a before.0 q ∙ w.named a before.1 ∙ same a before.0 q
            ]

        others : (a : ℕ) → a < vertex_limit → (Leads n l' a → ⊥) → name_mark ≤ at (carried figure j k) a
        others a h none = elim (ℕ_discrete a j) [
          | yes q ↦ rw (q, at_j) (omega arith)
          | no q ↦
              rw (at_other a q (λ is. none (rw is (leads_after k (λ e. apart (sym e)) lead_k))))
              (w.others a h (λ lead. none (leads_after a q lead)))
        ]

    -- What the definitions say

    module _ (S : Set) (s : List ℕ) where
      boundary_both : boundary B s l' k ≡ boundary B s l j + boundary B s l k
      unfolding boundary
      boundary_both =
          count_parts n (λ v. within l' k v && exposed B s v) (λ v. within l j v && exposed B s v) (λ v. within l k v && exposed B s v)
          (λ v h. ap (λ t. bit (t && exposed B s v)) (within_k v h) ∙ counted_apart _ _ (exposed B s v) (side v))

      lit_both : oddly_lit B l' S k ≡ oddly_lit B l S j ⊕ oddly_lit B l S k
      unfolding oddly_lit
      lit_both =
          odd_cong n (λ v. S v && within l' k v) (λ v. (S v && within l j v) ⊕ (S v && within l k v))
          (λ v h. ap (λ t. S v && t) (within_k v h) ∙ odd_apart _ _ (S v) (side v))
          ∙ odd_xor n (λ v. S v && within l j v) (λ v. S v && within l k v)

      open_both : holds_open B l' k ≡ (holds_open B l j || holds_open B l k)
      unfolding holds_open
      open_both =
          some_cong n (λ v. is_open B v && within l' k v) (λ v. (is_open B v && within l j v) || (is_open B v && within l k v))
          (λ v h. ap (λ t. is_open B v && t) (within_k v h) ∙ and-or_distrib_left (is_open B v) (within l j v) (within l k v))
          ∙ some_or n (λ v. is_open B v && within l j v) (λ v. is_open B v && within l k v)

      -- the clusters beside them stay as they were
      other_same : (a : ℕ) → a ≢ j → a ≢ k
          → figure_of (boundary B s l a) (oddly_lit B l S a) (holds_open B l a) ≡ figure_of (boundary B s l' a) (oddly_lit B l' S a) (holds_open B l' a)
      unfolding boundary oddly_lit holds_open
      other_same a p q =
          let same = within_other a p q in
          rw (
            count_cong n (λ v. within l a v && exposed B s v) (λ v. within l' a v && exposed B s v) (λ v h. ap (λ t. t && exposed B s v) (sym (same v h))),
            odd_cong n (λ v. S v && within l a v) (λ v. S v && within l' a v) (λ v h. ap (λ t. S v && t) (sym (same v h))),
            some_cong n (λ v. is_open B v && within l a v) (λ v. is_open B v && within l' a v) (λ v h. ap (λ t. is_open B v && t) (sym (same v h))),
          )

      few_exposed : boundary B s l j + boundary B s l k ≤ n
      unfolding boundary
      few_exposed = rw (← boundary_both) (count_bound n (λ v. within l' k v && exposed B s v))

      -- so figures that were true are true of both
      pub figured_carried : Figured B S s l figure → Figured B S s l' (carried figure j k)
      figured_carried w =
          record {
            kept = keeps_carried
                (λ a. figure_of (boundary B s l a) (oddly_lit B l S a) (holds_open B l a))
                (λ a. figure_of (boundary B s l' a) (oddly_lit B l' S a) (holds_open B l' a))
                (plus_figures (boundary B s l j) (boundary B s l k) (omega (arith, few_exposed)) (oddly_lit B l S j) (holds_open B l j) (oddly_lit B l S k) (holds_open B l k)
                ∙ sym (rw (boundary_both, lit_both, open_both)))
                other_same w.kept;
          }

-- by a number that names no cluster something else may stand that is no figure
pub figured_told : (B : Board) (S : Set) (s l figure : List ℕ) (y z : ℕ) → y < length figure → (Leads B.vertices l y → ⊥) → name_mark ≤ z
    → Figured B S s l figure → Figured B S s l (set figure y z)
figured_told B S s l figure y z h none large w =
    record {
      kept = record {
        named = λ a lead. get_or-set_other figure y a z 0 (λ q. none (rw (← q) lead)) ∙ w.kept.named a lead;
        others = λ a k out. elim (ℕ_discrete a y) [
          | yes q ↦ rw (q, get_or-set_same figure y z 0 h) large
          | no q ↦ rw (get_or-set_other figure y a z 0 q) (w.kept.others a k out)
        ];
      };
    }
