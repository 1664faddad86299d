-- Parts, growth, forests and corrections look at no marks: on two boards that differ in their marks alone they are the same. Those of them
-- that look at no open bytes either are the same on two boards that differ in both.
-- Assumes nothing.
use Prim.Native.Nat.{ℕ, zero, suc, ◌*◌}
use mathlib.Core.Path.{◌≡◌, refl, sym, ap, ◌∙◌, fun_ext}
use mathlib.Core.Bool.{true, ◌&&◌}
use mathlib.Core.List.{List}
use mathlib.Core.Option.{Option, none, some}
use lib.ListN.{length, replicate, length-replicate}
use Rattle.model.specs.Sums.{Set, ones, bytes}
use Rattle.model.specs.Board.{Board, board_of, Sheet, sheet_of, EndsWithin, Inside, plain, first_end}
use Rattle.model.specs.Components.{labels_up_to, labels, label}
use Rattle.model.specs.Growth.{start, full, clusters, oddly_lit, holds_open, odd, exposed, boundary, better, choice_up_to, choice, swell, Policy, chosen, weighted, grow_from, grown}
use Rattle.model.specs.Rounds.{all_odd}
use Rattle.model.specs.Forest.{taken_up_to, forest, parted}
use Rattle.model.specs.Correction.{without, odd_side, spanned, odd_ends, correction}
use Rattle.model.specs.Decoding.{parts, in_odd_part, smallest_odd, grown_by, peeled}
use Rattle.model.proofs.SumLaws.{first_cong}

module _ (n : ℕ) (ends marks marks' opened opened' : List ℕ) (same : length marks ≡ length marks') where
  abbrev B : Board
  B = board_of n ends marks opened

  abbrev C : Board
  C = board_of n ends marks' opened'

  stage_aside : (F : Set) (k : ℕ) → labels_up_to B F k ≡ labels_up_to C F k
  unfolding labels_up_to
  stage_aside F zero = refl
  stage_aside F (suc e) = rw (stage_aside F e)

  pub labels_aside : (F : Set) → labels B F ≡ labels C F
  unfolding labels
  labels_aside F = ap (labels_up_to B F) same ∙ stage_aside F (length marks')

  pub clusters_aside : (s : List ℕ) → clusters B s ≡ clusters C s
  unfolding clusters
  clusters_aside s = labels_aside (full s)

  lit_aside : (l : List ℕ) (S : Set) (a : ℕ) → oddly_lit B l S a ≡ oddly_lit C l S a
  unfolding oddly_lit
  lit_aside l S a = refl

  boundary_aside : (s l : List ℕ) (a : ℕ) → boundary B s l a ≡ boundary C s l a
  unfolding boundary exposed
  boundary_aside s l a = rw same

  pub swell_aside : (s : List ℕ) (R : Set) → swell B s R ≡ swell C s R
  unfolding swell
  swell_aside s R = rw same

  pub start_aside : (lost : Set) → start B lost ≡ start C lost
  unfolding start
  start_aside lost = rw same

  taken_aside : (F : Set) (k : ℕ) → taken_up_to B F k ≡ taken_up_to C F k
  unfolding taken_up_to
  taken_aside F zero = refl
  taken_aside F (suc e) = rw (taken_aside F e)

  pub forest_aside : (F : Set) → forest B F ≡ forest C F
  unfolding forest
  forest_aside F = fun_ext (λ e. ap (λ l. F e && parted B l e) (taken_aside F e))

  side_aside : (D S : Set) (v : ℕ) → odd_side B D S v ≡ odd_side C D S v
  unfolding odd_side
  side_aside D S v = rw (labels_aside D) (lit_aside (labels C D) S (label (labels C D) v))

  pub spanned_aside : (F S : Set) → spanned B F S ≡ spanned C F S
  unfolding spanned
  spanned_aside F S =
      fun_ext (λ e.
      rw (same, forest_aside F)
      (ap (λ t. forest C F e && t) (side_aside (without (ones (bytes (length marks') (forest C F))) e) S (first_end C e))))

module _ (n : ℕ) (ends marks marks' opened : List ℕ) (same : length marks ≡ length marks') where
  abbrev B' : Board
  B' = board_of n ends marks opened

  abbrev C' : Board
  C' = board_of n ends marks' opened

  pub odd_aside : (l : List ℕ) (S : Set) (a : ℕ) → odd B' l S a ≡ odd C' l S a
  unfolding odd oddly_lit holds_open
  odd_aside l S a = refl

  choice_stage : (s l : List ℕ) (S : Set) (k : ℕ) → choice_up_to B' s l S k ≡ choice_up_to C' s l S k
  unfolding choice_up_to
  choice_stage s l S zero = refl
  choice_stage s l S (suc a) = rw (choice_stage s l S a) (go (choice_up_to C' s l S a))
    where
      go : (o : Option ℕ) → better B' s l S a o ≡ better C' s l S a o
      go none = rw (odd_aside l S a)
      go (some c) = rw (odd_aside l S a, boundary_aside n ends marks marks' opened opened same s l a, boundary_aside n ends marks marks' opened opened same s l c)

  choice_aside : (s l : List ℕ) (S : Set) → choice B' s l S ≡ choice C' s l S
  unfolding choice
  choice_aside s l S = choice_stage s l S n

  pub weighted_aside : (S : Set) (s : List ℕ) → weighted B' S s ≡ weighted C' S s
  unfolding weighted
  weighted_aside S s = rw (clusters_aside n ends marks marks' opened opened same s, choice_aside s (clusters C' s) S)

  pub rounds_aside : (S : Set) (s : List ℕ) → all_odd B' S s ≡ all_odd C' S s
  unfolding all_odd odd oddly_lit holds_open
  rounds_aside S s = rw (clusters_aside n ends marks marks' opened opened same s)

  run_aside : (p q : Policy) → ((s : List ℕ) → p s ≡ q s) → (k : ℕ) (s : List ℕ) (g : ℕ) → grow_from B' p k s g ≡ grow_from C' q k s g
  unfolding grow_from
  run_aside p q alike zero s g = refl
  run_aside p q alike (suc k) s g = rw (alike s) (go (λ R. run_aside p q alike k (swell C' s R) (suc g)) (q s))
    where
      go : ((R : Set) → grow_from B' p k (swell C' s R) (suc g) ≡ grow_from C' q k (swell C' s R) (suc g)) → (o : Option Set)
          → chosen o (record { support = s; count = g }) (λ R. grow_from B' p k (swell B' s R) (suc g)) ≡ chosen o (record { support = s; count = g }) (λ R. grow_from C' q k (swell C' s R) (suc g))
      go later none = refl
      go later (some R) = rw (swell_aside n ends marks marks' opened opened same s R) (later R)

  grown_aside : (p q : Policy) → ((s : List ℕ) → p s ≡ q s) → (lost : Set) → grown B' p lost ≡ grown C' q lost
  unfolding grown
  grown_aside p q alike lost = rw (same, start_aside n ends marks marks' opened opened same lost) (run_aside p q alike (2 * length marks') (start C' lost) 0)

  pub smallest_aside : (S : Set) → smallest_odd B' S ≡ smallest_odd C' S
  unfolding smallest_odd in_odd_part parts
  smallest_aside S =
      first_cong n (in_odd_part B' S) (in_odd_part C' S)
      (λ v h. rw (labels_aside n ends marks marks' opened opened same (λ e. true)) (odd_aside (labels C' (λ e. true)) S (label (labels C' (λ e. true)) v)))

  pub correction_aside : (F S : Set) → correction B' F S ≡ correction C' F S
  unfolding correction odd_ends oddly_lit
  correction_aside F S =
      rw (labels_aside n ends marks marks' opened opened same F)
      (spanned_aside n ends marks marks' opened opened same F (ones (bytes n (odd_ends C' (labels C' F) S))))

  -- so a key looks at no marks, if the policy doesn't
  module _ (syndrome loss : List ℕ) (policy : Board → Set → Policy) (alike : (s : List ℕ) → policy B' (ones syndrome) s ≡ policy C' (ones syndrome) s) where
    abbrev X : Sheet
    X = sheet_of B' syndrome loss

    abbrev Y : Sheet
    Y = sheet_of C' syndrome loss

    pub key_aside : grown_by policy X ≡ grown_by policy Y
    unfolding grown_by
    key_aside = grown_aside (policy B' (ones syndrome)) (policy C' (ones syndrome)) alike (ones loss)

    pub peeled_aside : peeled X (grown_by policy X) ≡ peeled Y (grown_by policy Y)
    unfolding peeled
    peeled_aside = rw key_aside (correction_aside (full (grown_by policy Y).support) (ones syndrome))

-- The board whose marks are all 0

-- has as many marks as there are edges
pub unmarked_long : (m : ℕ) (marks : List ℕ) → length marks ≡ m → length marks ≡ length {A = ℕ} (replicate m 0)
unmarked_long m marks p = p ∙ sym (length-replicate m 0)

-- .. and its ends are within it, whatever is open
pub unmarked_inside : {n m : ℕ} {ends : List ℕ} → EndsWithin n m ends → Inside (plain n m ends)
unmarked_inside {n} {m} {ends} w = rw (length-replicate {A = ℕ} m 0) w
