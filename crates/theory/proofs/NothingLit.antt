-- Where no vertex is lit no part is odd, nothing grows, by whichever policy that feeds odd clusters, and the correction is empty.
-- Assumes nothing.
use Prim.Native.Nat.{ℕ, ◌*◌, ◌<◌}
use mathlib.Core.Path.{◌≡◌, refl, sym, ◌∙◌}
use mathlib.Core.Bool.{false, ◌&&◌, and-false, false≢true}
use mathlib.Core.List.{List}
use mathlib.Core.Option.{Option, none, some}
use Rattle.model.specs.Sums.{Set, ones, bytes}
use Rattle.model.specs.Board.{Board, edges, first_end}
use Rattle.model.specs.Components.{labels, label, within}
use Rattle.model.specs.Growth.{start, oddly_lit, odd, Policy, grown}
use Rattle.model.specs.Forest.{forest}
use Rattle.model.specs.Correction.{without, odd_side, spanned, outlet, odd_ends, correction}
use Rattle.model.specs.Decoding.{parts, in_odd_part, smallest_odd}
use Rattle.model.proofs.SumLaws.{odd_none, first_none}
use Rattle.model.proofs.ListLaws.{ones_bytes}
use Rattle.theory.proofs.GrowthRun.{Feeds, run_stops}

module _ (B : Board) (S : Set) (unlit : (v : ℕ) → v < B.vertices → S v ≡ false) where
  none_lit : (l : List ℕ) (a : ℕ) → oddly_lit B l S a ≡ false
  unfolding oddly_lit
  none_lit l a = odd_none B.vertices (λ v. S v && within l a v) (λ v h. rw (unlit v h))

  none_odd : (l : List ℕ) (a : ℕ) → odd B l S a ≡ false
  unfolding odd
  none_odd l a = rw (none_lit l a)

  pub no_odd_part : smallest_odd B S ≡ none
  unfolding smallest_odd in_odd_part
  no_odd_part = first_none B.vertices (in_odd_part B S) (λ v h. none_odd (parts B) (label (parts B) v))

  -- the supports at the start are those at the end
  nothing_named : (p : Policy) → Feeds B S p → (s : List ℕ) → p s ≡ none
  nothing_named p f s = go (p s) refl
    where
      go : (o : Option Set) → p s ≡ o → p s ≡ none
      go none q = q
      go (some R) q = absurd (false≢true (sym (none_odd _ _) ∙ (f.feeds s R q).part.is_odd))

  pub nothing_grows : (p : Policy) → Feeds B S p → (lost : Set) → grown B p lost ≡ record { support = start B lost; count = 0 }
  unfolding grown
  nothing_grows p f lost = run_stops B p (2 * edges B) (start B lost) 0 (nothing_named p f (start B lost))

-- no edge of the forest has an odd number of nothing on a side of it
spanned_nothing : (B : Board) (F R : Set) → ((v : ℕ) → v < B.vertices → R v ≡ false) → (e : ℕ) → spanned B F R e ≡ false
unfolding spanned odd_side
spanned_nothing B F R unlit e =
    let T = ones (bytes (edges B) (forest B F)) in
    let l = labels B (without T e) in
    rw (none_lit B R unlit l (label l (first_end B e))) (and-false (forest B F e))

pub nothing_corrected : (B : Board) (F S : Set) → ((v : ℕ) → v < B.vertices → S v ≡ false) → (e : ℕ) → correction B F S e ≡ false
unfolding correction odd_ends
nothing_corrected B F S unlit =
    let l = labels B F in
    spanned_nothing B F (ones (bytes B.vertices (odd_ends B l S)))
    (λ v h. ones_bytes B.vertices (odd_ends B l S) v h ∙ rw (unlit v h, none_lit B S unlit l (label l v)) (and-false (outlet B l v)))
