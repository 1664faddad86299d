-- The verdict on a set, beside no correction for no syndrome, is wound exactly where the set winds. Assumes nothing.
use Prim.Native.Nat.{ℕ, ◌≤◌, ◌<◌}
use mathlib.Core.Path.{◌≡◌, refl, sym, ap, ◌∙◌}
use mathlib.Core.Bool.{Bool, true, false, not}
use mathlib.Core.List.{List}
use mathlib.Core.Option.{Option, none, some}
use lib.Dec.{eqb}
use lib.ListN.{take, replicate}
use Rattle.std.proofs.lemmas.List.{take-replicate}
use Rattle.model.specs.Sums.{Set, ◌⊕◌, ones, bytes, first_up_to}
use Rattle.model.specs.Board.{Board, edges, ValidBytes}
use Rattle.model.specs.Syndrome.{syndrome}
use Rattle.model.specs.Winding.{closed, winds, crossings, together}
use Rattle.model.specs.Verdict.{differs, judged_at, judged}
use Rattle.model.specs.Words.{bit_of}
use Rattle.model.proofs.Xor.{xor_false}
use Rattle.model.proofs.SumLaws.{some_here, none_some, none_first, first_found}
use Rattle.model.proofs.ListLaws.{zero_everywhere, ones_bytes, bytes_valid}
use Rattle.model.proofs.OpenBytes.{zeros_valid}
use Rattle.theory.proofs.CrossedLines.{crossings_cong, winds_cong}
use Rattle.verdict.specs.Judging.{Judgeable, is_wound}
use Rattle.game.specs.LoopTable.{Small}

-- the front of an array of zeros: bytes of no vertex, and of no edge
module _ (n k : ℕ) (h : n ≤ k) where
  zeros_out : (i : ℕ) → ones (take n (replicate k 0)) i ≡ false
  zeros_out i = rw (take-replicate {X = ℕ} n k 0 h) (ap (λ x. eqb x 1) (zero_everywhere n i))

  front_valid : ValidBytes n (take n (replicate k 0))
  front_valid = rw (take-replicate {X = ℕ} n k 0 h) (zeros_valid n)

module _ (B : Board) (S C H : Set) (unlit : (v : ℕ) → v < B.vertices → S v ≡ false) (empty : (e : ℕ) → e < edges B → C e ≡ false) where
  differs_at : (v : ℕ) → v < B.vertices → (syndrome B H v ⊕ S v) ≡ syndrome B H v
  differs_at v l = ap (λ b. syndrome B H v ⊕ b) (unlit v l) ∙ xor_false (syndrome B H v)

  crossed : crossings B (together H C) ≡ crossings B H
  crossed = crossings_cong B (together H C) H (λ e l. ap (λ b. H e ⊕ b) (empty e l) ∙ xor_false (H e))

  -- a vertex at which the set ends: it isn't closed
  off_unclosed : (v : ℕ) → first_up_to B.vertices (λ v. syndrome B H v ⊕ S v) ≡ some v → winds B H ≡ false
  unfolding winds closed
  off_unclosed v p =
      let f = first_found B.vertices (λ v. syndrome B H v ⊕ S v) v p in
      rw (some_here B.vertices v (syndrome B H) f.less (sym (differs_at v f.less) ∙ f.holds))

  -- none: it is, and what it crosses decides
  met_closed : first_up_to B.vertices (λ v. syndrome B H v ⊕ S v) ≡ none → winds B H ≡ not (eqb (crossings B H) 0)
  unfolding winds closed
  met_closed p =
      let n = B.vertices in
      rw (none_some n (syndrome B H) (λ v l. sym (differs_at v l) ∙ none_first n (λ v. syndrome B H v ⊕ S v) p v l))

  pub wound_exactly : is_wound (judged B S C H) ≡ winds B H
  unfolding judged differs
  wound_exactly = go (first_up_to B.vertices (λ v. syndrome B H v ⊕ S v)) refl
    where
      by : (t : Bool) → eqb (crossings B (together H C)) 0 ≡ t → is_wound (judged_at none (crossings B (together H C))) ≡ not t
      by true p = rw p
      by false p = rw p

      go : (o : Option ℕ) → first_up_to B.vertices (λ v. syndrome B H v ⊕ S v) ≡ o
          → is_wound (judged_at o (crossings B (together H C))) ≡ winds B H
      go (some v) p = sym (off_unclosed v p)
      go none p = by (eqb (crossings B (together H C)) 0) refl ∙ ap (λ x. not (eqb x 0)) crossed ∙ sym (met_closed p)

-- The same of a mask, by the bytes of its edges

module _ (B : Board) (x : ℕ) (handed : List ℕ) (small : Small B) (spread : handed ≡ bytes (edges B) (bit_of x)) where
  pub mask_judgeable : Judgeable B (take B.vertices (replicate 1024 0)) handed (take (edges B) (replicate 10 0))
  mask_judgeable =
      record {
        inside = small.inside;
        open_bytes = small.open_bytes;
        syndrome_bytes = front_valid B.vertices 1024 small.inside.vertices_limited;
        handed_bytes = rw spread (bytes_valid (edges B) (bit_of x));
        correction_bytes = front_valid (edges B) 10 small.few;
        unlit = λ v l o. zeros_out B.vertices 1024 small.inside.vertices_limited v;
      }

  pub mask_wound : is_wound (judged B (ones (take B.vertices (replicate 1024 0))) (ones (take (edges B) (replicate 10 0))) (ones handed))
      ≡ winds B (bit_of x)
  mask_wound =
      wound_exactly B _ _ _
      (λ v l. zeros_out B.vertices 1024 small.inside.vertices_limited v)
      (λ e l. zeros_out (edges B) 10 small.few e)
      ∙ winds_cong B (ones handed) (bit_of x) (λ e l. ap (λ y. ones y e) spread ∙ ones_bytes (edges B) (bit_of x) e l)
