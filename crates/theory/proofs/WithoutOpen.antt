-- Document 02, K5: a board without open vertices answers as it did. No cluster holds an open vertex, so to be odd is to hold an odd number
-- of syndrome vertices; nothing is added to the odd ends, so the correction is the subset of the forest that has the syndrome for its odd
-- ends; the syndrome is asked at every vertex, and so closed, winding, the distance and the verdict mean what they meant.
-- Assumes nothing.
use Prim.Native.Nat.{ℕ, ◌<◌}
use mathlib.Core.Path.{◌≡◌, ap, ◌∙◌}
use mathlib.Core.Bool.{not, ◌&&◌}
use mathlib.Core.List.{List}
use lib.Dec.{eqb}
use Rattle.model.specs.Sums.{Set, ◌⊕◌, some_up_to, first_up_to, ones, bytes}
use Rattle.model.specs.Board.{Board, Sheet, is_open}
use Rattle.model.specs.Syndrome.{odd_end, syndrome}
use Rattle.model.specs.Winding.{closed, crossings, winds}
use Rattle.model.specs.Components.{label, labels}
use Rattle.model.specs.Growth.{full, oddly_lit, in_odd, Grown}
use Rattle.model.specs.Correction.{spanned, odd_ends, correction}
use Rattle.model.specs.Decoding.{parts, in_odd_part, smallest_odd, peeled}
use Rattle.model.specs.Verdict.{differs}
use Rattle.model.proofs.Xor.{xor_false}
use Rattle.model.proofs.SumLaws.{some_cong, first_cong}
use Rattle.model.proofs.ListLaws.{ones_bytes}
use Rattle.theory.proofs.Syndromes.{Sealed, shut_syndrome}
use Rattle.theory.proofs.OddParts.{sealed_odd}
use Rattle.theory.proofs.Corrections.{spanned_cong}

module _ (B : Board) (w : Sealed B) where
  -- Decoding

  -- v lies in an odd cluster where that holds an odd number of syndrome vertices
  pub sealed_in_odd : (l : List ℕ) (S : Set) (v : ℕ) → in_odd B l S v ≡ oddly_lit B l S (label l v)
  sealed_in_odd l S v = sealed_odd B l S (label l v) w

  -- number 10 is for the parts that hold an odd number of syndrome vertices
  pub sealed_smallest : (S : Set) → smallest_odd B S ≡ first_up_to B.vertices (λ v. oddly_lit B (parts B) S (label (parts B) v))
  unfolding smallest_odd in_odd_part
  sealed_smallest S =
      first_cong B.vertices (in_odd_part B S) (λ v. oddly_lit B (parts B) S (label (parts B) v)) (λ v h. sealed_in_odd (parts B) S v)

  -- nothing is added to the odd ends
  pub sealed_odd_ends : (l : List ℕ) (S : Set) (v : ℕ) → v < B.vertices → odd_ends B l S v ≡ S v
  unfolding odd_ends
  sealed_odd_ends l S v h =
      ap (λ o. S v ⊕ ((o && not (some_up_to v (λ u. is_open B u && eqb (label l u) (label l v)))) && oddly_lit B l S (label l v))) (w.shut v h)
      ∙ xor_false (S v)

  -- so the correction is the subset of the forest whose odd ends are the syndrome
  pub sealed_correction : (F S : Set) → correction B F S ≡ spanned B F S
  unfolding correction
  sealed_correction F S =
      spanned_cong B F (ones (bytes B.vertices (odd_ends B (labels B F) S))) S
      (λ v h. ones_bytes B.vertices (odd_ends B (labels B F) S) v h ∙ sealed_odd_ends (labels B F) S v h)

  -- Verdict and distance

  -- the syndrome is asked at every vertex
  pub sealed_syndrome : (D : Set) (v : ℕ) → v < B.vertices → syndrome B D v ≡ odd_end B D v
  sealed_syndrome D v h = shut_syndrome B D v (w.shut v h)

  -- closed asks for evenness at every vertex, and winding with it
  pub sealed_closed : (D : Set) → closed B D ≡ not (some_up_to B.vertices (odd_end B D))
  unfolding closed
  sealed_closed D = ap not (some_cong B.vertices (syndrome B D) (odd_end B D) (sealed_syndrome D))

  pub sealed_winds : (D : Set) → winds B D ≡ (not (some_up_to B.vertices (odd_end B D)) && not (eqb (crossings B D) 0))
  unfolding winds
  sealed_winds D = ap (λ t. t && not (eqb (crossings B D) 0)) (sealed_closed D)

  -- off: the smallest vertex at which the odd ends differ
  pub sealed_differs : (S H : Set) → differs B S H ≡ first_up_to B.vertices (λ v. odd_end B H v ⊕ S v)
  unfolding differs
  sealed_differs S H =
      first_cong B.vertices (λ v. syndrome B H v ⊕ S v) (λ v. odd_end B H v ⊕ S v) (λ v h. ap (λ t. t ⊕ S v) (sealed_syndrome H v h))

-- a key's correction on such a sheet
pub sealed_peeled : (X : Sheet) → Sealed X.board → (g : Grown) → peeled X g ≡ spanned X.board (full g.support) (ones X.syndrome)
unfolding peeled
sealed_peeled X w g = sealed_correction X.board w (full g.support) (ones X.syndrome)
