-- What meets a vertex of the torus: the edge to its right, that from its left neighbour, the edge below and that from the neighbour above.
-- A loop edge, as both are at side 1, is met twice and cancels.
-- Assumes nothing.
use Prim.Native.Nat.{ℕ, ◌*◌, ◌≤◌, ◌<◌}
use mathlib.Core.Path.{◌≡◌, ap, ap₂, ◌∙◌}
use mathlib.Core.Bool.{◌&&◌}
use lib.Dec.{eqb}
use Rattle.model.specs.Sums.{Set, ◌⊕◌, odd_up_to}
use Rattle.model.specs.Syndrome.{meets, odd_end, syndrome}
use Rattle.model.specs.Torus.{torus_from, torus_to, torus_ends, torus_marks, torus}
use Rattle.model.specs.Faces.{first_kind, second_kind}
use Rattle.model.proofs.OpenBytes.{none_open}
use Rattle.model.proofs.EqualTests.{eqb_turned}
use Rattle.model.proofs.SumLaws.{odd_cong, odd_xor, odd_pairs, odd_two}
use Rattle.theory.proofs.Syndromes.{shut_syndrome}
use Rattle.torus.proofs.Edges.{half_even, half_odd, right_to, below_to}
use Rattle.torus.proofs.TorusRows.{edge_count, first_is, second_is}
use Rattle.torus.proofs.TorusCells.{left_of, above_of, left_less, above_less, right_turned, below_turned}

module _ (L : ℕ) (some : 1 ≤ L) (D : Set) (v : ℕ) (h : v < L * L) where
  -- edge e is in D and meets v
  abbrev at : Set
  at e = D e && (eqb (torus_from e) v ⊕ eqb (torus_to L e) v)

  -- the two edges of vertex i meet v where v is i itself, or its neighbour to the right or below
  first_meets : (i : ℕ) → i < L * L → at (first_kind i) ≡ (D (first_kind i) && (eqb v i ⊕ eqb (left_of L v) i))
  first_meets i l =
      ap (λ x. D (first_kind i) && x)
      (ap₂ ◌⊕◌ (ap (λ x. eqb x v) (half_even i) ∙ eqb_turned i v) (ap (λ x. eqb x v) (right_to L i) ∙ right_turned L i v some l h))

  second_meets : (i : ℕ) → i < L * L → at (second_kind i) ≡ (D (second_kind i) && (eqb v i ⊕ eqb (above_of L v) i))
  second_meets i l =
      ap (λ x. D (second_kind i) && x)
      (ap₂ ◌⊕◌ (ap (λ x. eqb x v) (half_odd i) ∙ eqb_turned i v) (ap (λ x. eqb x v) (below_to L i) ∙ below_turned L i v some l h))

  all_edges : syndrome (torus L) D v ≡ odd_up_to (2 * (L * L)) at
  unfolding odd_end torus
  all_edges =
      shut_syndrome (torus L) D v (none_open (L * L) (torus_ends L) (torus_marks L) v)
      ∙ ap (λ m. odd_up_to m (λ e. D e && meets (torus L) e v)) (edge_count L)
      ∙ odd_cong (2 * (L * L)) (λ e. D e && meets (torus L) e v) at (λ e l. rw (first_is L e l, second_is L e l))

  pub torus_star : syndrome (torus L) D v
      ≡ (D (first_kind v) ⊕ D (first_kind (left_of L v))) ⊕ (D (second_kind v) ⊕ D (second_kind (above_of L v)))
  torus_star =
      all_edges
      ∙ odd_pairs (L * L) at
      ∙ odd_xor (L * L) (λ i. at (first_kind i)) (λ i. at (second_kind i))
      ∙ ap₂ ◌⊕◌
      (odd_cong (L * L) (λ i. at (first_kind i)) (λ i. D (first_kind i) && (eqb v i ⊕ eqb (left_of L v) i)) first_meets
      ∙ odd_two (L * L) v (left_of L v) (λ i. D (first_kind i)) h (left_less L v some h))
      (odd_cong (L * L) (λ i. at (second_kind i)) (λ i. D (second_kind i) && (eqb v i ⊕ eqb (above_of L v) i)) second_meets
      ∙ odd_two (L * L) v (above_of L v) (λ i. D (second_kind i)) h (above_less L v some h))
