-- The sum of a set of faces: an edge lies in it exactly where one of the two faces beside it is taken and the other is not. So a set of
-- faces and its complement have one sum, and a sum of faces is closed and crosses each line an even number of times. At side 1, where the
-- one face is beside itself, the sum is empty.
-- Assumes nothing.
use Prim.Native.Nat.{ℕ, ◌+◌, ◌*◌, ◌-◌, ◌≤◌, ◌<◌}
use mathlib.Core.Path.{◌≡◌, refl, sym, ap, ap₂, ◌∙◌}
use mathlib.Core.Bool.{Bool, true, false, not, ◌&&◌}
use native.Mathlib.Nat.{mod-lt}
use native.Mathlib.Omega.{arith}
use borrow.Author.Tests.{ne_eqb}
use lib.Dec.{eqb}
use Rattle.model.specs.Sums.{Set, ◌⊕◌}
use Rattle.model.specs.Board.{edges}
use Rattle.model.specs.Winding.{winds}
use Rattle.model.specs.Torus.{row, column, right_of, below, torus}
use Rattle.model.specs.Faces.{first_kind, second_kind, in_face, face_sum, MakesUp, complement}
use Rattle.model.proofs.Xor.{xor_false, xor_swap, equal_xor}
use Rattle.model.proofs.EqualTests.{eqb_alike, eqb_turned}
use Rattle.model.proofs.SumLaws.{odd_cong, odd_two}
use Rattle.theory.proofs.Syndromes.{has_syndrome_cong}
use Rattle.theory.proofs.CrossedLines.{line_a, line_b, Closed, Unmarked, unmarked_unwound, winds_cong}
use Rattle.torus.proofs.Numbering.{row_less}
use Rattle.torus.proofs.TorusRows.{edge_count, inside}
use Rattle.torus.proofs.TorusCells.{prev, prev_less, left_of, above_of, left_at, above_at, left_less, above_less}
use Rattle.torus.proofs.TorusCells.{right_turned, below_turned}
use Rattle.torus.proofs.Cycles.{odd_round}
use Rattle.torus.proofs.TorusStar.{torus_star}
use Rattle.torus.proofs.TorusLines.{line_A, line_B}
use Rattle.torus.proofs.EveryEdge.{every_edge}

-- edges of one kind are equal where their vertices are, and edges of two kinds never
first_eqb : (i v : ℕ) → eqb (first_kind i) (first_kind v) ≡ eqb i v
first_eqb i v = eqb_alike (first_kind i) (first_kind v) i v (λ p. omega arith) (λ p. omega arith)

second_eqb : (i v : ℕ) → eqb (second_kind i) (second_kind v) ≡ eqb i v
second_eqb i v = eqb_alike (second_kind i) (second_kind v) i v (λ p. omega arith) (λ p. omega arith)

first_second : (i v : ℕ) → eqb (first_kind i) (second_kind v) ≡ false
first_second i v = ne_eqb (first_kind i) (second_kind v) (λ p. omega arith)

second_first : (i v : ℕ) → eqb (second_kind i) (first_kind v) ≡ false
second_first i v = ne_eqb (second_kind i) (first_kind v) (λ p. omega arith)

-- The edge of the first kind at v lies in face v and in the one above it, that of the second kind in face v and in the one to its left.
module _ (L : ℕ) (some : 1 ≤ L) (v : ℕ) (h : v < L * L) where
  in_face_first : (i : ℕ) → i < L * L → in_face L i (first_kind v) ≡ eqb v i ⊕ eqb (above_of L v) i
  in_face_first i l =
      ap₂ ◌⊕◌
      (ap₂ ◌⊕◌ (first_eqb i v ∙ eqb_turned i v) (first_eqb (below L i) v ∙ below_turned L i v some l h))
      (ap₂ ◌⊕◌ (second_first i v) (second_first (right_of L i) v))
      ∙ xor_false (eqb v i ⊕ eqb (above_of L v) i)

  in_face_second : (i : ℕ) → i < L * L → in_face L i (second_kind v) ≡ eqb v i ⊕ eqb (left_of L v) i
  in_face_second i l =
      ap₂ ◌⊕◌
      (ap₂ ◌⊕◌ (first_second i v) (first_second (below L i) v))
      (ap₂ ◌⊕◌ (second_eqb i v ∙ eqb_turned i v) (second_eqb (right_of L i) v ∙ right_turned L i v some l h))

module _ (L : ℕ) (some : 1 ≤ L) (f : Set) (v : ℕ) (h : v < L * L) where
  pub face_sum_first : face_sum L f (first_kind v) ≡ f v ⊕ f (above_of L v)
  unfolding face_sum
  face_sum_first =
      odd_cong (L * L) (λ i. f i && in_face L i (first_kind v)) (λ i. f i && (eqb v i ⊕ eqb (above_of L v) i))
      (λ i l. ap (λ t. f i && t) (in_face_first L some v h i l))
      ∙ odd_two (L * L) v (above_of L v) f h (above_less L v some h)

  pub face_sum_second : face_sum L f (second_kind v) ≡ f v ⊕ f (left_of L v)
  unfolding face_sum
  face_sum_second =
      odd_cong (L * L) (λ i. f i && in_face L i (second_kind v)) (λ i. f i && (eqb v i ⊕ eqb (left_of L v) i))
      (λ i l. ap (λ t. f i && t) (in_face_second L some v h i l))
      ∙ odd_two (L * L) v (left_of L v) f h (left_less L v some h)

-- the same by row and column
module _ (L : ℕ) (some : 1 ≤ L) (f : Set) (r c : ℕ) (in_row : r < L) (in_column : c < L) where
  pub face_sum_first_at : face_sum L f (first_kind (r * L + c)) ≡ f (r * L + c) ⊕ f (prev L r * L + c)
  face_sum_first_at =
      face_sum_first L some f (r * L + c) (inside L r c in_row in_column)
      ∙ ap (λ i. f (r * L + c) ⊕ f i) (above_at L r c in_row in_column)

  pub face_sum_second_at : face_sum L f (second_kind (r * L + c)) ≡ f (r * L + c) ⊕ f (r * L + prev L c)
  face_sum_second_at =
      face_sum_second L some f (r * L + c) (inside L r c in_row in_column)
      ∙ ap (λ i. f (r * L + c) ⊕ f i) (left_at L r c in_row in_column)

module _ (L : ℕ) (some : 1 ≤ L) (f : Set) where
  pub complement_sum : (e : ℕ) → e < 2 * (L * L) → face_sum L (complement f) e ≡ face_sum L f e
  complement_sum =
      every_edge (L * L) (λ e. face_sum L (complement f) e ≡ face_sum L f e)
      (λ v h.
      face_sum_first L some (complement f) v h ∙ nots (f v) (f (above_of L v)) ∙ sym (face_sum_first L some f v h))
      (λ v h.
      face_sum_second L some (complement f) v h ∙ nots (f v) (f (left_of L v)) ∙ sym (face_sum_second L some f v h))
    where
      nots : (a b : Bool) → not a ⊕ not b ≡ a ⊕ b
      nots true b = refl
      nots false true = refl
      nots false false = refl

  -- at a vertex each of the four faces around it is counted twice
  pub sum_closed : Closed (torus L) (face_sum L f)
  unfolding torus
  sum_closed = record { at = λ v h. torus_star L some (face_sum L f) v h ∙ around v h }
    where
      corner : (v : ℕ) → v < L * L → above_of L (left_of L v) ≡ left_of L (above_of L v)
      corner v h =
          above_at L (row L v) (prev L (column L v)) (row_less L v some h) (prev_less L (column L v) some (mod-lt v some))
          ∙ sym (left_at L (prev L (row L v)) (column L v) (prev_less L (row L v) some (row_less L v some h)) (mod-lt v some))

      around : (v : ℕ) → v < L * L
          → (face_sum L f (first_kind v) ⊕ face_sum L f (first_kind (left_of L v)))
          ⊕ (face_sum L f (second_kind v) ⊕ face_sum L f (second_kind (above_of L v)))
          ≡ false
      around v h =
          ap₂ ◌⊕◌
          (ap₂ ◌⊕◌ (face_sum_first L some f v h)
          (face_sum_first L some f (left_of L v) (left_less L v some h) ∙ ap (λ i. f (left_of L v) ⊕ f i) (corner v h)))
          (ap₂ ◌⊕◌ (face_sum_second L some f v h) (face_sum_second L some f (above_of L v) (above_less L v some h)))
          ∙ equal_xor _ _ (xor_swap (f v) (f (above_of L v)) (f (left_of L v)) (f (left_of L (above_of L v))))

  -- along a line each of the faces beside it is counted twice
  pub sum_unmarked : Unmarked (torus L) (face_sum L f)
  sum_unmarked line_a =
      line_A L some (face_sum L f)
      ∙ odd_cong L (λ r. face_sum L f (first_kind (r * L + (L - 1)))) (λ r. f (r * L + (L - 1)) ⊕ f (prev L r * L + (L - 1)))
      (λ r in_row. face_sum_first_at L some f r (L - 1) in_row (omega arith))
      ∙ odd_round L some (λ r. f (r * L + (L - 1)))
  sum_unmarked line_b =
      line_B L some (face_sum L f)
      ∙ odd_cong L (λ c. face_sum L f (second_kind ((L - 1) * L + c))) (λ c. f ((L - 1) * L + c) ⊕ f ((L - 1) * L + prev L c))
      (λ c in_column. face_sum_second_at L some f (L - 1) c (omega arith) in_column)
      ∙ odd_round L some (λ c. f ((L - 1) * L + c))

-- so it is with every set that faces make up
module _ (L : ℕ) (some : 1 ≤ L) (f D : Set) (makes : MakesUp L f D) where
  alike : (e : ℕ) → e < edges (torus L) → D e ≡ face_sum L f e
  alike e h = sym (makes.at e (omega (arith, edge_count L)))

  pub made_up_closed : Closed (torus L) D
  made_up_closed = has_syndrome_cong (torus L) D (face_sum L f) (λ v. false) alike (sum_closed L some f)

  pub made_up_unwound : winds (torus L) D ≡ false
  made_up_unwound = winds_cong (torus L) D (face_sum L f) alike ∙ unmarked_unwound (torus L) (face_sum L f) (sum_unmarked L some f)
