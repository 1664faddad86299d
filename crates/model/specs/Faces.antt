-- Document 02, K9: the faces of the torus of side L (source document 000, section 1), the sets of edges that they make up, and, for a
-- closed set that does not wind, the faces that make it up.
-- Assumes nothing.
use Rattle.std.specs.Prelude.{ℕ, zero, suc, ◌+◌, ◌*◌, ◌<◌, ◌≡◌, Bool, false, not, ◌&&◌, List, eqb}
use Rattle.model.specs.Sums.{Set, ◌⊕◌, odd_up_to, bytes}
use Rattle.model.specs.Torus.{row, column, right_of, below}

-- the edge of the first kind at vertex v, which leads to its right, and that of the second kind, which leads below
abbrev pub first_kind : ℕ → ℕ
first_kind v = 2 * v

abbrev pub second_kind : ℕ → ℕ
second_kind v = 2 * v + 1

-- Face (r, c) has the number rL + c, which is also that of vertex (r, c), its first corner. Its edges are those of the first kind at (r, c)
-- and (r + 1, c) and those of the second kind at (r, c) and (r, c + 1), modulo L. An edge that is named twice cancels: at side 1 both are.
abbrev pub in_face : ℕ → ℕ → Set
in_face L i e =
    (eqb (first_kind i) e ⊕ eqb (first_kind (below L i)) e) ⊕ (eqb (second_kind i) e ⊕ eqb (second_kind (right_of L i)) e)

-- the sum of the faces f: the edges that lie in an odd number of them
unfoldable pub face_sum : ℕ → Set → Set
face_sum L f e = odd_up_to (L * L) (λ i. f i && in_face L i e)

-- the faces f make up D, an edge counted twice cancelling
pub record MakesUp (L : ℕ) (f D : Set) : Type 0 where
  pub at : (e : ℕ) → e < 2 * (L * L) → face_sum L f e ≡ D e

-- some faces make up D
pub record MadeOfFaces (L : ℕ) (D : Set) : Type 0 where
  pub faces : Set
  pub make_up : MakesUp L faces D

-- the faces that are not in f
abbrev pub complement : Set → Set
complement f i = not (f i)

-- The faces that make up a closed set D that does not wind, without face 0. An edge lies in D exactly where one of the two faces beside it
-- is marked and the other is not; so going from face 0 along the first row, and from there down each column, the mark changes at each edge
-- of D that is crossed: from (0, c) to (0, c + 1) the edge of the second kind at (0, c + 1), from (r, c) to (r + 1, c) that of the first
-- kind at (r + 1, c).
unfoldable pub face_at : ℕ → Set → ℕ → ℕ → Bool
face_at L D zero zero = false
face_at L D zero (suc c) = face_at L D zero c ⊕ D (second_kind (suc c))
face_at L D (suc r) c = face_at L D r c ⊕ D (first_kind (suc r * L + c))

abbrev pub face_of : ℕ → Set → Set
face_of L D i = face_at L D (row L i) (column L i)

-- a byte for each of the L² faces
unfoldable pub face_bytes : ℕ → Set → List ℕ
face_bytes L D = bytes (L * L) (face_of L D)
