-- Document 01, "Board and loops", and document 02, K5: the syndrome of a set of edges.
-- Assumes nothing.
use Rattle.std.specs.Prelude.{ℕ, ◌<◌, ◌≡◌, Bool, not, ◌&&◌, ◌||◌, eqb}
use Rattle.model.specs.Sums.{Set, ◌⊕◌, odd_up_to}
use Rattle.model.specs.Board.{Board, edges, first_end, second_end, is_open}

-- edge e has an odd number of ends at v
abbrev pub meets : Board → ℕ → ℕ → Bool
meets B e v = eqb (first_end B e) v ⊕ eqb (second_end B e) v

-- edge e has an end at v
abbrev pub touches : Board → ℕ → ℕ → Bool
touches B e v = eqb (first_end B e) v || eqb (second_end B e) v

-- v is an odd end of D: its degree in D is odd
unfoldable pub odd_end : Board → Set → Set
odd_end B D v = odd_up_to (edges B) (λ e. D e && meets B e v)

-- the odd ends of D are R
pub record HasOddEnds (B : Board) (D R : Set) : Type 0 where
  pub at : (v : ℕ) → v < B.vertices → odd_end B D v ≡ R v

-- the syndrome of D: its odd ends, but an open vertex has no syndrome
unfoldable pub syndrome : Board → Set → Set
syndrome B D v = not (is_open B v) && odd_end B D v

-- D has the syndrome S
pub record HasSyndrome (B : Board) (D S : Set) : Type 0 where
  pub at : (v : ℕ) → v < B.vertices → syndrome B D v ≡ S v
