-- What the verdict keeps for each vertex while it goes through the edges. No part of what a reader must believe. Assumes nothing.
use Rattle.std.specs.Prelude.{ℕ, ◌+◌, ◌*◌, ◌<◌, ◌≤◌, ◌≡◌, Bool, cond, ◌&&◌, List, length, get_or, eqb}
use Rattle.model.specs.Sums.{Set, ◌⊕◌, odd_up_to, ones}
use Rattle.model.specs.Board.{vertex_limit}

-- an array with a byte for each vertex that a board can have, the first n of them 0 or 1
pub record Bits (n : ℕ) (l : List ℕ) : Type 0 where
  pub limit : n ≤ vertex_limit
  pub long : length l ≡ vertex_limit
  pub small : (v : ℕ) → v < n → get_or l v 0 ≤ 1

-- from l to l' the byte of each v below n is flipped exactly where v is in g
pub record Flipped (g : Set) (n : ℕ) (l l' : List ℕ) : Type 0 where
  pub bits : Bits n l'
  pub at : (v : ℕ) → v < n → ones l' v ≡ ones l v ⊕ g v

-- edge e has an odd number of ends at v: `meets` of the model, by the list of ends
abbrev pub meets_at : List ℕ → ℕ → ℕ → Bool
meets_at ends e v = eqb (get_or ends (2 * e) 0) v ⊕ eqb (get_or ends (2 * e + 1) 0) v

-- the vertices that meet an odd number of H's edges below k
abbrev pub met_by : List ℕ → Set → ℕ → Set
met_by ends H k v = odd_up_to k (λ e. H e && meets_at ends e v)

-- the first k bytes are among those of an array for all vertices
pub record Clearable (k : ℕ) (l : List ℕ) : Type 0 where
  pub limit : k ≤ vertex_limit
  pub long : length l ≡ vertex_limit

-- from l to l' the byte of each open vertex below k becomes 0
pub record Cleared (k : ℕ) (opened l l' : List ℕ) : Type 0 where
  pub long : length l' ≡ vertex_limit
  pub at : (v : ℕ) → v < k → get_or l' v 0 ≡ cond (ones opened v) 0 (get_or l v 0)
  pub rest : (v : ℕ) → k ≤ v → get_or l' v 0 ≡ get_or l v 0
