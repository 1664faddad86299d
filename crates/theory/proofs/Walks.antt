-- Walks: from vertex to vertex along edges, either way, each as often as one likes. A walk is its list of edges, in order, with a proof
-- that they follow one another, so its length, its crossings and its odd edges are functions of that list. Assumes nothing.
use Prim.Native.Nat.{ℕ, ◌<◌}
use mathlib.Core.Path.{◌≡◌, refl, sym, ap, ◌∙◌}
use mathlib.Core.Bool.{Bool, false}
use mathlib.Core.List.{List, [], ◌∷◌, ◌++◌}
use lib.Dec.{eqb}
use Rattle.model.specs.Sums.{Set, ◌⊕◌}
use Rattle.model.specs.Board.{Board, edges, first_end, second_end}
use Rattle.model.proofs.Xor.{xor_assoc}
use Rattle.theory.proofs.CrossedLines.{Line, crosses}

-- edge e leads from u to v, forth from its first end or back to it
pub data Along (B : Board) (e u v : ℕ) : Type 0 where
  forth : first_end B e ≡ u → second_end B e ≡ v → Along B e u v
  back : second_end B e ≡ u → first_end B e ≡ v → Along B e u v

-- the edges of the list lead from u to v
pub data Walk (B : Board) : ℕ → List ℕ → ℕ → Type 0 where
  stop : {u : ℕ} → Walk B u [] u
  step : {e u v w : ℕ} {l : List ℕ} → e < edges B → Along B e u v → Walk B v l w → Walk B u (e ∷ l) w

-- one walk after another
pub append : {B : Board} {u v w : ℕ} {l k : List ℕ} → Walk B u l v → Walk B v k w → Walk B u (l ++ k) w
append stop q = q
append (step h a p) q = step h a (append p q)

-- an odd number of a walk's edges are in f: the exclusive or of f along the walk
abbrev pub odd_along : Set → List ℕ → Bool
odd_along f [] = false
odd_along f (e ∷ l) = f e ⊕ odd_along f l

pub odd_along_append : (f : Set) (l k : List ℕ) → odd_along f (l ++ k) ≡ odd_along f l ⊕ odd_along f k
odd_along_append f [] k = refl
odd_along_append f (e ∷ l) k = ap (λ b. f e ⊕ b) (odd_along_append f l k) ∙ sym (xor_assoc (f e) (odd_along f l) (odd_along f k))

-- the walk crosses line x an odd number of times: one bit of the exclusive or of its marks
abbrev pub walk_crosses : Board → Line → List ℕ → Bool
walk_crosses B x l = odd_along (crosses B x) l

-- the edges that the walk passes an odd number of times
abbrev pub passed_oddly : List ℕ → Set
passed_oddly l i = odd_along (λ e. eqb e i) l
