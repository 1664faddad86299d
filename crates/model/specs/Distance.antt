-- Document 01, "Distance and torus": the distance, by going through all sets of edges; any test of sets may stand in the place of winding.
-- Assumes nothing.
use Rattle.std.specs.Prelude.{ℕ, zero, suc, min, Bool, false, cond, ◌||◌, eqb}
use Rattle.std.proofs.Math.Option.{Option, none, some}
use Rattle.model.specs.Sums.{Set}
use Rattle.model.specs.Board.{Board, edges}
use Rattle.model.specs.Winding.{winds, size}

-- the smaller of two numbers that may be missing
abbrev pub lesser : Option ℕ → Option ℕ → Option ℕ
lesser none y = y
lesser (some a) none = some a
lesser (some a) (some b) = some (min a b)

-- the set D with edge e
abbrev pub with : ℕ → Set → Set
with e D i = eqb i e || D i

-- the fewest edges of a set that meets the test P, among the sets made of D and any edges below k
unfoldable pub fewest_from : Board → (Set → Bool) → ℕ → Set → Option ℕ
fewest_from B P zero D = cond (P D) (some (size B D)) none
fewest_from B P (suc e) D = lesser (fewest_from B P e D) (fewest_from B P e (with e D))

-- the least size of a set that meets P, or none where no set does
unfoldable pub fewest_where : Board → (Set → Bool) → Option ℕ
fewest_where B P = fewest_from B P (edges B) (λ i. false)

-- the distance: the least size of a winding set
unfoldable pub fewest : Board → Option ℕ
fewest B = fewest_where B (winds B)
