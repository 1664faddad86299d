-- Document 01, "Peeling": the spanning forest of the full edges.
-- Assumes nothing.
use Rattle.std.specs.Prelude.{ℕ, zero, suc, Bool, cond, not, ◌&&◌, List, eqb}
use Rattle.model.specs.Sums.{Set, values}
use Rattle.model.specs.Board.{Board, first_end, second_end}
use Rattle.model.specs.Components.{label, join}

-- the ends of edge e have different labels
abbrev pub parted : Board → List ℕ → ℕ → Bool
parted B l e = not (eqb (label l (first_end B e)) (label l (second_end B e)))

-- The greedy spanning forest of F: the edges are tried by rising number, and one is taken where it closes no cycle with those taken before.
-- Here, the labels by the edges taken below k.
unfoldable pub taken_up_to : Board → Set → ℕ → List ℕ
taken_up_to B F zero = values B.vertices (λ v. v)
taken_up_to B F (suc e) = cond (F e && parted B (taken_up_to B F e) e) (join B e (taken_up_to B F e)) (taken_up_to B F e)

-- the forest: the edges of F that are taken when their turn comes
unfoldable pub forest : Board → Set → Set
forest B F e = F e && parted B (taken_up_to B F e) e
