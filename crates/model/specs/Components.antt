-- Document 01, "Growth" (step 1) and "Peeling": the connected components, called parts, of the graph that has all vertices of a board and
-- some of its edges. A part is named by its smallest vertex, the label of all its vertices, so that a tie (step 3) goes to the smallest label.
-- Assumes nothing.
use Rattle.std.specs.Prelude.{ℕ, zero, suc, min, max, cond, List, map, get_or, eqb}
use Rattle.model.specs.Sums.{Set, values}
use Rattle.model.specs.Board.{Board, edges, first_end, second_end}

-- the label of v in a list of labels
abbrev pub label : List ℕ → ℕ → ℕ
label l v = get_or l v 0

-- the parts labelled a and b as one, which takes the smaller label
abbrev pub merge : ℕ → ℕ → List ℕ → List ℕ
merge a b l = map (λ x. cond (eqb x (max a b)) (min a b) x) l

-- the parts of the two ends of edge e as one
abbrev pub join : Board → ℕ → List ℕ → List ℕ
join B e l = merge (label l (first_end B e)) (label l (second_end B e)) l

-- the labels by the edges of F below k: at first every vertex is alone, then each edge of F joins its two ends
unfoldable pub labels_up_to : Board → Set → ℕ → List ℕ
labels_up_to B F zero = values B.vertices (λ v. v)
labels_up_to B F (suc e) = cond (F e) (join B e (labels_up_to B F e)) (labels_up_to B F e)

unfoldable pub labels : Board → Set → List ℕ
labels B F = labels_up_to B F (edges B)

-- v lies in the part labelled a
abbrev pub within : List ℕ → ℕ → Set
within l a v = eqb (label l v) a
