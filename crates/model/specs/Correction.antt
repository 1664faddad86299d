-- Document 01, "Peeling", and document 02, K5: the correction.
-- Assumes nothing.
use Rattle.std.specs.Prelude.{ℕ, Bool, not, ◌&&◌, List, eqb}
use Rattle.model.specs.Sums.{Set, ◌⊕◌, some_up_to, ones, bytes}
use Rattle.model.specs.Board.{Board, edges, first_end, is_open}
use Rattle.model.specs.Components.{labels, label, within}
use Rattle.model.specs.Growth.{oddly_lit}
use Rattle.model.specs.Forest.{forest}

-- the set D without edge e
abbrev pub without : Set → ℕ → Set
without D e i = D i && not (eqb i e)

-- the connected part of v by the edges of D holds an odd number of R
unfoldable pub odd_side : Board → Set → Set → ℕ → Bool
odd_side B D R v = let l = labels B D in oddly_lit B l R (label l v)

-- The subset of the forest with the odd ends R: edge e is in it exactly where cutting e leaves an odd number of R on the side of its first
-- end. Where every cluster holds an even number of R it has these odd ends, and no other subset of the forest ever has them (theory,
-- `spanned_has_ends` and `spanned_unique`).
unfoldable pub spanned : Board → Set → Set → Set
spanned B F R e =
    let T = ones (bytes (edges B) (forest B F)) in
    forest B F e && odd_side B (without T e) R (first_end B e)

-- K5: v is the smallest open vertex of its cluster
abbrev pub outlet : Board → List ℕ → ℕ → Bool
outlet B l v = is_open B v && not (some_up_to v (λ u. is_open B u && within l (label l v) u))

-- the odd ends: the syndrome S, and in each cluster with an odd number of S its smallest open vertex as well
unfoldable pub odd_ends : Board → List ℕ → Set → Set
odd_ends B l S v = S v ⊕ (outlet B l v && oddly_lit B l S (label l v))

-- The correction: the subset of the forest with these odd ends. Where no cluster is odd it has the syndrome S (theory,
-- `correction_has_syndrome`).
unfoldable pub correction : Board → Set → Set → Set
correction B F S = spanned B F (ones (bytes B.vertices (odd_ends B (labels B F) S)))
