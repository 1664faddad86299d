-- Document 01, "Growth", steps 1 to 4, and document 02, K5: the weighted growth of source document 000 (its sections 2, 4 and 5). The
-- steps settle what that text leaves open, ties and the unit of work. Which clusters grow is a policy by itself, of which `Rounds` has
-- another.
-- Assumes nothing.
use Rattle.std.specs.Prelude.{ℕ, zero, suc, ◌+◌, ◌*◌, min, Bool, cond, not, ◌&&◌, List, get_or, eqb, ltb}
use Rattle.std.proofs.Math.Option.{Option, none, some}
use Rattle.model.specs.Sums.{Set, bit, odd_up_to, count_up_to, some_up_to, values}
use Rattle.model.specs.Board.{Board, edges, first_end, second_end, is_open}
use Rattle.model.specs.Syndrome.{touches}
use Rattle.model.specs.Components.{labels, label, within}

-- Step 1: the supports before any growth, in half-edges (0, 1 or 2 for an edge): 2 for a lost edge, 0 for any other.
unfoldable pub start : Board → Set → List ℕ
start B lost = values (edges B) (λ e. cond (lost e) 2 0)

-- Step 1: edge e is full, that is, its support is 2.
abbrev pub full : List ℕ → Set
full s e = eqb (get_or s e 0) 2

-- Step 1: the clusters, as labels: the connected components by full edges. A vertex that touches no full edge is a cluster of its own.
unfoldable pub clusters : Board → List ℕ → List ℕ
clusters B s = labels B (full s)

-- Step 2: cluster a holds an odd number of the vertices of S. A label that no vertex has is that of an empty cluster.
unfoldable pub oddly_lit : Board → List ℕ → Set → ℕ → Bool
oddly_lit B l S a = odd_up_to B.vertices (λ v. S v && within l a v)

-- K5: cluster a holds an open vertex.
unfoldable pub holds_open : Board → List ℕ → ℕ → Bool
holds_open B l a = some_up_to B.vertices (λ v. is_open B v && within l a v)

-- Step 2: cluster a is odd, by the parity of its syndrome vertices; with an open vertex (K5) it never is.
unfoldable pub odd : Board → List ℕ → Set → ℕ → Bool
odd B l S a = oddly_lit B l S a && not (holds_open B l a)

-- v lies in an odd cluster
abbrev pub in_odd : Board → List ℕ → Set → Set
in_odd B l S v = odd B l S (label l v)

-- Step 2: v touches some edge that isn't full.
unfoldable pub exposed : Board → List ℕ → ℕ → Bool
exposed B s v = some_up_to (edges B) (λ e. touches B e v && not (full s e))

-- Step 2: the boundary size of cluster a. It counts exposed vertices, each once, and not the edges that leave the cluster.
unfoldable pub boundary : Board → List ℕ → List ℕ → ℕ → ℕ
boundary B s l a = count_up_to B.vertices (λ v. within l a v && exposed B s v)

-- Step 3: of the odd clusters, the one to grow has the least boundary size, and in a tie the smallest label, its smallest vertex. Cluster
-- a, against the best of the clusters with smaller labels: it is taken where it is odd and, if there is such a best one, its boundary size
-- is strictly smaller.
abbrev pub better : Board → List ℕ → List ℕ → Set → ℕ → Option ℕ → Option ℕ
better B s l S a none = cond (odd B l S a) (some a) none
better B s l S a (some c) = cond (odd B l S a && ltb (boundary B s l a) (boundary B s l c)) (some a) (some c)

-- Step 3: the choice among the labels below a bound, and among all; none where no cluster is odd.
unfoldable pub choice_up_to : Board → List ℕ → List ℕ → Set → ℕ → Option ℕ
choice_up_to B s l S zero = none
choice_up_to B s l S (suc a) = better B s l S a (choice_up_to B s l S a)

unfoldable pub choice : Board → List ℕ → List ℕ → Set → Option ℕ
choice B s l S = choice_up_to B s l S B.vertices

-- Step 4: each edge gains a half-edge for each of its ends in R, where both are, thus two, but never has more than 2; a full edge stays as
-- it is. Clusters fuse by definition: those of the new supports are the components by what is full now.
unfoldable pub swell : Board → List ℕ → Set → List ℕ
swell B s R = values (edges B) (λ e. min 2 (get_or s e 0 + bit (R (first_end B e)) + bit (R (second_end B e))))

-- Step 4: one growth of cluster a
abbrev pub grow : Board → List ℕ → List ℕ → ℕ → List ℕ
grow B s l a = swell B s (within l a)

-- A policy says by the supports which vertices grow next, all at once, or that growth is over.
abbrev pub Policy : Type 0
Policy = List ℕ → Option Set

-- what is chosen goes on, and without a choice it stops
abbrev pub chosen : {A C : Type 0} → Option C → A → (C → A) → A
chosen none stop grow = stop
chosen (some a) stop grow = grow a

-- Step 3: without an odd cluster to choose, stop; otherwise grow the chosen one.
unfoldable pub weighted : Board → Set → Policy
weighted B S s =
    let l = clusters B s in
    chosen (choice B s l S) none (λ a. some (within l a))

-- supports, and how often there was growth before them: growths (step 4), or rounds
pub record Grown : Type 0 where
  pub support : List ℕ
  pub count : ℕ

-- growth by a policy, over and over, at most k times
unfoldable pub grow_from : Board → Policy → ℕ → List ℕ → ℕ → Grown
grow_from B p zero s g = record { support = s; count = g }
grow_from B p (suc k) s g = chosen (p s) (record { support = s; count = g }) (λ R. grow_from B p k (swell B s R) (suc g))

-- Growth from the start. Twice the number of edges is often enough wherever a correction exists (theory, `growth_ends`).
unfoldable pub grown : Board → Policy → Set → Grown
grown B p lost = grow_from B p (2 * edges B) (start B lost) 0
