-- Vertices connected by edges of a set, as an inductive relation, and what one more edge adds to it.
-- Assumes nothing.
use Prim.Native.Nat.{ℕ, ◌<◌}
use mathlib.Core.Path.{◌≡◌, refl, sym, ◌∙◌, subst}
use mathlib.Core.Bool.{true}
use mathlib.Core.Logic.{◌⊎◌, inl, inr}
use Rattle.model.specs.Sums.{Set}
use Rattle.model.specs.Board.{Board, Inside, edges, first_end, second_end}

-- u and v are connected by edges of F below k
pub data Connected (B : Board) (F : Set) (k : ℕ) : ℕ → ℕ → Type 0 where
  alone : (v : ℕ) → Connected B F k v v
  along : (e : ℕ) → e < k → F e ≡ true → Connected B F k (first_end B e) (second_end B e)
  back : {u v : ℕ} → Connected B F k u v → Connected B F k v u
  chain : {u v w : ℕ} → Connected B F k u v → Connected B F k v w → Connected B F k u w

pub connected_equal : (B : Board) (F : Set) (k : ℕ) {u v : ℕ} → u ≡ v → Connected B F k u v
connected_equal B F k {u} {v} p = subst (Connected B F k u) p (alone u)

-- what is one at both ends of every edge is one at connected vertices
pub connected_keeps : (B : Board) (F : Set) (k : ℕ) {A : Type 0} (f : ℕ → A)
    → ((e : ℕ) → e < k → F e ≡ true → f (first_end B e) ≡ f (second_end B e)) → {u v : ℕ} → Connected B F k u v → f u ≡ f v
connected_keeps B F k f same (alone v) = refl
connected_keeps B F k f same (along e h p) = same e h p
connected_keeps B F k f same (back c) = sym (connected_keeps B F k f same c)
connected_keeps B F k f same (chain c d) = connected_keeps B F k f same c ∙ connected_keeps B F k f same d

-- what is connected by edges whose ends are connected by edges of G is connected by edges of G
pub connected_through : (B : Board) (F : Set) (k : ℕ) (G : Set) (j : ℕ)
    → ((e : ℕ) → e < k → F e ≡ true → Connected B G j (first_end B e) (second_end B e)) → {u v : ℕ} → Connected B F k u v
    → Connected B G j u v
connected_through B F k G j each (alone v) = alone v
connected_through B F k G j each (along e h p) = each e h p
connected_through B F k G j each (back c) = back (connected_through B F k G j each c)
connected_through B F k G j each (chain c d) = chain (connected_through B F k G j each c) (connected_through B F k G j each d)

-- every edge of F below k is an edge of G below j
pub record EdgesAmong (F : Set) (k : ℕ) (G : Set) (j : ℕ) : Type 0 where
  pub less : (e : ℕ) → e < k → F e ≡ true → e < j
  pub holds : (e : ℕ) → e < k → F e ≡ true → G e ≡ true

pub connected_mono : (B : Board) (F : Set) (k : ℕ) (G : Set) (j : ℕ) → EdgesAmong F k G j → {u v : ℕ} → Connected B F k u v
    → Connected B G j u v
connected_mono B F k G j sub c = connected_through B F k G j (λ e h p. along e (sub.less e h p) (sub.holds e h p)) c

-- a vertex is connected to vertices only
pub connected_below : (B : Board) → Inside B → (F : Set) {u v : ℕ} → Connected B F (edges B) u v → u < B.vertices → v < B.vertices
connected_below B r F c = (both c).0
  where
    both : {u v : ℕ} → Connected B F (edges B) u v → (u < B.vertices → v < B.vertices) × (v < B.vertices → u < B.vertices)
    both (alone v) = (λ h. h, λ h. h)
    both (along e h p) = (λ l. r.second_in_range e h, λ l. r.first_in_range e h)
    both (back c) = ((both c).1, (both c).0)
    both (chain c d) = (λ h. (both d).0 ((both c).0 h), λ h. (both c).1 ((both d).1 h))

-- One more edge

-- u and v are connected by edges of F below k, or by them through edge e
pub data Through (B : Board) (F : Set) (k e u v : ℕ) : Type 0 where
  beside : Connected B F k u v → Through B F k e u v
  forward : Connected B F k u (first_end B e) → Connected B F k (second_end B e) v → Through B F k e u v
  backward : Connected B F k u (second_end B e) → Connected B F k (first_end B e) v → Through B F k e u v

through_back : (B : Board) (F : Set) (k e : ℕ) {u v : ℕ} → Through B F k e u v → Through B F k e v u
through_back B F k e (beside c) = beside (back c)
through_back B F k e (forward c d) = backward (back d) (back c)
through_back B F k e (backward c d) = forward (back d) (back c)

through_chain : (B : Board) (F : Set) (k e : ℕ) {u v w : ℕ} → Through B F k e u v → Through B F k e v w → Through B F k e u w
through_chain B F k e (beside c) (beside d) = beside (chain c d)
through_chain B F k e (beside c) (forward d f) = forward (chain c d) f
through_chain B F k e (beside c) (backward d f) = backward (chain c d) f
through_chain B F k e (forward c d) (beside f) = forward c (chain d f)
through_chain B F k e (forward c d) (forward f g) = forward c g
through_chain B F k e (forward c d) (backward f g) = beside (chain c g)
through_chain B F k e (backward c d) (beside f) = backward c (chain d f)
through_chain B F k e (backward c d) (forward f g) = beside (chain c g)
through_chain B F k e (backward c d) (backward f g) = backward c g

-- where G has no edge below j but e and those of F below k, what is connected by G is so through e
pub through_edge : (B : Board) (F : Set) (k : ℕ) (G : Set) (j e : ℕ) → ((i : ℕ) → i < j → G i ≡ true → ((i < k) × (F i ≡ true)) ⊎ (i ≡ e))
    → {u v : ℕ} → Connected B G j u v → Through B F k e u v
through_edge B F k G j e known (alone v) = beside (alone v)
through_edge B F k G j e known (along i h p) = go (known i h p)
  where
    go : ((i < k) × (F i ≡ true)) ⊎ (i ≡ e) → Through B F k e (first_end B i) (second_end B i)
    go (inl q) = beside (along i q.0 q.1)
    go (inr q) = rw q (forward (alone _) (alone _))
through_edge B F k G j e known (back c) = through_back B F k e (through_edge B F k G j e known c)
through_edge B F k G j e known (chain c d) = through_chain B F k e (through_edge B F k G j e known c) (through_edge B F k G j e known d)
