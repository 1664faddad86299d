-- Connected parts: two vertices have one label exactly where they are connected, and a label is the smallest vertex of its part. So any
-- list of smallest connected vertices is the list of labels, in whatever order the edges were fused.
-- Assumes nothing.
use Prim.Native.Nat.{ℕ, zero, suc, ◌≤◌, ◌<◌, min, max}
use mathlib.Core.Path.{◌≡◌, refl, sym, ◌∙◌, subst}
use mathlib.Core.Bool.{Bool, true, false, cond}
use mathlib.Core.List.{List}
use native.Mathlib.Nat.{le_refl, le_antisymm, not-suc-le-zero}
use native.Mathlib.Omega.{arith}
use borrow.Author.Tests.{eqb-true, eqb-false, leb-true, leb-false}
use lib.ListN.{length, get_or, length-map, get_or-map}
use lib.Seq.{ext_get_or}
use lib.Dec.{eqb, leb}
use Rattle.model.specs.Sums.{Set}
use Rattle.model.specs.Board.{Board, Inside, edges, first_end, second_end}
use Rattle.model.specs.Components.{label, merge, join, labels_up_to, labels}
use Rattle.model.proofs.SumLaws.{below_suc}
use Rattle.model.proofs.ListLaws.{length_values, get_d_values}
use Rattle.theory.proofs.Connected.{Connected, alone, along, back, chain, connected_keeps, connected_mono, connected_below, connected_equal}

-- One merge

-- the new label of what was labelled z, once the parts labelled x and y are one
abbrev pub renamed : ℕ → ℕ → ℕ → ℕ
renamed x y z = cond (eqb z (max x y)) (min x y) z

pub label_merge : (x y : ℕ) (l : List ℕ) (v : ℕ) → label (merge x y l) v ≡ renamed x y (label l v)
label_merge x y l v = subst (λ d. get_or (merge x y l) v d ≡ renamed x y (label l v)) zero_kept (get_or-map (renamed x y) l v 0)
  where
    go : (t : Bool) → eqb 0 (max x y) ≡ t → cond t (min x y) 0 ≡ 0
    go true p = let q = eqb-true 0 (max x y) p in omega arith
    go false p = refl

    zero_kept : renamed x y 0 ≡ 0
    zero_kept = go (eqb 0 (max x y)) refl

-- what becomes of a label: it stays, or one of the two takes the other's place
pub data Renamed (x y z r : ℕ) : Type 0 where
  kept : r ≡ z → Renamed x y z r
  from_left : z ≡ x → r ≡ y → Renamed x y z r
  from_right : z ≡ y → r ≡ x → Renamed x y z r

pub renamed_is : (x y z : ℕ) → Renamed x y z (renamed x y z)
renamed_is x y z = go (eqb z (max x y)) refl
  where
    order : (t : Bool) → leb x y ≡ t → z ≡ max x y → Renamed x y z (min x y)
    order true p q = let h = leb-true x y p in from_right (omega arith) (omega arith)
    order false p q = let h = leb-false x y p in from_left (omega arith) (omega arith)

    go : (t : Bool) → eqb z (max x y) ≡ t → Renamed x y z (cond t (min x y) z)
    go true p = order (leb x y) refl (eqb-true z (max x y) p)
    go false p = kept refl

pub renamed_bound : (x y z : ℕ) → renamed x y z ≤ z
renamed_bound x y z = go (eqb z (max x y)) refl
  where
    go : (t : Bool) → eqb z (max x y) ≡ t → cond t (min x y) z ≤ z
    go true p = let q = eqb-true z (max x y) p in omega arith
    go false p = le_refl _

-- the two parts get one label
pub renamed_ends : (x y : ℕ) → renamed x y x ≡ renamed x y y
renamed_ends x y = go (eqb x (max x y)) (eqb y (max x y)) refl refl
  where
    go : (s t : Bool) → eqb x (max x y) ≡ s → eqb y (max x y) ≡ t → cond s (min x y) x ≡ cond t (min x y) y
    go true true p q = refl
    go true false p q = let h = eqb-true x (max x y) p in omega (arith, eqb-false y (max x y) q)
    go false true p q = let h = eqb-true y (max x y) q in omega (arith, eqb-false x (max x y) p)
    go false false p q = omega (arith, eqb-false x (max x y) p, eqb-false y (max x y) q)

-- The labels, stage by stage

module _ (B : Board) (F : Set) where
  pub label_passed : (e : ℕ) → F e ≡ false → labels_up_to B F (suc e) ≡ labels_up_to B F e
  unfolding labels_up_to
  label_passed e p = rw p

  pub label_joined : (e v : ℕ) → F e ≡ true
      → label (labels_up_to B F (suc e)) v ≡ renamed (label (labels_up_to B F e) (first_end B e)) (label (labels_up_to B F e) (second_end B e))
      (label (labels_up_to B F e) v)
  unfolding labels_up_to
  label_joined e v p =
      rw p (label_merge (label (labels_up_to B F e) (first_end B e)) (label (labels_up_to B F e) (second_end B e)) (labels_up_to B F e) v)

  pub labels_length : (k : ℕ) → length (labels_up_to B F k) ≡ B.vertices
  unfolding labels_up_to
  labels_length zero = length_values B.vertices (λ v. v)
  labels_length (suc e) = go (labels_up_to B F e) (labels_length e) (F e)
    where
      go : (l : List ℕ) → length l ≡ B.vertices → (t : Bool) → length (cond t (join B e l) l) ≡ B.vertices
      go l long true = length-map l (renamed (label l (first_end B e)) (label l (second_end B e))) ∙ long
      go l long false = long

  pub label_start : (v : ℕ) → v < B.vertices → label (labels_up_to B F 0) v ≡ v
  unfolding labels_up_to
  label_start v h = get_d_values B.vertices (λ v. v) v 0 h

  -- what has one label keeps one label
  pub labels_stay : (e u v : ℕ) → label (labels_up_to B F e) u ≡ label (labels_up_to B F e) v
      → label (labels_up_to B F (suc e)) u ≡ label (labels_up_to B F (suc e)) v
  labels_stay e u v p = go (F e) refl
    where
      go : (t : Bool) → F e ≡ t → label (labels_up_to B F (suc e)) u ≡ label (labels_up_to B F (suc e)) v
      go true q = rw (label_joined e u q, label_joined e v q, p)
      go false q = rw (label_passed e q) p

  -- the two ends of an edge of F below k have one label
  pub edge_label : (k e : ℕ) → e < k → F e ≡ true → label (labels_up_to B F k) (first_end B e) ≡ label (labels_up_to B F k) (second_end B e)
  edge_label zero e h p = absurd (not-suc-le-zero h)
  edge_label (suc k) e h p =
      below_suc k e h
      (λ l. labels_stay k (first_end B e) (second_end B e) (edge_label k e l p))
      (λ q. joined (subst (λ i. F i ≡ true) q p) q)
    where
      joined : F k ≡ true → e ≡ k → label (labels_up_to B F (suc k)) (first_end B e) ≡ label (labels_up_to B F (suc k)) (second_end B e)
      joined p q =
          rw (q, label_joined k (first_end B k) p, label_joined k (second_end B k) p)
          (renamed_ends (label (labels_up_to B F k) (first_end B k)) (label (labels_up_to B F k) (second_end B k)))

  -- connected vertices have one label
  pub connected_label : (k : ℕ) {u v : ℕ} → Connected B F k u v → label (labels_up_to B F k) u ≡ label (labels_up_to B F k) v
  connected_label k c = connected_keeps B F k (label (labels_up_to B F k)) (edge_label k) c

  -- a label is at most its vertex
  pub label_bound : (k v : ℕ) → v < B.vertices → label (labels_up_to B F k) v ≤ v
  label_bound zero v h = rw (label_start v h) (le_refl _)
  label_bound (suc e) v h = go (label_bound e v h) (F e) refl
    where
      go : label (labels_up_to B F e) v ≤ v → (t : Bool) → F e ≡ t → label (labels_up_to B F (suc e)) v ≤ v
      go low true q =
          omega (
            arith,
            label_joined e v q,
            renamed_bound (label (labels_up_to B F e) (first_end B e))
                (label (labels_up_to B F e) (second_end B e)) (label (labels_up_to B F e) v),
          )
      go low false q = rw (label_passed e q) low

  pub label_below : (k v : ℕ) → v < B.vertices → label (labels_up_to B F k) v < B.vertices
  label_below k v h = omega (arith, label_bound k v h)

  -- a vertex is connected to its label
  pub label_connected : Inside B → (k : ℕ) → k ≤ edges B → (v : ℕ) → v < B.vertices → Connected B F k v (label (labels_up_to B F k) v)
  label_connected r zero below v h = rw (label_start v h) (alone v)
  label_connected r (suc e) below v h = go (λ u l. later (label_connected r e (omega arith) u l)) (F e) refl
    where
      later : {u v : ℕ} → Connected B F e u v → Connected B F (suc e) u v
      later c = connected_mono B F e F (suc e) (record { less = λ i l p. omega arith; holds = λ i l p. p }) c

      go : ((u : ℕ) → u < B.vertices → Connected B F (suc e) u (label (labels_up_to B F e) u)) → (t : Bool) → F e ≡ t
          → Connected B F (suc e) v (label (labels_up_to B F (suc e)) v)
      go own false q = rw (label_passed e q) (own v h)
      go own true q =
          rw (label_joined e v q)
          (moved (renamed_is (label (labels_up_to B F e) (first_end B e)) (label (labels_up_to B F e) (second_end B e)) (label (labels_up_to B F e) v)))
        where
          first_own : Connected B F (suc e) (first_end B e) (label (labels_up_to B F e) (first_end B e))
          first_own = own (first_end B e) (r.first_in_range e below)

          second_own : Connected B F (suc e) (second_end B e) (label (labels_up_to B F e) (second_end B e))
          second_own = own (second_end B e) (r.second_in_range e below)

          across : Connected B F (suc e) (label (labels_up_to B F e) (first_end B e)) (label (labels_up_to B F e) (second_end B e))
          across = chain (back first_own) (chain (along e (le_refl _) q) second_own)

          moved : {z : ℕ}
              → Renamed (label (labels_up_to B F e) (first_end B e)) (label (labels_up_to B F e) (second_end B e)) (label (labels_up_to B F e) v) z
              → Connected B F (suc e) v z
          moved (kept p) = rw p (own v h)
          moved (from_left p q) = rw q (chain (own v h) (chain (connected_equal B F (suc e) p) across))
          moved (from_right p q) = rw q (chain (own v h) (chain (connected_equal B F (suc e) p) (back across)))

  -- two vertices have one label exactly where they are connected
  pub label_equal_connected : Inside B → (k : ℕ) → k ≤ edges B → (u v : ℕ) → u < B.vertices → v < B.vertices
      → label (labels_up_to B F k) u ≡ label (labels_up_to B F k) v → Connected B F k u v
  label_equal_connected r k below u v hu hv p =
      chain (label_connected r k below u hu) (chain (connected_equal B F k p) (back (label_connected r k below v hv)))

  -- a label is its own label
  pub label_own : Inside B → (k : ℕ) → k ≤ edges B → (v : ℕ) → v < B.vertices
      → label (labels_up_to B F k) (label (labels_up_to B F k) v) ≡ label (labels_up_to B F k) v
  label_own r k below v h = sym (connected_label k (label_connected r k below v h))

-- The parts of a whole set

-- a is the smallest vertex that is connected to v
pub record Smallest (B : Board) (F : Set) (v a : ℕ) : Type 0 where
  pub reached : Connected B F (edges B) v a
  pub least : (w : ℕ) → Connected B F (edges B) v w → a ≤ w

module _ (B : Board) (F : Set) where
  pub part_length : length (labels B F) ≡ B.vertices
  unfolding labels
  part_length = labels_length B F (edges B)

  pub part_below : (v : ℕ) → v < B.vertices → label (labels B F) v < B.vertices
  unfolding labels
  part_below v h = label_below B F (edges B) v h

  pub connected_part : {u v : ℕ} → Connected B F (edges B) u v → label (labels B F) u ≡ label (labels B F) v
  unfolding labels
  connected_part c = connected_label B F (edges B) c

  module _ (r : Inside B) where
    pub part_connected : (u v : ℕ) → u < B.vertices → v < B.vertices → label (labels B F) u ≡ label (labels B F) v
        → Connected B F (edges B) u v
    unfolding labels
    part_connected = label_equal_connected B F r (edges B) (le_refl _)

    pub part_own : (v : ℕ) → v < B.vertices → label (labels B F) (label (labels B F) v) ≡ label (labels B F) v
    unfolding labels
    part_own = label_own B F r (edges B) (le_refl _)

    pub part_smallest : (v : ℕ) → v < B.vertices → Smallest B F v (label (labels B F) v)
    unfolding labels
    part_smallest v h =
        record {
          reached = label_connected B F r (edges B) (le_refl _) v h;
          least = λ w c. rw (connected_label B F (edges B) c) (label_bound B F (edges B) w (connected_below B r F c h));
        }

    -- a list that gives every vertex the smallest one connected to it is the list of labels
    pub labelling_unique : (l : List ℕ) → length l ≡ B.vertices → ((v : ℕ) → v < B.vertices → Smallest B F v (label l v)) → l ≡ labels B F
    labelling_unique l long small = ext_get_or 0 l (labels B F) (long ∙ sym part_length) (λ v h. same v (omega arith))
      where
        same : (v : ℕ) → v < B.vertices → label l v ≡ label (labels B F) v
        same v h =
            let s = small v h in
            let t = part_smallest v h in
            le_antisymm (s.least _ t.reached) (t.least _ s.reached)

-- only the edges that are gone through matter
pub stage_cong : (B : Board) (F G : Set) (k : ℕ) → ((e : ℕ) → e < k → F e ≡ G e) → labels_up_to B F k ≡ labels_up_to B G k
unfolding labels_up_to
stage_cong B F G zero same = refl
stage_cong B F G (suc e) same = rw (stage_cong B F G e (λ i h. same i (omega arith)), same e (le_refl _))

pub labels_cong : (B : Board) (F G : Set) → ((e : ℕ) → e < edges B → F e ≡ G e) → labels B F ≡ labels B G
unfolding labels
labels_cong B F G same = stage_cong B F G (edges B) same
