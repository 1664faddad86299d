-- The tie to the definitions: trees that mirror the labels by some edges mirror them still when the next edge's ends are joined in both.
-- Assumes nothing.
use Prim.Native.Nat.{ℕ, suc, ◌≤◌, ◌<◌, min, max}
use mathlib.Core.Path.{◌≡◌, sym, ap₂, ◌∙◌}
use mathlib.Core.Bool.{true, false, ◌&&◌, ◌||◌, or_comm}
use mathlib.Core.List.{List}
use native.Mathlib.Decide.{dec_le}
use native.Mathlib.Omega.{arith}
use borrow.Author.Tests.{eqb-true, eq-eqb}
use lib.ListN.{length}
use lib.Dec.{eqb}
use Rattle.std.proofs.lemmas.List.{get_or-map}
use Rattle.model.specs.Sums.{Set}
use Rattle.model.specs.Board.{Board, first_end, second_end}
use Rattle.model.specs.Components.{label, merge, labels_up_to}
use Rattle.model.proofs.ListLaws.{get_d_values}
use Rattle.union_find.specs.declared.Joined.{Joined}
use Rattle.union_find.specs.Trees.{Trees, Alone, moved, root_of}
use Rattle.union_find.specs.Joining.{Joins, same_root, Mirrors}
use Rattle.union_find.proofs.Moved.{moved_same}
use Rattle.union_find.proofs.Fresh.{alone_root}
use Rattle.union_find.proofs.Unions.{joins_same}

-- which labels are equal once a and b are one
merge_same : (a b : ℕ) (l : List ℕ) (u v : ℕ) → u < length l → v < length l
    → eqb (label (merge a b l) u) (label (merge a b l) v)
    ≡ (eqb (label l u) (label l v) || ((eqb (label l u) a || eqb (label l u) b) && (eqb (label l v) a || eqb (label l v) b)))
merge_same a b l u v hu hv =
    ap₂ eqb (get_or-map (moved (max a b) (min a b)) l u 0 0 hu) (get_or-map (moved (max a b) (min a b)) l v 0 0 hv)
    ∙ moved_same (max a b) (min a b) (label l u) (label l v)
    ∙ elim (dec_le a b) [
      | yes h ↦
          let hi : max a b ≡ b = omega arith in
          let lo : min a b ≡ a = omega arith in
          rw (hi, lo, or_comm (eqb (label l u) b) (eqb (label l u) a), or_comm (eqb (label l v) b) (eqb (label l v) a))
      | no h ↦
          let hi : max a b ≡ a = omega arith in
          let lo : min a b ≡ b = omega arith in
          rw (hi, lo)
    ]

-- two trees as one, and their labels in the list
pub mirrors_united : {n : ℕ} {p p' l : List ℕ} {a b : ℕ} → Mirrors n p l → n ≤ length l → a < n → b < n
    → ((u v : ℕ) → u < n → v < n
    → same_root p' u v ≡ (same_root p u v || ((same_root p u a || same_root p u b) && (same_root p v a || same_root p v b))))
    → Mirrors n p' (merge (label l a) (label l b) l)
mirrors_united {l = l} {a = a} {b = b} m long ha hb one =
    record {
      same = λ u v hu hv.
          one u v hu hv
          ∙ rw (m.same u v hu hv, m.same u a hu ha, m.same u b hu hb, m.same v a hv ha, m.same v b hv hb)
          (sym (merge_same (label l a) (label l b) l u v (omega arith) (omega arith)));
    }

-- so it is where they are joined
pub mirrors_merge : {n : ℕ} {p s l : List ℕ} {a b : ℕ} → Mirrors n p l → Trees n p s → n ≤ length l → a < n → b < n
    → {r : Joined} {p' s' : List ℕ} → Joins p s a b r p' s' → Mirrors n p' (merge (label l a) (label l b) l)
mirrors_merge m t long ha hb k = mirrors_united m long ha hb (joins_same t ha hb k)

module _ (B : Board) (F : Set) {p : List ℕ} where
  -- at first every vertex is alone
  pub mirrors_alone : {s : List ℕ} → Alone B.vertices p s → Mirrors B.vertices p (labels_up_to B F 0)
  unfolding labels_up_to
  mirrors_alone w =
      record {
        same = λ u v hu hv.
            ap₂ eqb (alone_root w u hu) (alone_root w v hv)
            ∙ sym (ap₂ eqb (get_d_values B.vertices (λ i. i) u 0 hu) (get_d_values B.vertices (λ i. i) v 0 hv));
      }

  -- an edge of F joins its ends
  pub mirrors_joined : {s : List ℕ} (e : ℕ) → F e ≡ true → Mirrors B.vertices p (labels_up_to B F e) → Trees B.vertices p s
      → B.vertices ≤ length (labels_up_to B F e) → first_end B e < B.vertices → second_end B e < B.vertices → {r : Joined} {p' s' : List ℕ}
      → Joins p s (first_end B e) (second_end B e) r p' s' → Mirrors B.vertices p' (labels_up_to B F (suc e))
  unfolding labels_up_to
  mirrors_joined e taken m t long ha hb k = rw taken (mirrors_merge m t long ha hb k)

  -- an edge that is not in F does nothing
  pub mirrors_passed : (e : ℕ) → F e ≡ false → Mirrors B.vertices p (labels_up_to B F e) → Mirrors B.vertices p (labels_up_to B F (suc e))
  unfolding labels_up_to
  mirrors_passed e passed m = rw passed m

-- one root exactly where one label
pub root_label : {n : ℕ} {p l : List ℕ} → Mirrors n p l → (u v : ℕ) → u < n → v < n → root_of p u ≡ root_of p v → label l u ≡ label l v
root_label m u v hu hv q = eqb-true _ _ (sym (m.same u v hu hv) ∙ eq-eqb _ _ q)

pub label_root : {n : ℕ} {p l : List ℕ} → Mirrors n p l → (u v : ℕ) → u < n → v < n → label l u ≡ label l v → root_of p u ≡ root_of p v
label_root m u v hu hv q = eqb-true _ _ (m.same u v hu hv ∙ eq-eqb _ _ q)
