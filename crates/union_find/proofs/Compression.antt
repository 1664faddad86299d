-- Path compression leaves trees in which every vertex has the root that it had. Assumes nothing.
use Prim.Native.Nat.{ℕ, ◌<◌}
use mathlib.Core.Path.{◌≡◌, refl, sym, ap, ◌∙◌}
use mathlib.Core.Logic.{◌⊎◌, inl, inr, ⊎_elim}
use mathlib.Core.Bool.{Bool, true, false, cond}
use mathlib.Core.List.{List}
use native.Mathlib.Omega.{arith}
use lib.Dec.{eqb}
use Rattle.model.proofs.SumLaws.{count_cong}
use Rattle.union_find.specs.Trees.{at, root_of, Climbs, Trees, RootIs, under, Compressed}
use Rattle.union_find.proofs.Roots.{climb, root_self, root_top, root_parent, root_inside, root_largest}
use Rattle.union_find.proofs.Subtrees.{under_same_root}

module _ {p p' : List ℕ} {v r : ℕ} (i : RootIs p v r) (w : Compressed p v r p') where
  -- each vertex keeps its parent, or hangs under its own root at once
  each : (z : ℕ) → (at p' z ≡ at p z) ⊎ (at p' z ≡ root_of p z)
  each z = go (under p z v) refl (w.each z)
    where
      go : (b : Bool) → under p z v ≡ b → at p' z ≡ cond b r (at p z) → (at p' z ≡ at p z) ⊎ (at p' z ≡ root_of p z)
      go true on q = inr (q ∙ i.root ∙ sym (under_same_root i.way.climbs z v i.way.vertex on))
      go false off q = inl q

  -- a root stays one
  compressed_root : (z : ℕ) → at p z ≡ z → at p' z ≡ z
  compressed_root z q = ⊎_elim (λ e. e ∙ q) (λ e. e ∙ root_self p z q) (each z)

  module _ {n : ℕ} {s : List ℕ} where
    -- and no vertex becomes one
    pub roots_were : Climbs n p s → (z : ℕ) → z < n → at p' z ≡ z → at p z ≡ z
    roots_were t z h q = ⊎_elim (λ e. sym e ∙ q) (λ e. ap (at p) (sym q ∙ e) ∙ root_top t z h ∙ sym e ∙ q) (each z)

    pub compressed_climbs : Climbs n p s → Climbs n p' s
    compressed_climbs t =
        record {
          limit = t.limit;
          parents = rw w.same_length t.parents;
          sizes = t.sizes;
          inside = λ z h. ⊎_elim (λ e. rw e (t.inside z h)) (λ e. rw e (root_inside t z h)) (each z);
          bounded = t.bounded;
          rising = λ z h q.
              ⊎_elim
              (λ e. rw e (t.rising z h (λ o. q (e ∙ o))))
              (λ e.
              let larger = root_largest t (at p z) (t.inside z h) in
              rw e (omega (arith, t.rising z h (λ o. q (compressed_root z o)), ap (at s) (root_parent t z h))))
              (each z);
        }

    pub compressed_roots : Climbs n p s → (z : ℕ) → z < n → root_of p' z ≡ root_of p z
    compressed_roots t =
        climb t (λ z. root_of p' z ≡ root_of p z)
        (λ z h q. root_self p' z (compressed_root z q) ∙ sym (root_self p z q))
        (λ z h q up.
        let t' = compressed_climbs t in
        sym (root_parent t' z h)
        ∙ ⊎_elim
        (λ e. ap (root_of p') e ∙ up ∙ root_parent t z h)
        (λ e. ap (root_of p') e ∙ root_self p' (root_of p z) (compressed_root (root_of p z) (root_top t z h)))
        (each z))

    pub compressed_trees : Trees n p s → Trees n p' s
    compressed_trees t =
        record {
          climbs = compressed_climbs t.climbs;
          counted = λ x h q.
              t.counted x h (roots_were t.climbs x h q)
              ∙ count_cong n _ _ (λ z l. ap (λ y. eqb y x) (sym (compressed_roots t.climbs z l)));
        }
