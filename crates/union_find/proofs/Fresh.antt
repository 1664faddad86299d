-- Vertices that are each alone are trees, and each is its own root. Assumes nothing.
use Prim.Native.Nat.{ℕ, ◌<◌}
use mathlib.Core.Path.{◌≡◌, sym, ap, ◌∙◌}
use mathlib.Core.List.{List}
use native.Mathlib.Omega.{arith}
use lib.Dec.{eqb}
use Rattle.model.proofs.SumLaws.{count_cong}
use Rattle.union_find.specs.Trees.{root_of, Trees, Alone}
use Rattle.union_find.proofs.Roots.{root_self}
use Rattle.union_find.proofs.Counts.{count_one}

module _ {n : ℕ} {p s : List ℕ} (w : Alone n p s) where
  pub alone_root : (v : ℕ) → v < n → root_of p v ≡ v
  alone_root v h = root_self p v (w.own v h)

  pub alone_trees : Trees n p s
  alone_trees =
      record {
        climbs = record {
          limit = w.room.limit;
          parents = w.room.parents;
          sizes = w.room.sizes;
          inside = λ v h. rw (w.own v h) h;
          bounded = λ v h. rw (w.one v h) (omega arith);
          rising = λ v h q. absurd (q (w.own v h));
        };
        counted = λ r h q.
            w.one r h ∙ sym (count_cong n _ _ (λ v l. ap (λ z. eqb z r) (alone_root v l)) ∙ count_one n r h);
      }
