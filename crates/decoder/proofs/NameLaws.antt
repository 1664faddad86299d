-- The trees' names, as labels: they are those of the parts that the trees mirror. Assumes nothing.
use Prim.Native.Nat.{ℕ, ◌<◌}
use mathlib.Core.Path.{◌≡◌, sym, ap, ◌∙◌}
use mathlib.Core.List.{List}
use native.Mathlib.Nat.{le_antisymm}
use native.Mathlib.Omega.{arith}
use Rattle.model.specs.Sums.{Set}
use Rattle.model.specs.Board.{Board, Inside}
use Rattle.model.specs.Components.{label, labels}
use Rattle.model.proofs.ListLaws.{get_d_values, values_are, values_cong}
use Rattle.theory.proofs.Components.{part_length, part_below, part_own, part_connected, part_smallest}
use Rattle.union_find.specs.Trees.{at, root_of}
use Rattle.union_find.specs.Joining.{Mirrors}
use Rattle.union_find.proofs.Labels.{root_label, label_root}
use Rattle.decoder.specs.Figures.{Lows, name_of, names, Leads}

module _ (n : ℕ) (p low : List ℕ) where
  pub names_label : (v : ℕ) → v < n → label (names n p low) v ≡ name_of p low v
  unfolding names
  names_label v h = get_d_values n (name_of p low) v 0 h

  module _ (w : Lows n p low) where
    pub name_below : (v : ℕ) → v < n → name_of p low v < n
    name_below v h = omega (arith, w.below v h)

    -- the name of a tree names it
    pub name_leads : (v : ℕ) → v < n → Leads n (names n p low) (name_of p low v)
    name_leads v h = record { below = name_below v h; own = names_label _ (name_below v h) ∙ ap (at low) (w.same v h) }

-- trees that mirror the labels of F are named by them
pub names_are : (B : Board) (F : Set) → Inside B → {p low : List ℕ} → Mirrors B.vertices p (labels B F) → Lows B.vertices p low
    → labels B F ≡ names B.vertices p low
unfolding names
names_are B F r {p} {low} mirrors w = values_are B.vertices (name_of p low) (labels B F) (part_length B F) each
  where
    each : (v : ℕ) → v < B.vertices → label (labels B F) v ≡ name_of p low v
    each v h =
        let a = label (labels B F) v in
        let below = name_below B.vertices p low w v h in
        let root : root_of p a ≡ root_of p v = label_root mirrors a v (part_below B F v h) h (part_own B F r v h) in
        let same = root_label mirrors (name_of p low v) v below h (w.same v h) in
        le_antisymm
        ((part_smallest B F r v h).least (name_of p low v) (part_connected B F r v (name_of p low v) h below (sym same)))
        (rw (← ap (at low) root) (w.below a (part_below B F v h)))

-- The labels, written vertex after vertex

-- Every vertex keeps its root

module _ (n : ℕ) (p p' low : List ℕ) (same : (u : ℕ) → u < n → root_of p' u ≡ root_of p u) where
  pub names_kept : names n p' low ≡ names n p low
  unfolding names
  names_kept = values_cong n (name_of p' low) (name_of p low) (λ v h. ap (at low) (same v h))

  pub lows_kept : Lows n p low → Lows n p' low
  lows_kept w =
      record {
        long = w.long;
        below = λ v h. rw (same v h) (w.below v h);
        same = λ v h. rw (same v h) (same _ (name_below n p low w v h) ∙ w.same v h);
      }
