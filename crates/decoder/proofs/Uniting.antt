-- Two trees joined, with what is kept of them: the names are again the smallest vertices, and figures that were true of some supports are
-- true of them still. Assumes nothing.
use Prim.Native.Nat.{ℕ, ◌+◌, ◌≤◌, ◌<◌}
use mathlib.Core.Path.{◌≡◌, refl, sym, ap, ◌∙◌, subst}
use mathlib.Core.Bool.{Bool, true, false, cond}
use mathlib.Core.List.{List}
use native.Mathlib.Omega.{arith}
use lib.ListN.{length, set, length-set}
use lib.Dec.{ltb}
use borrow.Author.Tests.{ltb-true}
use Rattle.model.specs.Sums.{Set}
use Rattle.model.specs.Board.{Board, vertex_limit}
use Rattle.model.proofs.Contradiction.{zero_one}
use Rattle.union_find.specs.declared.Joined.{Joined}
use Rattle.union_find.specs.declared.Joined.TheVariants.{Hung, Already}
use Rattle.union_find.specs.Trees.{at, Trees, TwoRoots, moved, hung}
use Rattle.union_find.specs.Joining.{Joins}
use Rattle.union_find.proofs.Unions.{hung_is, already_is}
use Rattle.decoder.specs.Figures.{name_mark, names_by, carried, Lows, name_of, names, Figured}
use Rattle.decoder.specs.Merging.{figures_of, figures_after, Mergeable}
use Rattle.decoder.proofs.NameLaws.{names_label}
use Rattle.decoder.proofs.HungNames.{Renames, merged_child, merged_root, lead_x, lead_y}
use Rattle.decoder.proofs.MergedFigures.{figured_carried, figured_told}
use Rattle.decoder.proofs.FigureLaws.{carried_long}
use Rattle.decoder.proofs.NamesTold.{told_long, told_at, names_agree, lows_agree}
use Rattle.decoder.proofs.HungTold.{child_told, child_unled, root_told}

-- one name becomes another, and its figure is carried to it
renamed_true : (B : Board) (S : Set) (s : List ℕ) (p low p' low' figure : List ℕ) (j k : ℕ) → B.vertices ≤ vertex_limit → length figure ≡ vertex_limit
    → Renames B.vertices p low p' low' j k → Figured B S s (names B.vertices p low) figure → Figured B S s (names B.vertices p' low') (carried figure j k)
renamed_true B S s p low p' low' figure j k few long r w =
    figured_carried B (names B.vertices p low) (names B.vertices p' low') j k
    (λ v h. names_label B.vertices p' low' v h ∙ r.moves v h ∙ ap (moved j k) (sym (names_label B.vertices p low v h)))
    r.lead_j r.lead_k (λ q. omega (arith, r.smaller)) figure long few S s w

module _ (n : ℕ) (p s figure : List ℕ) (t : Trees n p s) (w : Lows n p (names_by figure)) (long : length figure ≡ vertex_limit) where
  abbrev low : List ℕ
  low = names_by figure

  few : n ≤ vertex_limit
  few = t.climbs.limit

  -- what is left after a join
  pub record United (p' figure' : List ℕ) : Type 0 where
    pub lows : Lows n p' (names_by figure')
    pub figures_long : length figure' ≡ vertex_limit
    pub true_still :
        (B : Board) (S : Set) (r : List ℕ) → B.vertices ≡ n → Figured B S r (names n p low) figure → Figured B S r (names n p' (names_by figure')) figure'

  -- the names are told as they are to be, and the figures true of them
  united_by : (p' low' figure' : List ℕ) → Lows n p' low' → length figure' ≡ vertex_limit
      → ((v : ℕ) → v < n → name_of p' (names_by figure') v ≡ name_of p' low' v)
      → ((B : Board) (S : Set) (r : List ℕ) → B.vertices ≡ n → Figured B S r (names n p low) figure → Figured B S r (names n p' low') figure')
      → United p' figure'
  united_by p' low' figure' lows long' agree true-then =
      record {
        lows = lows_agree n p' low' (names_by figure') agree (omega (arith, few, told_long figure')) lows;
        figures_long = long';
        true_still = λ B S r q h. rw (names_agree n p' low' (names_by figure') agree) (true-then B S r q h);
      }

  carried_true : (p' low' : List ℕ) (j k : ℕ) → Renames n p low p' low' j k → (B : Board) (S : Set) (r : List ℕ) → B.vertices ≡ n
      → Figured B S r (names n p low) figure → Figured B S r (names n p' low') (carried figure j k)
  carried_true p' low' j k r B S z q h =
      subst (λ m. Figured B S z (names m p' low') (carried figure j k)) q
      (renamed_true B S z p low p' low' figure j k (omega (arith, few)) long (subst (λ m. Renames m p low p' low' j k) (sym q) r)
      (subst (λ m. Figured B S z (names m p low) figure) (sym q) h))

  united_hung : (x y : ℕ) → TwoRoots n p x y → United (hung p x y) (figures_of x y figure)
  united_hung x y two =
      rw (← told_at figure x (omega (arith, two.x_inside, few)), ← told_at figure y (omega (arith, two.y_inside, few)))
      (go (ltb (at low x) (at low y)) refl)
    where
      go : (b : Bool) → ltb (at low x) (at low y) ≡ b
          → United (hung p x y)
          (cond b (set (carried figure (at low y) (at low x)) y (name_mark + at low x)) (carried figure (at low x) (at low y)))
      go true q =
          let m = merged_child n p s low x y t two w q in
          united_by _ _ _ m.lows (simp length-set long) (child_told n p s figure x y t two w long)
          (λ B S r e h. figured_told B S r (names n (hung p x y) (set low y (at low x))) (carried figure (at low y) (at low x)) y (name_mark + at low x)
          (omega (arith, carried_long figure (at low y) (at low x), two.y_inside, few))
          (λ lead. child_unled n p s figure x y t two w long (ltb-true (at low x) (at low y) q) lead.own) (omega arith)
          (carried_true _ _ _ _ m.renames B S r e h))
      go false q =
          let m = merged_root n p s low x y t two w q in
          united_by _ _ _ m.lows (simp length-set long) (root_told n p s figure x y t two w long) (carried_true _ _ _ _ m.renames)

  module _ (a b : ℕ) (ha : a < n) (hb : b < n) {p' s' : List ℕ} where
    -- the names of two roots are within the limit
    pub mergeable : (j : Joined) → Joins p s a b j p' s' → Mergeable j figure
    mergeable (Hung x y) k =
        let two = (hung_is t ha hb k).roots in
        let x-small : x.0 < vertex_limit = omega (arith, two.x_inside, few) in
        let y-small : y.0 < vertex_limit = omega (arith, two.y_inside, few) in
        record {
          roots = λ child root q.
              let is_x : x ≡ child = cc in
              let is_y : y ≡ root = cc in
              rw (← is_x, ← is_y)
              record {
                child = x-small;
                root = y-small;
                child_name = omega (arith, told_at figure x.0 x-small, (lead_x n p s low x.0 y.0 t two w).below, few);
                root_name = omega (arith, told_at figure y.0 y-small, (lead_y n p s low x.0 y.0 t two w).below, few);
              };
        }
    mergeable (Already z) k = record { roots = λ child root q. zero_one (cc) }

    pub united : (j : Joined) → Joins p s a b j p' s' → {figure' : List ℕ} → figure' ≡ figures_after j figure → United p' figure'
    united (Hung x y) k m =
        let h = hung_is t ha hb k in
        rw (h.parents, m) (united_hung x.0 y.0 h.roots)
    united (Already z) k m =
        rw ((already_is t ha hb k).parents, m) (record { lows = w; figures_long = long; true_still = λ B S r q h. h })
