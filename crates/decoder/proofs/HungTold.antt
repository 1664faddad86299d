-- A tree hung under another, and the figures carried: the names that are told then are those of the trees. Assumes nothing.
use Prim.Native.Nat.{ℕ, ◌+◌, ◌≤◌, ◌<◌}
use mathlib.Core.Path.{◌≡◌, sym, ap, ◌∙◌, subst}
use mathlib.Core.Logic.{◌≢◌}
use mathlib.Core.List.{List}
use native.Mathlib.Decide.{ℕ_discrete}
use native.Mathlib.Omega.{arith}
use lib.ListN.{length, set}
use lib.Seq.{get_or-set_same, get_or-set_other}
use Rattle.model.specs.Board.{vertex_limit}
use Rattle.union_find.specs.Trees.{at, root_of, Trees, TwoRoots, moved, hung}
use Rattle.union_find.proofs.Roots.{root_self, root_top, root_inside}
use Rattle.union_find.proofs.Moved.{moved_here, moved_other}
use Rattle.decoder.specs.Figures.{name_mark, names_by, carried, Lows, name_of, names}
use Rattle.model.specs.Components.{label}
use Rattle.decoder.proofs.NameLaws.{names_label}
use Rattle.decoder.proofs.FigureLaws.{carried_to, carried_beside, carried_long}
use Rattle.decoder.proofs.NamesTold.{told_long, told_at, tells_itself, tells_name, tells_same, sum_small}
use Rattle.decoder.proofs.HungNames.{root_after, of_x, of_y, lead_x, lead_y, names_apart}

module _ (n : ℕ) (p s figure : List ℕ) (x y : ℕ) (t : Trees n p s) (two : TwoRoots n p x y) (w : Lows n p (names_by figure)) (long : length figure ≡ vertex_limit) where
  abbrev low : List ℕ
  low = names_by figure

  abbrev j : ℕ
  j = at low x

  abbrev k : ℕ
  k = at low y

  few : n ≤ vertex_limit
  few = t.climbs.limit

  own_x : root_of p j ≡ x
  own_x = of_x n p s low x y t two w

  own_y : root_of p k ≡ y
  own_y = of_y n p s low x y t two w

  apart : j ≢ k
  apart = names_apart n p s low x y t two w

  j_inside : j < n
  j_inside = (lead_x n p s low x y t two w).below

  k_inside : k < n
  k_inside = (lead_y n p s low x y t two w).below

  root_y : root_of p y ≡ y
  root_y = root_self p y two.y_root

  -- wherever the two trees' vertices have their root, and wherever others have theirs
  by_root : (low' low'' : List ℕ) → at low' y ≡ at low'' y
      → ((z : ℕ) → z < n → z ≢ x → z ≢ y → z ≢ j → z ≢ k → at low' z ≡ at low'' z)
      → (v : ℕ) → v < n → name_of (hung p x y) low' v ≡ name_of (hung p x y) low'' v
  by_root low' low'' here beside v h = rw (root_after n p s low x y t two w v h) (elim (ℕ_discrete (root_of p v) x) [
    | yes q ↦ rw (q, moved_here x y) here
    | no q ↦ rw (moved_other x y (root_of p v) q) (elim (ℕ_discrete (root_of p v) y) [
      | yes e ↦ rw e here
      | no e ↦
          let top = root_self p (root_of p v) (root_top t.climbs v h) in
          beside (root_of p v) (root_inside t.climbs v h) q e (λ i. q (sym top ∙ ap (root_of p) i ∙ own_x)) (λ i. e (sym top ∙ ap (root_of p) i ∙ own_y))
    ])
  ])

  -- what is told where nothing has changed
  unchanged : (figure' : List ℕ) (z : ℕ) → z < n → at figure' z ≡ at figure z → at (names_by figure') z ≡ at low z
  unchanged figure' z h q =
      told_at figure' z (omega (arith, few)) ∙ tells_same figure figure' z q ∙ sym (told_at figure z (omega (arith, few)))

  -- The tree that is hung has the smaller name: it is told by the root that is left

  abbrev child_figure : List ℕ
  child_figure = set (carried figure k j) y (name_mark + j)

  pub child_told : (v : ℕ) → v < n → name_of (hung p x y) (names_by child_figure) v ≡ name_of (hung p x y) (set low y j) v
  child_told =
      by_root (names_by child_figure) (set low y j)
      (told_at child_figure y (omega (arith, few, two.y_inside))
      ∙ tells_name child_figure y j (get_or-set_same (carried figure k j) y (name_mark + j) 0 (omega (arith, carried_long figure k j, few, two.y_inside)))
      ∙ sym (get_or-set_same low y j 0 (omega (arith, told_long figure, few, two.y_inside))))
      (λ z h out-x out-y out-j out-k.
      unchanged child_figure z h (get_or-set_other (carried figure k j) y z (name_mark + j) 0 out-y ∙ carried_beside figure k j z out-k out-j)
      ∙ sym (get_or-set_other low y z j 0 out-y))

  -- which is not the root itself
  pub child_unled : j < k → label (names n (hung p x y) (set low y j)) y ≡ y → ⊥
  child_unled less own =
      let h = two.y_inside in
      let top = root_after n p s low x y t two w y h ∙ ap (moved x y) root_y ∙ moved_other x y y (λ q. two.apart (sym q)) in
      let is : j ≡ y =
      sym (names_label n (hung p x y) (set low y j) y h ∙ ap (at (set low y j)) top ∙ get_or-set_same low y j 0 (omega (arith, told_long figure, few, h))) ∙ own in
      omega (arith, is, less, w.below y h, ap (at low) root_y)

  -- The tree under which it is hung has

  pub root_told : (v : ℕ) → v < n → name_of (hung p x y) (names_by (carried figure j k)) v ≡ name_of (hung p x y) low v
  root_told =
      by_root (names_by (carried figure j k)) low
      (elim (ℕ_discrete y k) [
        | yes q ↦
            told_at (carried figure j k) y (omega (arith, few, two.y_inside))
            ∙ tells_itself (carried figure j k) y
            (subst (λ z. at (carried figure j k) z < name_mark) (sym q)
            (rw (carried_to figure j k apart (omega (arith, few, k_inside))) (sum_small (at figure j) (at figure k)))) ∙ q
        | no q ↦ unchanged (carried figure j k) y two.y_inside (carried_beside figure j k y (λ i. two.apart (sym own_x ∙ ap (root_of p) (sym i) ∙ root_y)) q)
      ])
      (λ z h out-x out-y out-j out-k. unchanged (carried figure j k) z h (carried_beside figure j k z out-j out-k))
