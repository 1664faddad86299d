-- A tree hung under another: the names of both become the smaller one, and by the root that is left stands that name. Assumes nothing.
use Prim.Native.Nat.{ℕ, ◌≤◌, ◌<◌}
use mathlib.Core.Path.{◌≡◌, sym, ap, ◌∙◌}
use mathlib.Core.Logic.{◌≢◌}
use mathlib.Core.Bool.{true, false}
use mathlib.Core.List.{List}
use native.Mathlib.Decide.{ℕ_discrete}
use native.Mathlib.Omega.{arith}
use borrow.Author.Tests.{ltb-true, ltb-false}
use lib.ListN.{length, set, length-set}
use lib.Seq.{get_or-set_same, get_or-set_other}
use lib.Dec.{ltb}
use Rattle.union_find.specs.Trees.{at, root_of, Trees, TwoRoots, moved, hung}
use Rattle.union_find.proofs.Roots.{root_self}
use Rattle.union_find.proofs.Hanging.{hung_root}
use Rattle.union_find.proofs.Moved.{moved_here, moved_other}
use Rattle.decoder.specs.Figures.{Lows, name_of, names, Leads}
use Rattle.decoder.proofs.NameLaws.{name_below, name_leads}

-- the names j become k, which is smaller
pub record Renames (n : ℕ) (p low p' low' : List ℕ) (j k : ℕ) : Type 0 where
  pub smaller : k < j
  pub moves : (v : ℕ) → v < n → name_of p' low' v ≡ moved j k (name_of p low v)
  pub lead_j : Leads n (names n p low) j
  pub lead_k : Leads n (names n p low) k

module _ (n : ℕ) (p s low : List ℕ) (x y : ℕ) (t : Trees n p s) (two : TwoRoots n p x y) (w : Lows n p low) where
  root_x : root_of p x ≡ x
  root_x = root_self p x two.x_root

  root_y : root_of p y ≡ y
  root_y = root_self p y two.y_root

  name_x : name_of p low x ≡ at low x
  name_x = ap (at low) root_x

  name_y : name_of p low y ≡ at low y
  name_y = ap (at low) root_y

  pub lead_x : Leads n (names n p low) (at low x)
  lead_x = rw (← name_x) (name_leads n p low w x two.x_inside)

  pub lead_y : Leads n (names n p low) (at low y)
  lead_y = rw (← name_y) (name_leads n p low w y two.y_inside)

  -- a name lies in its own tree
  pub of_x : root_of p (at low x) ≡ x
  of_x = ap (root_of p) (sym name_x) ∙ w.same x two.x_inside ∙ root_x

  pub of_y : root_of p (at low y) ≡ y
  of_y = ap (root_of p) (sym name_y) ∙ w.same y two.y_inside ∙ root_y

  pub names_apart : at low x ≢ at low y
  names_apart q = two.apart (sym of_x ∙ ap (root_of p) q ∙ of_y)

  -- another tree has another name
  other_name : (v z : ℕ) → v < n → root_of p v ≢ z → (a : ℕ) → root_of p a ≡ z → name_of p low v ≢ a
  other_name v z h differ a is q = differ (sym (w.same v h) ∙ ap (root_of p) q ∙ is)

  pub root_after : (v : ℕ) → v < n → root_of (hung p x y) v ≡ moved x y (root_of p v)
  root_after = hung_root t two

  -- The tree that is hung has the smaller name

  module _ (less : at low x < at low y) where
    abbrev low' : List ℕ
    low' = set low y (at low x)

    at_y : at low' y ≡ at low x
    at_y = get_or-set_same low y (at low x) 0 (omega (arith, w.long, two.y_inside))

    child_moves : (v : ℕ) → v < n → name_of (hung p x y) low' v ≡ moved (at low y) (at low x) (name_of p low v)
    child_moves v h = ap (at low') (root_after v h) ∙ go
      where
        go : at low' (moved x y (root_of p v)) ≡ moved (at low y) (at low x) (at low (root_of p v))
        go = elim (ℕ_discrete (root_of p v) x) [
          | yes q ↦ rw (q, moved_here x y, at_y) (sym (moved_other (at low y) (at low x) (at low x) names_apart))
          | no q ↦ rw (moved_other x y (root_of p v) q) (elim (ℕ_discrete (root_of p v) y) [
            | yes e ↦ rw (e, at_y) (sym (moved_here (at low y) (at low x)))
            | no e ↦
                get_or-set_other low y (root_of p v) (at low x) 0 e
                ∙ sym (moved_other (at low y) (at low x) (at low (root_of p v)) (other_name v y h e (at low y) of_y))
          ])
        ]

    child_renames : Renames n p low (hung p x y) low' (at low y) (at low x)
    child_renames = record { smaller = less; moves = child_moves; lead_j = lead_y; lead_k = lead_x }

  -- The tree under which it is hung has

  module _ (less : at low y < at low x) where
    root_moves : (v : ℕ) → v < n → name_of (hung p x y) low v ≡ moved (at low x) (at low y) (name_of p low v)
    root_moves v h = ap (at low) (root_after v h) ∙ go
      where
        go : at low (moved x y (root_of p v)) ≡ moved (at low x) (at low y) (at low (root_of p v))
        go = elim (ℕ_discrete (root_of p v) x) [
          | yes q ↦ rw (q, moved_here x y) (sym (moved_here (at low x) (at low y)))
          | no q ↦
              rw (moved_other x y (root_of p v) q)
              (sym (moved_other (at low x) (at low y) (at low (root_of p v)) (other_name v x h q (at low x) of_x)))
        ]

    root_renames : Renames n p low (hung p x y) low (at low x) (at low y)
    root_renames = record { smaller = less; moves = root_moves; lead_j = lead_x; lead_k = lead_y }

  -- both name one tree then
  one_tree : root_of (hung p x y) (at low x) ≡ root_of (hung p x y) (at low y)
  one_tree =
      root_after (at low x) lead_x.below ∙ ap (moved x y) of_x ∙ moved_here x y
      ∙ sym (root_after (at low y) lead_y.below ∙ ap (moved x y) of_y ∙ moved_other x y y (λ q. two.apart (sym q)))

  -- so the names are again the smallest vertices of the trees
  renamed_lows : (low' : List ℕ) (j k : ℕ) → n ≤ length low' → Renames n p low (hung p x y) low' j k
      → root_of (hung p x y) j ≡ root_of (hung p x y) k → Lows n (hung p x y) low'
  renamed_lows low' j k long r one = record { long = long; below = λ v h. rw (r.moves v h) (below v h); same = λ v h. rw (r.moves v h) (same v h) }
    where
      below : (v : ℕ) → v < n → moved j k (name_of p low v) ≤ v
      below v h = elim (ℕ_discrete (name_of p low v) j) [
        | yes q ↦ rw (q, moved_here j k) (omega (arith, r.smaller, w.below v h))
        | no q ↦ rw (moved_other j k (name_of p low v) q) (w.below v h)
      ]

      kept : (v : ℕ) → v < n → root_of (hung p x y) (name_of p low v) ≡ root_of (hung p x y) v
      kept v h = root_after (name_of p low v) (name_below n p low w v h) ∙ ap (moved x y) (w.same v h) ∙ sym (root_after v h)

      same : (v : ℕ) → v < n → root_of (hung p x y) (moved j k (name_of p low v)) ≡ root_of (hung p x y) v
      same v h = elim (ℕ_discrete (name_of p low v) j) [
        | yes q ↦ rw (q, moved_here j k) (sym one ∙ ap (root_of (hung p x y)) (sym q) ∙ kept v h)
        | no q ↦ rw (moved_other j k (name_of p low v) q) (kept v h)
      ]

  -- whichever it is
  pub record Merged (low' : List ℕ) (j k : ℕ) : Type 0 where
    pub lows : Lows n (hung p x y) low'
    pub renames : Renames n p low (hung p x y) low' j k

  pub merged_child : ltb (at low x) (at low y) ≡ true → Merged (set low y (at low x)) (at low y) (at low x)
  merged_child q =
      let r = child_renames (ltb-true (at low x) (at low y) q) in
      record { lows = renamed_lows (set low y (at low x)) _ _ (simp length-set w.long) r (sym one_tree); renames = r }

  pub merged_root : ltb (at low x) (at low y) ≡ false → Merged low (at low x) (at low y)
  merged_root q =
      let h : at low y < at low x = omega (arith, ltb-false (at low x) (at low y) q, names_apart) in
      let r = root_renames h in
      record { lows = renamed_lows low _ _ w.long r one_tree; renames = r }
