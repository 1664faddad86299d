-- A root hung under another root: the two trees are one, all else is as before. Assumes nothing.
use Prim.Native.Nat.{ℕ, ◌+◌, ◌≤◌, ◌<◌}
use mathlib.Core.Path.{◌≡◌, sym, ap, ◌∙◌}
use mathlib.Core.Logic.{◌≢◌}
use mathlib.Core.Bool.{◌||◌}
use mathlib.Core.List.{List}
use native.Mathlib.Nat.{le_refl}
use native.Mathlib.Decide.{ℕ_discrete}
use native.Mathlib.Omega.{arith}
use borrow.Author.Tests.{eq-eqb, eqb-true}
use lib.ListN.{length-set}
use lib.Seq.{get_or-set_same, get_or-set_other}
use lib.Dec.{eqb}
use Rattle.model.specs.Sums.{count_up_to}
use Rattle.model.proofs.SumLaws.{count_cong, count_bound}
use Rattle.union_find.specs.Trees.{at, root_of, Climbs, Trees, TwoRoots, moved, hung, grown}
use Rattle.union_find.proofs.Roots.{climb, root_self, root_parent}
use Rattle.union_find.proofs.Moved.{moved_here, moved_other, moved_target, moved_elsewhere}
use Rattle.union_find.proofs.Counts.{count_some, count_disjoint}

pub two_swapped : {n : ℕ} {p : List ℕ} {x y : ℕ} → TwoRoots n p x y → TwoRoots n p y x
two_swapped w =
    record { x_inside = w.y_inside; y_inside = w.x_inside; x_root = w.y_root; y_root = w.x_root; apart = λ e. w.apart (sym e) }

module _ {n : ℕ} {p s : List ℕ} (t : Trees n p s) {x y : ℕ} (w : TwoRoots n p x y) where
  pub hung_parent : at (hung p x y) x ≡ y
  hung_parent = get_or-set_same p x y 0 (omega (arith, t.climbs.parents))

  pub other_parent : (v : ℕ) → v ≢ x → at (hung p x y) v ≡ at p v
  other_parent v q = get_or-set_other p x v y 0 q

  grown_size : at (grown s x y) y ≡ at s x + at s y
  grown_size = get_or-set_same s y _ 0 (omega (arith, t.climbs.sizes))

  other_size : (v : ℕ) → v ≢ y → at (grown s x y) v ≡ at s v
  other_size v q = get_or-set_other s y v _ 0 q

  size_grows : (v : ℕ) → at s v ≤ at (grown s x y) v
  size_grows v =
      elim (ℕ_discrete v y) [
        | yes q ↦ rw (q, grown_size) (omega arith)
        | no q ↦ rw (other_size v q) (le_refl _)
      ]

  -- a vertex is in its own tree
  root_positive : (r : ℕ) → r < n → at p r ≡ r → 1 ≤ at s r
  root_positive r h q =
      rw (t.counted r h q)
      (count_some n r (λ v. eqb (root_of p v) r) h (eq-eqb _ _ (root_self p r q)))

  -- the two trees have no vertex in common
  both_trees : count_up_to n (λ v. eqb (root_of p v) x || eqb (root_of p v) y) ≡ at s x + at s y
  both_trees =
      count_disjoint n (λ v. eqb (root_of p v) x) (λ v. eqb (root_of p v) y)
      (λ v h a b. w.apart (sym (eqb-true _ _ a) ∙ eqb-true _ _ b))
      ∙ rw (t.counted x w.x_inside w.x_root, t.counted y w.y_inside w.y_root)

  pub both_fit : at s x + at s y ≤ n
  both_fit = rw (← both_trees) (count_bound n (λ v. eqb (root_of p v) x || eqb (root_of p v) y))

  hung_rising : (v : ℕ) → v < n → at (hung p x y) v ≢ v → at (grown s x y) v < at (grown s x y) (at (hung p x y) v)
  hung_rising v h q =
      elim (ℕ_discrete v x) [
        | yes e ↦ rw (e, hung_parent, grown_size, other_size x w.apart) (omega (arith, root_positive y w.y_inside w.y_root))
        | no e ↦
            let o = other_parent v e in
            let r = t.climbs.rising v h (λ z. q (o ∙ z)) in
            let z = other_size v (λ z. q (o ∙ ap (at p) z ∙ w.y_root ∙ sym z)) in
            rw (o, z) (omega (arith, r, size_grows (at p v)))
      ]

  pub hung_climbs : Climbs n (hung p x y) (grown s x y)
  hung_climbs =
      record {
        limit = t.climbs.limit;
        parents = rw (length-set p x y) t.climbs.parents;
        sizes = rw (length-set s y (at s x + at s y)) t.climbs.sizes;
        inside = λ v h. elim (ℕ_discrete v x) [
          | yes q ↦ rw (q, hung_parent) w.y_inside
          | no q ↦ rw (other_parent v q) (t.climbs.inside v h)
        ];
        bounded = λ v h. elim (ℕ_discrete v y) [
          | yes q ↦ rw (q, grown_size) both_fit
          | no q ↦ rw (other_size v q) (t.climbs.bounded v h)
        ];
        rising = hung_rising;
      }

  -- y is now the root of x's tree; every other root is as before
  pub hung_root : (v : ℕ) → v < n → root_of (hung p x y) v ≡ moved x y (root_of p v)
  hung_root =
      climb t.climbs (λ v. root_of (hung p x y) v ≡ moved x y (root_of p v))
      (λ v h q. rw (root_self p v q) (at_root v h q))
      (λ v h q up.
      let o = other_parent v (λ e. q (ap (at p) e ∙ w.x_root ∙ sym e)) in
      sym (root_parent hung_climbs v h) ∙ ap (root_of (hung p x y)) o ∙ up ∙ ap (moved x y) (root_parent t.climbs v h))
    where
      hung_there : root_of (hung p x y) x ≡ y
      hung_there =
          sym (root_parent hung_climbs x w.x_inside)
          ∙ ap (root_of (hung p x y)) hung_parent
          ∙ root_self (hung p x y) y (other_parent y (λ e. w.apart (sym e)) ∙ w.y_root)

      at_root : (v : ℕ) → v < n → at p v ≡ v → root_of (hung p x y) v ≡ moved x y v
      at_root v h q =
          elim (ℕ_discrete v x) [
            | yes e ↦ rw e (hung_there ∙ sym (moved_here x y))
            | no e ↦ root_self (hung p x y) v (other_parent v e ∙ q) ∙ sym (moved_other x y v e)
          ]

  hung_counted : (r : ℕ) → r < n → at (hung p x y) r ≡ r → at (grown s x y) r ≡ count_up_to n (λ v. eqb (root_of (hung p x y) v) r)
  hung_counted r h q =
      elim (ℕ_discrete r y) [
        | yes e ↦ rw (e, grown_size)
            (sym both_trees ∙ count_cong n _ _ (λ v l. sym (moved_target x y (root_of p v)) ∙ ap (λ z. eqb z y) (sym (hung_root v l))))
        | no e ↦
            let a : r ≢ x = λ z. w.apart (sym z ∙ sym q ∙ ap (at (hung p x y)) z ∙ hung_parent) in
            other_size r e ∙ t.counted r h (sym (other_parent r a) ∙ q)
            ∙ count_cong n _ _ (λ v l. sym (moved_elsewhere x y (root_of p v) r a e) ∙ ap (λ z. eqb z r) (sym (hung_root v l)))
      ]

  pub hung_trees : Trees n (hung p x y) (grown s x y)
  hung_trees = record { climbs = hung_climbs; counted = hung_counted }
