-- The vertices at or below a vertex: who hangs where, and that hanging a root elsewhere changes it for the new root alone. Assumes nothing.
use Prim.Native.Nat.{ℕ, zero, suc, ◌-◌, ◌≤◌, ◌<◌}
use mathlib.Core.Path.{◌≡◌, refl, sym, ap, ◌∙◌}
use mathlib.Core.Logic.{◌≢◌}
use mathlib.Core.Bool.{true, false, not, ◌||◌, or_self}
use mathlib.Core.List.{List}
use native.Mathlib.Nat.{le_of_eq}
use native.Mathlib.Decide.{ℕ_discrete}
use native.Mathlib.Omega.{arith}
use borrow.Author.Tests.{eq-eqb, ne_eqb, eqb-true}
use lib.ListN.{length}
use lib.Dec.{eqb}
use Rattle.std.proofs.lemmas.Bool.{false_from_ne_true}
use Rattle.model.specs.Sums.{◌⊕◌}
use Rattle.model.proofs.Xor.{xor_false}
use Rattle.union_find.specs.Trees.{at, root_of, Climbs, Trees, TwoRoots, hung, grown, under_up_to, under}
use Rattle.union_find.proofs.Roots.{climb, root_self, root_parent}
use Rattle.union_find.proofs.Hanging.{hung_parent, other_parent, hung_climbs}

-- above a root is only the root itself
root_under : (p : List ℕ) (z u : ℕ) → at p u ≡ u → (k : ℕ) → under_up_to p k z u ≡ eqb u z
unfolding under_up_to
root_under p z u q zero = refl
root_under p z u q (suc k) = ap (λ b. eqb u z || b) (ap (under_up_to p k z) q ∙ root_under p z u q k) ∙ or_self (eqb u z)

pub under_root : (p : List ℕ) (z u : ℕ) → at p u ≡ u → under p z u ≡ eqb u z
unfolding under
under_root p z u q = root_under p z u q (length p)

-- the way up from u begins at u
pub under_self : (p : List ℕ) (u : ℕ) → under p u u ≡ true
unfolding under under_up_to
under_self p u = go (length p)
  where
    go : (k : ℕ) → under_up_to p k u u ≡ true
    go zero = eq-eqb u u refl
    go (suc k) = rw (eq-eqb u u refl)

module _ {n : ℕ} {p s : List ℕ} (t : Climbs n p s) where
  -- sizes rise on the way up
  under_larger : (z u : ℕ) → u < n → (k : ℕ) → under_up_to p k z u ≡ true → at s u ≤ at s z
  unfolding under_up_to
  under_larger z =
      climb t (λ u. (k : ℕ) → under_up_to p k z u ≡ true → at s u ≤ at s z)
      (λ u h q k w. le_of_eq (ap (at s) (eqb-true u z (sym (root_under p z u q k) ∙ w))))
      (λ u h q up k w. go u h q up k w)
    where
      go : (u : ℕ) → u < n → at p u ≢ u → ((k : ℕ) → under_up_to p k z (at p u) ≡ true → at s (at p u) ≤ at s z) → (k : ℕ)
          → under_up_to p k z u ≡ true → at s u ≤ at s z
      go u h q up zero w = le_of_eq (ap (at s) (eqb-true u z w))
      go u h q up (suc k) w =
          elim (ℕ_discrete u z) [
            | yes e ↦ le_of_eq (ap (at s) e)
            | no e ↦ omega (arith, t.rising u h q, up k (sym (ap (λ b. b || under_up_to p k z (at p u)) (ne_eqb u z e)) ∙ w))
          ]

  under_enough : (z u : ℕ) → u < n → (k : ℕ) → n - at s u ≤ k → under_up_to p k z u ≡ under_up_to p (suc k) z u
  unfolding under_up_to
  under_enough z =
      climb t (λ u. (k : ℕ) → n - at s u ≤ k → under_up_to p k z u ≡ under_up_to p (suc k) z u)
      (λ u h q k few. root_under p z u q k ∙ sym (root_under p z u q (suc k)))
      (λ u h q up k few. go u h q up k few)
    where
      go : (u : ℕ) → u < n → at p u ≢ u → ((k : ℕ) → n - at s (at p u) ≤ k → under_up_to p k z (at p u) ≡ under_up_to p (suc k) z (at p u))
          → (k : ℕ) → n - at s u ≤ k → under_up_to p k z u ≡ under_up_to p (suc k) z u
      go u h q up zero few = absurd (omega (arith, t.rising u h q, t.bounded (at p u) (t.inside u h)))
      go u h q up (suc k) few =
          ap (λ b. eqb u z || b) (up k (omega (arith, t.rising u h q, t.bounded (at p u) (t.inside u h))))

  -- no way up comes back to where it began
  pub under_before : (u : ℕ) → u < n → at p u ≢ u → under p u (at p u) ≡ false
  unfolding under
  under_before u h q =
      false_from_ne_true _ (λ on. omega (arith, t.rising u h q, under_larger u (at p u) (t.inside u h) (length p) on))

  -- a vertex is at z, or its parent is at z or below it, and never both
  pub under_parent : (z u : ℕ) → u < n → at p u ≢ u → under p z u ≡ eqb u z ⊕ under p z (at p u)
  unfolding under under_up_to
  under_parent z u h q =
      under_enough z u h (length p) (omega (arith, t.parents))
      ∙ elim (ℕ_discrete u z) [
        | yes e ↦ rw (eq-eqb u z e) (sym (ap not (ap (λ x. under p x (at p u)) (sym e) ∙ under_before u h q)))
        | no e ↦ rw (ne_eqb u z e)
      ]

  -- every vertex on the way up from u has u's root
  pub under_same_root : (z u : ℕ) → u < n → under p z u ≡ true → root_of p z ≡ root_of p u
  under_same_root z =
      climb t (λ u. under p z u ≡ true → root_of p z ≡ root_of p u)
      (λ u h q on. ap (root_of p) (sym (eqb-true u z (sym (under_root p z u q) ∙ on))))
      (λ u h q up on. elim (ℕ_discrete u z) [
        | yes e ↦ ap (root_of p) (sym e)
        | no e ↦ up (sym (under_parent z u h q ∙ rw (ne_eqb u z e)) ∙ on) ∙ root_parent t u h
      ])

  -- the vertices below a root are those of its tree
  pub under_top : (z : ℕ) → at p z ≡ z → (u : ℕ) → u < n → under p z u ≡ eqb (root_of p u) z
  under_top z top =
      climb t (λ u. under p z u ≡ eqb (root_of p u) z)
      (λ u h q. under_root p z u q ∙ ap (λ r. eqb r z) (sym (root_self p u q)))
      (λ u h q up.
      under_parent z u h q
      ∙ rw (ne_eqb u z (λ e. q (ap (at p) e ∙ top ∙ sym e)))
      (up ∙ ap (λ r. eqb r z) (root_parent t u h)))

-- only below the new root something is new
pub under_hung : {n : ℕ} {p s : List ℕ} (t : Trees n p s) {x y : ℕ} (w : TwoRoots n p x y) (z : ℕ) → z ≢ y → (u : ℕ) → u < n
    → under (hung p x y) z u ≡ under p z u
under_hung {n} {p} {s} t {x} {y} w z other =
    climb t.climbs (λ u. under (hung p x y) z u ≡ under p z u)
    (λ u h q. elim (ℕ_discrete u x) [
      | yes e ↦ rw e hung_there
      | no e ↦ under_root (hung p x y) z u (other_parent t w u e ∙ q) ∙ sym (under_root p z u q)
    ])
    (λ u h q up.
    let o = other_parent t w u (λ e. q (ap (at p) e ∙ w.x_root ∙ sym e)) in
    under_parent t' z u h (λ e. q (sym o ∙ e))
    ∙ ap (λ b. eqb u z ⊕ b) (ap (under (hung p x y) z) o ∙ up)
    ∙ sym (under_parent t.climbs z u h q))
  where
    t' : Climbs n (hung p x y) (grown s x y)
    t' = hung_climbs t w

    y_top : at (hung p x y) y ≡ y
    y_top = other_parent t w y (λ e. w.apart (sym e)) ∙ w.y_root

    hung_there : under (hung p x y) z x ≡ under p z x
    hung_there =
        under_parent t' z x w.x_inside (λ e. w.apart (sym e ∙ hung_parent t w))
        ∙ rw (hung_parent t w, under_root (hung p x y) z y y_top, ne_eqb y z (λ e. other (sym e)))
        (xor_false (eqb x z) ∙ sym (under_root p z x w.x_root))
