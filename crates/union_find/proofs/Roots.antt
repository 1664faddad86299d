-- The way up to a root ends there, with fewer steps than there are vertices. Assumes nothing.
use Prim.Native.Nat.{ℕ, zero, suc, ◌-◌, ◌≤◌, ◌<◌}
use mathlib.Core.Path.{◌≡◌, refl, ap, ◌∙◌}
use mathlib.Core.Logic.{◌≢◌}
use mathlib.Core.Bool.{cond}
use mathlib.Core.List.{List}
use native.Mathlib.Nat.{le_refl}
use native.Mathlib.Decide.{ℕ_discrete}
use native.Mathlib.Omega.{arith}
use borrow.Author.Tests.{eq-eqb, ne_eqb}
use lib.ListN.{length}
use lib.Dec.{eqb}
use Rattle.union_find.specs.Trees.{at, above, root_of, Climbs}

above_root : (p : List ℕ) (k v : ℕ) → at p v ≡ v → above p k v ≡ v
unfolding above
above_root p zero v q = refl
above_root p (suc k) v q = ap (above p k) q ∙ above_root p k v q

above_parent : (p : List ℕ) (k v : ℕ) → above p k (at p v) ≡ at p (above p k v)
unfolding above
above_parent p zero v = refl
above_parent p (suc k) v = above_parent p k (at p v)

-- a root is its own root
pub root_self : (p : List ℕ) (v : ℕ) → at p v ≡ v → root_of p v ≡ v
unfolding root_of
root_self p v q = above_root p (length p) v q

-- how many steps up, at most k, lead from v to a root
steps_up_to : List ℕ → ℕ → ℕ → ℕ
steps_up_to p zero v = 0
steps_up_to p (suc k) v = cond (eqb (at p v) v) 0 (suc (steps_up_to p k (at p v)))

pub steps : List ℕ → ℕ → ℕ
steps p v = steps_up_to p (length p) v

module _ {n : ℕ} {p s : List ℕ} (t : Climbs n p s) where
  -- what holds of every root, and of a vertex where it holds of its parent, holds of every vertex
  pub climb : (P : ℕ → Type 0) → ((v : ℕ) → v < n → at p v ≡ v → P v) → ((v : ℕ) → v < n → at p v ≢ v → P (at p v) → P v) → (v : ℕ) → v < n
      → P v
  climb P root step v h = go (n - at s v) v h (le_refl _)
    where
      go : (k v : ℕ) → v < n → n - at s v ≤ k → P v
      go zero v h few =
          elim (ℕ_discrete (at p v) v) [
            | yes q ↦ root v h q
            | no q ↦ absurd (omega (arith, t.rising v h q, t.bounded (at p v) (t.inside v h)))
          ]
      go (suc k) v h few =
          elim (ℕ_discrete (at p v) v) [
            | yes q ↦ root v h q
            | no q ↦ step v h q (go k (at p v) (t.inside v h) (omega (arith, t.rising v h q, t.bounded (at p v) (t.inside v h))))
          ]

  -- the way from v rises in size, so k steps reach the root if n - size v do
  above_rests : (v : ℕ) → v < n → (k : ℕ) → n - at s v ≤ k → at p (above p k v) ≡ above p k v
  unfolding above
  above_rests =
      climb (λ v. (k : ℕ) → n - at s v ≤ k → at p (above p k v) ≡ above p k v)
      (λ v h q k few. rw (above_root p k v q) q)
      (λ v h q up k few. go v h q up k few)
    where
      go : (v : ℕ) → v < n → at p v ≢ v → ((k : ℕ) → n - at s (at p v) ≤ k → at p (above p k (at p v)) ≡ above p k (at p v)) → (k : ℕ)
          → n - at s v ≤ k → at p (above p k v) ≡ above p k v
      go v h q up zero few = absurd (omega (arith, t.rising v h q, t.bounded (at p v) (t.inside v h)))
      go v h q up (suc k) few = up k (omega (arith, t.rising v h q, t.bounded (at p v) (t.inside v h)))

  -- a root is its own parent
  pub root_top : (v : ℕ) → v < n → at p (root_of p v) ≡ root_of p v
  unfolding root_of
  root_top v h = above_rests v h (length p) (omega (arith, t.parents))

  -- a vertex has its parent's root
  pub root_parent : (v : ℕ) → v < n → root_of p (at p v) ≡ root_of p v
  unfolding root_of
  root_parent v h = above_parent p (length p) v ∙ root_top v h

  pub root_inside : (v : ℕ) → v < n → root_of p v < n
  root_inside =
      climb (λ v. root_of p v < n)
      (λ v h q. rw (root_self p v q) h)
      (λ v h q up. rw (← root_parent v h) up)

  steps_enough : (v : ℕ) → v < n → (k : ℕ) → n - at s v ≤ k → steps_up_to p k v ≡ steps_up_to p (suc k) v
  unfolding steps_up_to
  steps_enough =
      climb (λ v. (k : ℕ) → n - at s v ≤ k → steps_up_to p k v ≡ steps_up_to p (suc k) v)
      (λ v h q k few. at_root v q k)
      (λ v h q up k few. go v h q up k few)
    where
      at_root : (v : ℕ) → at p v ≡ v → (k : ℕ) → steps_up_to p k v ≡ steps_up_to p (suc k) v
      at_root v q zero = rw (eq-eqb (at p v) v q)
      at_root v q (suc k) = rw (eq-eqb (at p v) v q)

      go : (v : ℕ) → v < n → at p v ≢ v → ((k : ℕ) → n - at s (at p v) ≤ k → steps_up_to p k (at p v) ≡ steps_up_to p (suc k) (at p v))
          → (k : ℕ) → n - at s v ≤ k → steps_up_to p k v ≡ steps_up_to p (suc k) v
      go v h q up zero few = absurd (omega (arith, t.rising v h q, t.bounded (at p v) (t.inside v h)))
      go v h q up (suc k) few = rw (up k (omega (arith, t.rising v h q, t.bounded (at p v) (t.inside v h))))

  -- the way from a parent is one step shorter
  pub steps_parent : (v : ℕ) → v < n → at p v ≢ v → steps p v ≡ suc (steps p (at p v))
  unfolding steps steps_up_to
  steps_parent v h q = steps_enough v h (length p) (omega (arith, t.parents)) ∙ rw (ne_eqb (at p v) v q)

  -- no vertex has a larger size than its root
  pub root_largest : (v : ℕ) → v < n → at s v ≤ at s (root_of p v)
  root_largest =
      climb (λ v. at s v ≤ at s (root_of p v))
      (λ v h q. rw (root_self p v q) (le_refl _))
      (λ v h q up. rw (← root_parent v h) (omega (arith, t.rising v h q)))
