-- Parities below the vertices of trees, and what flipping a vertex does to them. Internal: no part of what a reader of a product call
-- must believe.
-- Assumes nothing.
use Rattle.std.specs.Prelude.{ℕ, ◌≤◌, ◌≡◌, ◌≢◌, Bool, false, ◌&&◌, List, length, get_or}
use Rattle.model.specs.Sums.{Set, ◌⊕◌, odd_up_to}
use Rattle.union_find.specs.Trees.{at, Climbs, InTrees, under}

-- the parity below vertex z
abbrev pub odd_below : List Bool → ℕ → Bool
odd_below odd z = get_or odd z false

pub record Flippable (parent : List ℕ) (odd : List Bool) (v : ℕ) : Type 0 where
  pub way : InTrees parent v
  pub room : way.count ≤ length odd

-- below every vertex but a root, v counts once more; the entry of a root stays
pub record Flipped (parent : List ℕ) (v : ℕ) (odd odd' : List Bool) : Type 0 where
  pub same_length : length odd' ≡ length odd
  pub each : (z : ℕ) → at parent z ≢ z → odd_below odd' z ≡ odd_below odd z ⊕ under parent z v
  pub roots : (z : ℕ) → at parent z ≡ z → odd_below odd' z ≡ odd_below odd z

-- any of the first n vertices may flip
pub record AllFlippable (n : ℕ) (parent : List ℕ) (odd : List Bool) : Type 0 where
  pub size : List ℕ
  pub climbs : Climbs n parent size
  pub room : n ≤ length odd

-- below every vertex but a root, the first n vertices that are in S count once more; the entries of roots stay
pub record AllFlipped (parent : List ℕ) (n : ℕ) (S : Set) (odd odd' : List Bool) : Type 0 where
  pub same_length : length odd' ≡ length odd
  pub each : (z : ℕ) → at parent z ≢ z → odd_below odd' z ≡ odd_below odd z ⊕ odd_up_to n (λ u. S u && under parent z u)
  pub roots : (z : ℕ) → at parent z ≡ z → odd_below odd' z ≡ odd_below odd z
