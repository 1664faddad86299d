-- The choice of the cluster that grows, by the kept figures. Internal: no part of what a reader of a product call must believe.
-- Assumes nothing.
use Rattle.std.specs.Prelude.{ℕ, zero, suc, ◌+◌, ◌≤◌, ◌<◌, ◌≡◌, cond, ◌&&◌, List, length, ltb, Some, None}
use Rattle.std.specs.Prelude as prelude
use Rattle.std.proofs.Math.Option.{Option, none, some}
use Rattle.model.specs.Sums.{Set}
use Rattle.model.specs.Board.{vertex_limit}
use Rattle.union_find.specs.Trees.{at}
use Rattle.decoder.specs.Figures.{even_mark}
use Rattle.model.specs.declared.numbers.Vertex.{Vertex}

-- the number of the vertex that is chosen, if any is
abbrev pub chosen_of : prelude.Option Vertex → Option ℕ
chosen_of (Some a) = some a.0
chosen_of None = none

-- a, against the best below it: taken only where it is odd and its size strictly smaller
abbrev pub lesser : Set → (ℕ → ℕ) → ℕ → Option ℕ → Option ℕ
lesser odd size a none = cond (odd a) (some a) none
lesser odd size a (some c) = cond (odd a && ltb (size a) (size c)) (some a) (some c)

-- the first of the odd ones below k with the smallest size
unfoldable pub least_up_to : ℕ → Set → (ℕ → ℕ) → Option ℕ
least_up_to zero odd size = none
least_up_to (suc a) odd size = lesser odd size a (least_up_to a odd size)

-- there is a figure for each of n numbers, and by no number from n on stands one of an odd cluster
pub record Choosable (n : ℕ) (figure : List ℕ) : Type 0 where
  pub few : n ≤ vertex_limit
  pub long : length figure ≡ vertex_limit
  pub past : (a : ℕ) → n ≤ a → a < vertex_limit → even_mark ≤ at figure a

-- The figures in blocks

abbrev pub block_length : ℕ
block_length = 64

-- a block of figures begins at `from`
pub record Block (figure : List ℕ) (from : ℕ) : Type 0 where
  pub long : length figure ≡ vertex_limit
  pub whole : from + block_length ≤ vertex_limit

-- x stands by a number between `from` and `to`, `to` not among them
pub record Stands (figure : List ℕ) (from to x : ℕ) : Type 0 where
  pub place : ℕ
  pub not_before : from ≤ place
  pub below : place < to
  pub there : at figure place ≡ x

-- x is the smallest of the figures between `from` and `to`
pub record Smallest (figure : List ℕ) (from to x : ℕ) : Type 0 where
  pub least : (a : ℕ) → from ≤ a → a < to → x ≤ at figure a
  pub stands : Stands figure from to x

-- x stands somewhere from `from` on
pub record Searchable (figure : List ℕ) (from x : ℕ) : Type 0 where
  pub long : length figure ≡ vertex_limit
  pub stands : Stands figure from vertex_limit x

-- r is the first number from `from` on by which x stands
pub record FirstEqual (figure : List ℕ) (from x r : ℕ) : Type 0 where
  pub not_before : from ≤ r
  pub below : r < vertex_limit
  pub there : at figure r ≡ x
  pub first : (a : ℕ) → from ≤ a → a < r → at figure a ≡ x → ⊥
