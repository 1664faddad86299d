-- The rings: from the smallest vertex of a cluster one goes round through vertices of the cluster, among them all that are on its boundary, and
-- comes back. Internal: no part of what a reader of a product call must believe.
-- Assumes nothing.
use Rattle.std.specs.Prelude.{ℕ, zero, suc, ◌+◌, ◌≤◌, ◌<◌, ◌≡◌, true, cond, List, [], ◌∷◌, length, set, eqb}
use Rattle.model.specs.Sums.{bit}
use Rattle.model.specs.Board.{vertex_limit}
use Rattle.union_find.specs.Trees.{at, root_of}
use Rattle.decoder.specs.Exposures.{counted}
use Rattle.decoder.specs.Figures.{name_of}
use Rattle.decoder.specs.TreeLabels.{Nameable}

-- going on from x by the entries of the ring, one passes the vertices l and comes to y
unfoldable pub Passes : List ℕ → ℕ → List ℕ → ℕ → Type 0
Passes ring x [] y = x ≡ y
Passes ring x (v ∷ l) y = (x ≡ v) × Passes ring (at ring v) l y

-- how often v is passed
unfoldable pub times : ℕ → List ℕ → ℕ
times v [] = 0
times v (u ∷ l) = bit (eqb v u) + times v l

-- a list of vertices, none twice
pub record Distinct (n : ℕ) (l : List ℕ) : Type 0 where
  pub once : (v : ℕ) → times v l ≤ 1
  pub inside : (v : ℕ) → 1 ≤ times v l → v < n

-- the vertices passed from x until y comes, at most `fuel` of them
unfoldable pub way : ℕ → List ℕ → ℕ → ℕ → List ℕ
way zero ring x y = []
way (suc fuel) ring x y = cond (eqb x y) [] (x ∷ way fuel ring (at ring x) y)

-- the ring of the tree that a names: all vertices of the tree that have a count are in it
pub record Ring (n : ℕ) (parent x ring : List ℕ) (a : ℕ) : Type 0 where
  pub round : List ℕ
  pub passes : Passes ring a round a
  pub begins : 1 ≤ times a round
  pub distinct : Distinct n round
  pub own : (v : ℕ) → 1 ≤ times v round → root_of parent v ≡ root_of parent a
  pub all : (v : ℕ) → v < n → root_of parent v ≡ root_of parent a → counted x v ≡ true → 1 ≤ times v round

-- each tree has one
pub record Rings (n : ℕ) (parent low x ring : List ℕ) : Type 0 where
  pub long : length ring ≡ vertex_limit
  pub each : (a : ℕ) → a < n → name_of parent low a ≡ a → Ring n parent x ring a

-- Each vertex alone

pub record LoneRings (k : ℕ) (ring : List ℕ) : Type 0 where
  pub long : length ring ≡ vertex_limit
  pub each : (v : ℕ) → v < k → at ring v ≡ v

-- Vertices that have left the boundary

-- a names one of some trees, and these have rings
pub record Prunable (x ring : List ℕ) (a : ℕ) : Type 0 where
  pub vertices : ℕ
  pub few : vertices ≤ vertex_limit
  pub parent : List ℕ
  pub low : List ℕ
  pub rings : Rings vertices parent low x ring
  pub below : a < vertices
  pub named : name_of parent low a ≡ a

-- whichever trees these are, they have rings still
pub record Prunes (x ring : List ℕ) (a : ℕ) (ring' : List ℕ) : Type 0 where
  pub each : (w : Prunable x ring a) → Rings w.vertices w.parent w.low x ring'

-- Two rings as one

pub record BothNamed (parent low : List ℕ) (a b : ℕ) : Type 0 where
  pub vertices : ℕ
  pub nameable : Nameable vertices parent low
  pub first : a < vertices
  pub second : b < vertices

-- the entries of p and q change places
abbrev pub exchanged : List ℕ → ℕ → ℕ → List ℕ
exchanged ring p q = set (set ring p (at ring q)) q (at ring p)

pub record JoinsRings (parent low : List ℕ) (a b : ℕ) (ring ring' : List ℕ) : Type 0 where
  pub exchanges : ring' ≡ exchanged ring (name_of parent low a) (name_of parent low b)
