-- What a breadth-first walk over the four copies knows, as its loops' invariant: depths D, kept edges K and the queue Q of which h states
-- are done and t are entered. No part of what a reader must believe: the contract of `distance` does not cite it. Assumes nothing.
use Rattle.std.specs.Prelude.{ℕ, zero, suc, ◌*◌, ◌-◌, ◌/◌, ◌≤◌, ◌<◌, ◌≡◌, true, List, [], ◌∷◌, length, get_or, ltb}
use Rattle.model.specs.Sums.{Set, count_up_to}
use Rattle.model.specs.Board.{Board, edges}
use Rattle.model.specs.Syndrome.{touches}
use Rattle.theory.proofs.CrossedLines.{Line}
use Rattle.theory.proofs.Walks.{Walk, walk_crosses, passed_oddly}
use Rattle.distance.specs.States.{across}

-- an array as a function of the place
abbrev pub at : List ℕ → ℕ → ℕ
at l i = get_or l i 0

-- the number of states, and the state of vertex s on copy 0
abbrev pub states : Board → ℕ
states B = 4 * B.vertices

abbrev pub home : ℕ → ℕ
home s = 4 * s

-- State y was reached by a kept edge from a state that is less deep by 1.
pub record Kept (B : Board) (D K : ℕ → ℕ) (y : ℕ) : Type 0 where
  pub edge : K y < edges B
  pub touch : touches B (K y) (y / 4) ≡ true
  pub above : suc (D (across B y (K y))) ≡ D y

-- Depth 0 says that a state was not met; the start, and it alone, has depth 1; the kept edges lead back to it.
pub record Tree (B : Board) (s : ℕ) (D K : ℕ → ℕ) : Type 0 where
  pub start : D (home s) ≡ 1
  pub root : (y : ℕ) → y < states B → D y ≡ 1 → y ≡ home s
  pub kept : (y : ℕ) → y < states B → 2 ≤ D y → Kept B D K y

-- state y stands in the queue
pub record Place (Q : ℕ → ℕ) (t y : ℕ) : Type 0 where
  pub index : ℕ
  pub less : index < t
  pub here : Q index ≡ y

-- the states that were met
abbrev pub entered : (ℕ → ℕ) → Set
entered D y = ltb 0 (D y)

-- The queue holds the states that were met, each once; their depths never fall, and are at most 1 more than the head's.
pub record Queue (B : Board) (D Q : ℕ → ℕ) (h t : ℕ) : Type 0 where
  pub order : h ≤ t
  pub inside : (i : ℕ) → i < t → Q i < states B
  pub met : (i : ℕ) → i < t → 1 ≤ D (Q i)
  pub place : (y : ℕ) → y < states B → 1 ≤ D y → Place Q t y
  pub rising : (i j : ℕ) → i ≤ j → j < t → D (Q i) ≤ D (Q j)
  pub close : (i : ℕ) → i < t → h < t → D (Q i) ≤ suc (D (Q h))
  pub count : count_up_to (states B) (entered D) ≡ t

-- the state across edge e from x was met, at most 1 deeper
pub record Near (B : Board) (D : ℕ → ℕ) (x e : ℕ) : Type 0 where
  pub met : 1 ≤ D (across B x e)
  pub close : D (across B x e) ≤ suc (D x)

-- so it is for every edge of x
pub record Done (B : Board) (D : ℕ → ℕ) (x : ℕ) : Type 0 where
  pub near : (e : ℕ) → e < edges B → touches B e (x / 4) ≡ true → Near B D x e

-- The walk so far: the start was not met on another copy.
pub record Search (B : Board) (s : ℕ) (D K Q : ℕ → ℕ) (h t : ℕ) : Type 0 where
  pub tree : Tree B s D K
  pub queue : Queue B D Q h t
  pub done : (i : ℕ) → i < h → Done B D (Q i)
  pub away : (y : ℕ) → y < states B → 1 ≤ D y → y / 4 ≡ s → y ≡ home s

-- every closed walk from s that crosses a line an odd number of times has at least d edges
pub record NoShorter (B : Board) (s d : ℕ) : Type 0 where
  pub least : (l : List ℕ) (x : Line) → Walk B s l s → walk_crosses B x l ≡ true → d ≤ length l

-- the k kept edges that lead back from state y
unfoldable pub trail : Board → (ℕ → ℕ) → ℕ → ℕ → List ℕ
trail B K zero y = []
trail B K (suc k) y = K y ∷ trail B K k (across B y (K y))

-- the edges that the way back from state y to the start passes an odd number of times
abbrev pub passed_from : Board → (ℕ → ℕ) → (ℕ → ℕ) → ℕ → Set
passed_from B D K y = passed_oddly (trail B K (D y - 1) y)
