-- What the functions of the walk do to its arrays. No part of what a reader must believe: the contract of `distance` does not cite it.
-- Assumes nothing.
use Rattle.std.specs.Prelude.{ℕ, suc, ◌+◌, ◌/◌, ◌≤◌, ◌<◌, ◌≡◌, Bool, true, false, List, Option, Some, None, ◌≢◌, length, get_or, set}
use Rattle.model.specs.Board.{Board, Valid, vertex_limit, edge_limit}
use Rattle.distance.specs.States.{padded, state_limit}
use Rattle.distance.specs.declared.state.State.{State}
use Rattle.board.specs.Incidence.{Incidence}
use Rattle.distance.specs.Search.{states, home, Tree, NoShorter}

-- the arrays are whole
pub record Whole (D K Q : List ℕ) : Type 0 where
  pub depth : length D ≡ state_limit
  pub kept : length K ≡ state_limit
  pub queue : length Q ≡ state_limit

-- a state that was not met has room in the queue
pub record Room (D K Q : List ℕ) (t y : ℕ) : Type 0 where
  pub whole : Whole D K Q
  pub inside : y < state_limit
  pub free : get_or D y 0 ≡ 0 → t < state_limit

-- state y was entered at depth d with edge e, or was met before and nothing was changed
pub record New (D K Q : List ℕ) (t y e d : ℕ) (D' K' Q' : List ℕ) (t' : ℕ) : Type 0 where
  pub fresh : get_or D y 0 ≡ 0
  pub depth : D' ≡ set D y d
  pub kept : K' ≡ set K y e
  pub queue : Q' ≡ set Q t y
  pub tail : t' ≡ t + 1

pub record Old (D K Q : List ℕ) (t y : ℕ) (D' K' Q' : List ℕ) (t' : ℕ) : Type 0 where
  pub met : 1 ≤ get_or D y 0
  pub depth : D' ≡ D
  pub kept : K' ≡ K
  pub queue : Q' ≡ Q
  pub tail : t' ≡ t

abbrev pub Entry : List ℕ → List ℕ → List ℕ → ℕ → ℕ → ℕ → ℕ → Bool → List ℕ → List ℕ → List ℕ → ℕ → Type 0
Entry D K Q t y e d true D' K' Q' t' = New D K Q t y e d D' K' Q' t'
Entry D K Q t y e d false D' K' Q' t' = Old D K Q t y D' K' Q' t'

-- one more than the edge limit: what every loop stays below
abbrev pub no_loop_size : ℕ
no_loop_size = suc edge_limit

-- a walk may start
pub record Ready (ends marks offsets entries : List ℕ) (s best : ℕ) : Type 0 where
  pub valid : Valid (padded ends marks)
  pub lists : Incidence (padded ends marks) offsets entries
  pub start : s < vertex_limit
  pub limit : best ≤ no_loop_size

-- the arrays are whole, and no state was met
pub record Fresh (D K Q : List ℕ) : Type 0 where
  pub whole : Whole D K Q
  pub none : (y : ℕ) → y < state_limit → get_or D y 0 ≡ 0

-- The walk met the start in state y of another copy, and no loop from there is shorter.
pub record Met (B : Board) (s best : ℕ) (D K : ℕ → ℕ) (y : ℕ) : Type 0 where
  pub inside : y < states B
  pub vertex : y / 4 ≡ s
  pub apart : y ≢ home s
  pub tree : Tree B s D K
  pub edges : ℕ
  pub depth : D y ≡ suc edges
  pub fewer : edges < best
  pub least : NoShorter B s edges

-- what the walk finds: a loop of fewer edges, or that none is there
abbrev pub Walked : Board → ℕ → ℕ → (ℕ → ℕ) → (ℕ → ℕ) → Option State → Type 0
Walked B s best D K (Some y) = Met B s best D K y.0
Walked B s best D K None = NoShorter B s best
