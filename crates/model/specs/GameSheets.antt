-- Document 02, K11: positions of the game by hand. Gathered as one list, each proved by computation. Assumes nothing.
use Rattle.std.specs.Prelude.{ℕ, ◌≡◌, refl, List, [], ◌∷◌}
use Rattle.std.proofs.Math.Option.{none, some}
use Rattle.model.specs.declared.answers.Player.{Player}
use Rattle.model.specs.declared.answers.Player.TheVariants.{Winder, Blocker}
use Rattle.model.specs.declared.answers.Forced.{Forced}
use Rattle.model.specs.declared.answers.Forced.TheVariants.{Taking, Waiting}
use Rattle.model.specs.declared.refusal.Refusal.TheVariants.{OpenByte, GameEdges, PositionByte, MoveCount}
use Rattle.model.specs.Sums.{odd_up_to, count_up_to, some_up_to, first_up_to, values}
use Rattle.model.specs.Board.{Board, board_of, without_open}
use Rattle.model.specs.Syndrome.{odd_end, syndrome}
use Rattle.model.specs.Winding.{closed, crossings, winds}
use Rattle.model.specs.Torus.{torus_ends, torus_marks, torus}
use Rattle.model.specs.Planar.{planar_ends, planar_marks, planar_opens, planar}
use Rattle.model.specs.Game.{loop_from, holds_loop, winder_to_move, forced}
use Rattle.model.specs.Refusals.{board_rules, game_rules, game_refusal}
use Rattle.model.specs.MarkedSheets.{ring, pair, point}

-- two vertices, joined by three edges with these marks
abbrev pub three : List ℕ → Board
three marks = without_open 2 (0 ∷ 1 ∷ 0 ∷ 1 ∷ 0 ∷ 1 ∷ []) marks

-- one vertex with three loop edges, of which the first crosses line A
abbrev pub loops : Board
loops = without_open 1 (0 ∷ 0 ∷ 0 ∷ 0 ∷ 0 ∷ 0 ∷ []) (1 ∷ 0 ∷ 0 ∷ [])

-- the edge shown to a player
abbrev pub takes : Player → ℕ → Forced
takes P e = Taking P (record { 0 = e })

-- three edges in a row, of which the outer two end at open vertices and the first crosses line A
abbrev pub row : Board
row = board_of 4 (0 ∷ 1 ∷ 1 ∷ 2 ∷ 2 ∷ 3 ∷ []) (1 ∷ 0 ∷ 0 ∷ []) (1 ∷ 0 ∷ 0 ∷ 1 ∷ [])

pub record GameSheets : Type 0 where
  -- no edge: the edges have run out, and Blocker has won
  pub no_edge : forced point [] ≡ Waiting Blocker
  -- two edges that make a loop together: Blocker takes the one that Winder leaves
  pub both_needed : forced pair (0 ∷ 0 ∷ []) ≡ Waiting Blocker
  pub other_left : forced pair (1 ∷ 0 ∷ []) ≡ takes Blocker 1
  pub run_out : forced pair (1 ∷ 2 ∷ []) ≡ Waiting Blocker
  -- Winder's edges contain a loop: she has won, though an edge is Blocker's
  pub whole_loop : forced (three (0 ∷ 1 ∷ 0 ∷ [])) (1 ∷ 1 ∷ 2 ∷ []) ≡ Waiting Winder
  -- any two of three edges make a loop: every edge keeps the win, and the smallest is shown
  pub every_edge : forced (three (0 ∷ 1 ∷ 2 ∷ [])) (0 ∷ 0 ∷ 0 ∷ []) ≡ takes Winder 0
  -- she needs the last edge and one of the others
  pub last_edge : forced (three (0 ∷ 0 ∷ 1 ∷ [])) (0 ∷ 0 ∷ 0 ∷ []) ≡ takes Winder 2
  -- then, with Blocker to move, she waits, and takes what he leaves
  pub waiting : forced (three (0 ∷ 0 ∷ 1 ∷ [])) (0 ∷ 0 ∷ 1 ∷ []) ≡ Waiting Winder
  pub reply : forced (three (0 ∷ 0 ∷ 1 ∷ [])) (2 ∷ 0 ∷ 1 ∷ []) ≡ takes Winder 1
  -- where she begins with another edge, he takes the last one
  pub mistake : forced (three (0 ∷ 0 ∷ 1 ∷ [])) (1 ∷ 0 ∷ 0 ∷ []) ≡ takes Blocker 2
  -- the ring has one loop, of all four edges
  pub ring_blocked : forced ring (0 ∷ 0 ∷ 0 ∷ 0 ∷ []) ≡ Waiting Blocker
  -- Blocker may take any edge of it, and is shown the smallest
  pub any_block : forced ring (1 ∷ 0 ∷ 0 ∷ 0 ∷ []) ≡ takes Blocker 1
  -- a loop edge that is marked is a loop by itself
  pub torus_1 : forced (torus 1) (0 ∷ 0 ∷ []) ≡ takes Winder 0
  pub torus_1_over : forced (torus 1) (1 ∷ 0 ∷ []) ≡ Waiting Winder
  -- a loop that Winder had before he moved is a loop still
  pub torus_1_later : forced (torus 1) (1 ∷ 2 ∷ []) ≡ Waiting Winder
  -- nor does she move on, where an edge is free
  pub loops_later : forced loops (1 ∷ 2 ∷ 0 ∷ []) ≡ Waiting Winder
  -- from open side to open side is a loop in the wider meaning
  pub row_won : forced row (1 ∷ 1 ∷ 1 ∷ []) ≡ Waiting Winder
  pub row_blocked : forced row (0 ∷ 0 ∷ 0 ∷ []) ≡ Waiting Blocker
  -- on the planar board of side 2 Winder, who begins, wins
  pub planar_2 : forced (planar 2) (0 ∷ 0 ∷ 0 ∷ 0 ∷ 0 ∷ []) ≡ takes Winder 0
  -- 20 before 21 before 22, and an open byte before all of them
  pub byte_first : game_refusal pair (3 ∷ 3 ∷ []) ≡ some (PositionByte (record { 0 = 0 }))
  pub second_byte : game_refusal pair (2 ∷ 3 ∷ []) ≡ some (PositionByte (record { 0 = 1 }))
  pub two_ahead : game_refusal pair (1 ∷ 1 ∷ []) ≡ some MoveCount
  pub one_behind : game_refusal pair (2 ∷ 0 ∷ []) ≡ some MoveCount
  pub one_ahead : game_refusal pair (1 ∷ 0 ∷ []) ≡ none
  pub eleven :
      game_refusal (without_open 1 (values 22 (λ i. 0)) (values 11 (λ i. 0))) (values 11 (λ i. 3)) ≡ some GameEdges
  pub open_first :
      game_refusal (board_of 1 (values 22 (λ i. 0)) (values 11 (λ i. 0)) (2 ∷ [])) (values 11 (λ i. 3)) ≡ some (OpenByte (record { 0 = 0 }))

pub game_sheets : GameSheets
unfolding odd_up_to count_up_to some_up_to first_up_to values odd_end syndrome closed crossings winds loop_from holds_loop winder_to_move forced torus_ends torus_marks torus planar_ends planar_marks planar_opens planar board_rules game_rules game_refusal
game_sheets =
    record {
      no_edge = refl;
      both_needed = refl;
      other_left = refl;
      run_out = refl;
      whole_loop = refl;
      every_edge = refl;
      last_edge = refl;
      waiting = refl;
      reply = refl;
      mistake = refl;
      ring_blocked = refl;
      any_block = refl;
      torus_1 = refl;
      torus_1_over = refl;
      torus_1_later = refl;
      loops_later = refl;
      row_won = refl;
      row_blocked = refl;
      planar_2 = refl;
      byte_first = refl;
      second_byte = refl;
      two_ahead = refl;
      one_behind = refl;
      one_ahead = refl;
      eleven = refl;
      open_first = refl;
    }
