-- What the game's tests leave: a valid board of few edges, and a position on it whose counts are those of two who take turns. No part of
-- what a reader must believe. Assumes nothing.
use Rattle.std.specs.Prelude.{ℕ, ◌+◌, ◌≤◌, ◌<◌, ◌≡◌, ◌⊎◌, List, length, get_or}
use Rattle.model.specs.declared.answers.Player.TheVariants.{Winder, Blocker}
use Rattle.model.specs.Board.{Board, Valid, edges}
use Rattle.model.specs.Game.{held_count}
use Rattle.model.specs.Refusals.{game_limit}

pub record Playable (B : Board) (p : List ℕ) : Type 0 where
  pub board : Valid B
  pub few : edges B ≤ game_limit
  pub long : length p ≡ edges B
  pub bytes : (e : ℕ) → e < length p → get_or p e 0 ≤ 2
  pub turns : (held_count Winder p ≡ held_count Blocker p) ⊎ (held_count Winder p ≡ held_count Blocker p + 1)
