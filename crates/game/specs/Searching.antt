-- The game as the search plays it: sets of edges are masks, and whether a set contains a winding loop is read from a table with a byte for
-- each mask. No part of what a reader must believe. Assumes nothing.
use Rattle.std.specs.Prelude.{ℕ, zero, suc, ◌+◌, ◌-◌, ◌^◌, ◌≤◌, ◌<◌, ◌≡◌, cond, ◌&&◌, List, length}
use Rattle.model.specs.declared.answers.Player.TheVariants.{Winder, Blocker}
use Rattle.model.specs.declared.answers.Forced.{Forced}
use Rattle.model.specs.declared.answers.Forced.TheVariants.{Waiting}
use Rattle.model.specs.Sums.{ones, count_up_to, first_up_to}
use Rattle.model.specs.Words.{bit_of}
use Rattle.model.specs.Game.{forced_by, choosing}
use Rattle.model.specs.Refusals.{game_limit}

-- the masks of all sets of the edges that a game may have
abbrev pub set_limit : ℕ
set_limit = 1024

-- with k edges free, from the mask h of Winder's edges and the mask f of the free ones
unfoldable mutual
  pub wind_from : ℕ → List ℕ → ℕ → ℕ → ℕ → Forced
  wind_from zero loops m h f = Waiting (cond (ones loops h) Winder Blocker)
  wind_from (suc k) loops m h f =
      cond (ones loops h) (Waiting Winder)
      (choosing Winder (first_up_to m (λ e. bit_of f e && forced_by Winder (block_from k loops m (h + 2 ^ e) (f - 2 ^ e)))))

  pub block_from : ℕ → List ℕ → ℕ → ℕ → ℕ → Forced
  block_from zero loops m h f = Waiting (cond (ones loops h) Winder Blocker)
  block_from (suc k) loops m h f =
      cond (ones loops h) (Waiting Winder)
      (choosing Blocker (first_up_to m (λ e. bit_of f e && forced_by Blocker (wind_from k loops m h (f - 2 ^ e)))))

-- no mask that the search reaches lies past the table, and k edges are free
pub record Searchable (loops : List ℕ) (m h f k : ℕ) : Type 0 where
  pub few : m ≤ game_limit
  pub long : length loops ≡ set_limit
  pub room : h + f < 2 ^ m
  pub free_edges : k ≡ count_up_to m (bit_of f)
