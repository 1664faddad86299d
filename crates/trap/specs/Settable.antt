-- What the tests of a trap leave: a valid board of few edges, and its losses. No part of what a reader must believe. Assumes nothing.
use Rattle.std.specs.Prelude.{ℕ, ◌≤◌, List}
use Rattle.model.specs.Board.{Board, Valid, ValidBytes, edges}
use Rattle.model.specs.Refusals.{trap_limit}

pub record Settable (B : Board) (loss : List ℕ) : Type 0 where
  pub board : Valid B
  pub losses : ValidBytes (edges B) loss
  pub few : edges B ≤ trap_limit
