-- What the functions of a report put, and what they are lent. No part of what a reader must believe: inner contracts name it.
-- Assumes nothing.
use Rattle.std.specs.Prelude.{ℕ, ◌+◌, ◌*◌, ◌≤◌, ◌≡◌, List, ◌++◌, length, Ok, Err, Some, None}
use Rattle.std.proofs.Math.Option.{Option, none, some}
use Rattle.model.specs.Sums.{ones}
use Rattle.model.specs.Board.{Board, Sheet, Valid, ValidSheet, edges, edge_limit}
use Rattle.model.specs.Distance.{fewest}
use Rattle.model.specs.Report.{letter_g, letter_c, distance_line}
use Rattle.text.specs.Printing.{number_bytes, listed_bytes}
use Rattle.model.specs.Answers.{Distance}

-- the distance in an answer; on a valid board the answer is no refusal
abbrev pub fewest_in : Distance → Option ℕ
fewest_in (Ok (Some d)) = some d
fewest_in (Ok None) = none
fewest_in (Err n) = none

-- room for the longest report
abbrev pub longest : ℕ
longest = 7 * (edge_limit + 2)

pub record Room (out : List ℕ) : Type 0 where
  pub long : length out ≡ longest

-- the lines of a key with these growths and correction bytes
abbrev pub key_lines : Board → ℕ → List ℕ → List ℕ
key_lines B growths correction =
    number_bytes letter_g growths ++ listed_bytes letter_c (ones correction) (length correction) ++ distance_line (fewest B)

-- a key, with a buffer for a loop
pub record Keyed (B : Board) (growths : ℕ) (correction shown out : List ℕ) : Type 0 where
  pub board : Valid B
  pub few_growths : growths ≤ 2 * edges B
  pub correction_long : length correction ≡ edges B
  pub shown_long : length shown ≡ edges B
  pub room : Room out

-- a valid sheet, with the buffers that decoding fills
pub record Decodable (X : Sheet) (support correction out : List ℕ) : Type 0 where
  pub sheet : ValidSheet X
  pub support_long : length support ≡ edges X.board
  pub correction_long : length correction ≡ edges X.board
  pub room : Room out
