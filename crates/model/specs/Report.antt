-- Document 01, "Text": what the decode program prints for the text that it reads, as bytes.
-- Assumes nothing.
use Rattle.std.specs.Prelude.{ℕ, ◌≤◌, ◌≡◌, List, [], ◌∷◌, ◌++◌, length}
use Rattle.std.proofs.Math.Option.{Option, none, some}
use Rattle.model.specs.declared.refusal.Refusal.{Refusal}
use Rattle.model.specs.Sums.{members}
use Rattle.model.specs.Board.{Sheet, edges}
use Rattle.model.specs.Decoding.{growths, corrected}
use Rattle.model.specs.Distance.{fewest}
use Rattle.model.specs.Refusals.{number_of, place_of, tested, odd_part_test}
use Rattle.model.specs.Outcomes.{answer}
use Rattle.model.specs.Text.{newline, tab, fields_of, Read, complete, refused, read_text}
use Rattle.model.specs.TextOutcomes.{text_rule, over}

-- the letters of its lines, as bytes, and the one that stands for no distance
abbrev pub letter_g : ℕ
letter_g = 71

abbrev pub letter_c : ℕ
letter_c = 67

abbrev pub letter_d : ℕ
letter_d = 68

abbrev pub letter_n : ℕ
letter_n = 78

abbrev pub dash : ℕ
dash = 45

-- a line of a letter and numbers, parted and ended as in a text
unfoldable pub report_line : ℕ → List ℕ → List ℕ
report_line letter numbers = letter ∷ fields_of numbers ++ newline ∷ []

-- a line `C` for each of these edges
unfoldable pub edge_lines : List ℕ → List ℕ
edge_lines [] = []
edge_lines (e ∷ es) = report_line letter_c (e ∷ []) ++ edge_lines es

-- the line `D`: the distance, or `-` where no set winds
unfoldable pub distance_line : Option ℕ → List ℕ
distance_line none = letter_d ∷ tab ∷ dash ∷ newline ∷ []
distance_line (some d) = report_line letter_d (d ∷ [])

-- the line `N` of a refusal, its number and its place, which is then all that is printed
unfoldable pub refusal_line : Refusal → List ℕ
refusal_line n = report_line letter_n (number_of n ∷ place_of n ∷ [])

-- The report of a key: the line `G` with the number of growths, then for each edge of the correction, by rising number, a line `C` (none
-- where the correction is empty), then the line `D`.
unfoldable pub key_report : Sheet → List ℕ
key_report X =
    report_line letter_g (growths X ∷ [])
    ++ edge_lines (members (edges X.board) (corrected X))
    ++ distance_line (fewest X.board)

-- a sheet that was read breaks none of the rules: number 10, or its key
unfoldable pub sheet_report : Sheet → List ℕ
sheet_report X = answer (odd_part_test X) refusal_line (key_report X)

abbrev pub read_report : Read → List ℕ
read_report (complete X) = sheet_report X
read_report (refused n) = refusal_line n

-- The report of a text: number 12 for one that is too long, number 13 for one that doesn't read, or the report of its sheet.
unfoldable pub report_of : List ℕ → List ℕ
report_of text = answer (tested (text_rule text)) refusal_line (read_report (read_text text))

-- These bytes stand in front in the buffer, r is how many they are, and no byte after them is touched.
pub record InFront (bytes out : List ℕ) (r : ℕ) (out' : List ℕ) : Type 0 where
  pub count : r ≡ length bytes
  pub fits : length bytes ≤ length out
  pub written : out' ≡ over bytes out
