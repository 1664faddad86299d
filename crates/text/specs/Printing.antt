-- The bytes that the writer puts, line by line. No part of what a reader must believe: inner contracts name it.
-- Assumes nothing.
use Rattle.std.specs.Prelude.{ℕ, zero, suc, ◌+◌, ◌*◌, ◌≡◌, Bool, cond, List, [], ◌∷◌, ◌++◌, length, get_or}
use Rattle.std.proofs.lemmas.List.Edits.{sets}
use Rattle.model.specs.Sums.{Set, ones}
use Rattle.model.specs.Board.{Sheet, edges, is_open}
use Rattle.model.specs.Text.{newline, tab, letter_v, letter_e, letter_o, letter_s, letter_x, decimal}

-- these bytes put at a position, and the position after them
pub record Puts (bytes out : List ℕ) (at next : ℕ) (out' : List ℕ) : Type 0 where
  pub position : next ≡ at + length bytes
  pub put : out' ≡ sets out at bytes

-- a tab and a number
abbrev pub field_bytes : ℕ → List ℕ
field_bytes n = tab ∷ decimal n

-- a line of one number
abbrev pub number_bytes : ℕ → ℕ → List ℕ
number_bytes letter n = letter ∷ [] ++ field_bytes n ++ newline ∷ []

-- an edge's line
abbrev pub edge_bytes : ℕ → ℕ → ℕ → List ℕ
edge_bytes a b m = letter_e ∷ [] ++ field_bytes a ++ field_bytes b ++ field_bytes m ++ newline ∷ []

-- the lines of the first k edges of a board with these ends and marks
unfoldable pub edges_bytes : List ℕ → List ℕ → ℕ → List ℕ
edges_bytes ends marks zero = []
edges_bytes ends marks (suc e) = edges_bytes ends marks e ++ edge_bytes (get_or ends (2 * e) 0) (get_or ends (2 * e + 1) 0) (get_or marks e 0)

-- a line for a number that is in the set
abbrev pub place_bytes : ℕ → ℕ → Bool → List ℕ
place_bytes letter i there = cond there (number_bytes letter i) []

-- a line for each number below k that is in the set, rising
unfoldable pub listed_bytes : ℕ → Set → ℕ → List ℕ
listed_bytes letter D zero = []
listed_bytes letter D (suc i) = listed_bytes letter D i ++ place_bytes letter i (D i)

-- all lines of a sheet
abbrev pub sheet_bytes : Sheet → List ℕ
sheet_bytes X =
    let B = X.board in
    number_bytes letter_v B.vertices
    ++ edges_bytes B.ends B.marks (edges B)
    ++ listed_bytes letter_o (is_open B) (length B.opened)
    ++ listed_bytes letter_s (ones X.syndrome) (length X.syndrome)
    ++ listed_bytes letter_x (ones X.loss) (length X.loss)
