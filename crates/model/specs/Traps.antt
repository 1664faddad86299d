-- Document 02, K12: traps, that is, errors on which the key misleads, and the fewest edges of one, by going through all sets of edges.
-- Assumes nothing.
use Rattle.std.specs.Prelude.{ℕ, Bool, List}
use Rattle.std.proofs.Math.Option.{Option}
use Rattle.model.specs.Sums.{Set, bytes}
use Rattle.model.specs.Board.{Board, Sheet, sheet_of}
use Rattle.model.specs.Syndrome.{syndrome}
use Rattle.model.specs.Winding.{winds, together}
use Rattle.model.specs.Decoding.{corrected}
use Rattle.model.specs.Distance.{fewest_where}

-- the sheet that is handed out after the edges of E were flipped: the syndrome of E, which is empty at open vertices, and the board's losses
abbrev pub flipped_sheet : Board → List ℕ → Set → Sheet
flipped_sheet B loss E = sheet_of B (bytes B.vertices (syndrome B E)) loss

-- E is a trap: the correction with which the table answers its syndrome winds together with E. There always is one: E has the syndrome, so
-- that number 10 never arises.
unfoldable pub traps : Board → List ℕ → Set → Bool
traps B loss E = winds B (together E (corrected (flipped_sheet B loss E)))

-- the least size of a trap, or none where no set is one
unfoldable pub fewest_trap : Board → List ℕ → Option ℕ
fewest_trap B loss = fewest_where B (traps B loss)
