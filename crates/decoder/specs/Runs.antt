-- A run of growths or rounds from the start, until no cluster is odd. Internal: no part of what a reader of a product call must believe.
-- Assumes nothing.
use Rattle.std.specs.Prelude.{ℕ, ◌≡◌, List, length}
use Rattle.std.proofs.Math.Option.{none}
use Rattle.model.specs.Board.{Board, Sheet, sheet_of, unmarked, EndsWithin, Unlit}
use Rattle.model.specs.Sums.{Set, ones}
use Rattle.model.specs.Growth.{Policy}
use Rattle.model.specs.Decoding.{smallest_odd, grown_by}
use Rattle.model.specs.declared.lent.Sheet as lent_sheet
use Rattle.decoder.specs.declared.growth.Ran.{Ran}
use Rattle.decoder.specs.Books.{TrueBook}

-- the sheet without its marks
abbrev pub bare : ℕ → List ℕ → List ℕ → List ℕ → List ℕ → Sheet
bare n ends opened syndrome loss = sheet_of (unmarked n (length loss) ends opened) syndrome loss

-- the sheet that is lent, without its marks
abbrev pub bare_lent : lent_sheet.Sheet → Sheet
bare_lent s = bare s.board.vertices s.board.ends.now s.board.opened.now s.syndrome.now s.loss.now

-- a board that has a correction
pub record Runnable (n : ℕ) (ends opened syndrome loss s : List ℕ) : Type 0 where
  pub lent : EndsWithin n (length loss) ends
  pub open_bytes : length opened ≡ n
  pub lit : length syndrome ≡ n
  pub long : length s ≡ length loss
  pub unlit : Unlit (unmarked n (length loss) ends opened) (ones syndrome)
  pub none_odd : smallest_odd (unmarked n (length loss) ends opened) (ones syndrome) ≡ none

-- how often there was growth in the whole run, its supports, and the book of these
pub record Runs (policy : Board → Set → Policy) (X : Sheet) (r : Ran) (s : List ℕ) : Type 0 where
  pub count : r.count ≡ (grown_by policy X).count
  pub supports : s ≡ (grown_by policy X).support
  pub book : TrueBook X.board (ones X.syndrome) s r.book
