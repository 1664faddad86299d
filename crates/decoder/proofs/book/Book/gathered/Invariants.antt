-- `gathered` meets its contract: each turn fuses the ends of one full edge and joins their rings, unless they are together already.
-- Assumes nothing.
use Rattle.decoder.specs.Rings.{Rings}
use Rattle.decoder.specs.Books.{parents_by, lows_of}
use Rattle.decoder.proofs.Gathering.{Gathering}
use Rattle.decoder.proofs.book.Book.gathered.Given as goal

abbrev pub invariant-loop-e : goal.invariant-loop-e
invariant-loop-e l =
    Gathering l.fn.sheet.board.vertices l.ends l.fn.sheet.board.opened.now l.support l.initial.book l.e l.book
    × Rings l.book.vertices (parents_by l.book) (lows_of l.book) l.exposure l.ring
