-- `grow` meets its contract: document 01's step 4. Each turn of its loop fuses the ends of one newly full edge and joins their rings, unless
-- they are together already. Assumes nothing.
use Prim.Native.Nat.{ℕ}
use mathlib.Core.List.{List}
use Rattle.decoder.specs.declared.book.Book.{Book}
use Rattle.union_find.specs.Packed.{parents_of}
use Rattle.decoder.specs.Figures.{names_by}
use Rattle.decoder.specs.Rings.{Rings}
use Rattle.decoder.specs.Books.{FusesListed}
use Rattle.decoder.proofs.book.Book.grow.Given as goal

-- the book of the arrays
abbrev pub made : ℕ → List ℕ → List ℕ → Book
made vertices tree figure = record { vertices = vertices; tree = tree; figure = figure }

abbrev pub invariant-loop-number : goal.invariant-loop-number
invariant-loop-number l = FusesListed (made l.vertices l.initial.tree l.initial.figure) l.ends l.listed l.number-index (made l.vertices l.tree l.figure)
    × Rings l.vertices (parents_of l.tree) (names_by l.figure) l.exposure l.ring
