-- `packed::listing::list_word` meets its contract. The loop's invariant: with the bits of `rest` the list will be as with those of `word`.
-- Assumes nothing.
use Rattle.packed.specs.Listing.{bits_from}
use Rattle.packed.specs.Storing.{Storing}
use Rattle.packed.proofs.listing.list_word.Given as goal

abbrev pub invariant-loop-rest : goal.invariant-loop-rest
invariant-loop-rest l = Storing (bits_from 64 l.first l.rest) (bits_from 64 l.first l.word) l.initial.list 0 l.list l.at

abbrev pub decreases-loop-rest : goal.decreases-loop-rest
decreases-loop-rest l = l.rest
