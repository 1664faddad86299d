-- `parts::first_odd` meets its contract: there are an open byte and a syndrome byte for each vertex, so the parities, and what is cleared of
-- them, are those of all vertices; where no entry is left, no part is odd. Assumes nothing.
use Rattle.parts.proofs.Marking.{first_odd_lem}
use Rattle.parts.proofs.NothingMarked.{none_marked}
use Rattle.parts.proofs.first_odd.Goals as goal

pub returns-then-largest_byte-eq0 : goal.returns-then-largest_byte-eq0
returns-then-largest_byte-eq0 c = first_odd_lem c.connect-tree.ensures (rw c.requires.bytes.count at c.parities-odd.ensures)
    (rw c.requires.open_bytes at c.clear_open.ensures)
    (none_marked c.connect-tree.ensures.rooted c.clear_open.ensures c.largest_byte.ensures c.if-largest_byte-eq0.true)

pub returns : goal.returns
returns c = first_odd_lem c.connect-tree.ensures (rw c.requires.bytes.count at c.parities-odd.ensures)
    (rw c.requires.open_bytes at c.clear_open.ensures) c.first_marked.ensures
