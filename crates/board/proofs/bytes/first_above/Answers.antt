-- `board::bytes::first_above` meets its contract: where the largest byte is within the limit, none is above it. Assumes nothing.
use Rattle.board.proofs.Bounding.{none_above}
use Rattle.board.proofs.bytes.first_above.Goals as goal

pub returns-then-largest_byte-limit : goal.returns-then-largest_byte-limit
returns-then-largest_byte-limit g c = none_above c.args.bytes.now c.largest_byte.ensures c.if-largest_byte-limit.true
