use native.Mathlib.Omega.{arith}
use Rattle.board.proofs.MaskBytes.{spread_all}
use Rattle.board.proofs.masks.spread.Goals as goal

pub returns : goal.returns
returns c = spread_all (omega arith) c.loop-i.invariant
