-- `board::masks::alone` meets its contract. Assumes nothing.
use native.Mathlib.Omega.{arith}
use lib.Pow.{pow-lt}
use Rattle.board.proofs.masks.alone.Goals as goal

pub returns : goal.returns
returns c = omega (arith, pow-lt c.requires)
