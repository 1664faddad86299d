use native.Mathlib.Omega.{arith}
use lib.ListN.{length}
use Rattle.model.specs.Sums.{ones}
use Rattle.text.specs.Printing.{listed_bytes}
use Rattle.text.proofs.PutLaws.{then, long, put_none, listed_more, listed_fit}
use Rattle.text.proofs.printing.put_listed.Goals as goal

pub loop-i-init : goal.loop-i-init
unfolding listed_bytes
loop-i-init c = put_none _ _

pub put_place-next-requires : goal.put_place-next-requires
put_place-next-requires c =
    let w = c.loop-i in
    let bytes = c.args.bytes.now in
    let fit = listed_fit c.args.letter (ones bytes) (length bytes) w.i c.loop-i-test.true in
    omega (arith, w.invariant.position, long w.invariant, c.requires)

pub loop-i-preserved : goal.loop-i-preserved
loop-i-preserved c = rw (listed_more c.args.letter (ones c.args.bytes.now) c.loop-i.i) (then c.loop-i.invariant c.put_place-next.ensures)
