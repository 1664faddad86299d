use native.Mathlib.Numerals.{add-one}
use native.Mathlib.Omega.{arith}
use Rattle.model.proofs.EndLaws.{end_in_range}
use Rattle.decoder.proofs.EndListLaws.{list_none, list_one}
use Rattle.decoder.proofs.end_lists.EndLists.list.Goals as goal

pub loop-i-init : goal.loop-i-init
loop-i-init c = list_none _ c.requires.unlisted

pub bounds-self-v : goal.bounds-self-v
bounds-self-v c = end_in_range c.requires.ends_within c.loop-i.i c.loop-i-test.true

pub bounds-self-v-in-loop-i : goal.bounds-self-v-in-loop-i
bounds-self-v-in-loop-i c = end_in_range c.requires.ends_within c.loop-i.i c.loop-i-test.true

pub loop-i-preserved : goal.loop-i-preserved
loop-i-preserved c =
    rw add-one
    (list_one _ _ _ _ (omega (arith, c.requires.ends_within.two_ends, c.requires.ends_within.edges_limited))
    (end_in_range c.requires.ends_within c.loop-i.i c.loop-i-test.true) c.loop-i.invariant)
