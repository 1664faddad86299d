use mathlib.Core.Path.{ap, ◌∙◌}
use native.Mathlib.Omega.{arith}
use Rattle.packed.specs.Listing.{bits_from}
use Rattle.packed.proofs.BitLists.{bits_none}
use Rattle.packed.proofs.StoringLaws.{storing_done}
use Rattle.packed.proofs.WordWalk.{step}
use Rattle.packed.proofs.listing.list_word.Goals as goal

pub bounds-list-at : goal.bounds-list-at
bounds-list-at c = (step c.loop-rest-test.true c.loop-rest.auto.rest-fits.fits (omega (arith, c.requires.1)) c.loop-rest.invariant).room

pub overflow_sub-rest : goal.overflow_sub-rest
overflow_sub-rest c = (step c.loop-rest-test.true c.loop-rest.auto.rest-fits.fits (omega (arith, c.requires.1)) c.loop-rest.invariant).there

pub loop-rest-preserved : goal.loop-rest-preserved
loop-rest-preserved c = (step c.loop-rest-test.true c.loop-rest.auto.rest-fits.fits (omega (arith, c.requires.1)) c.loop-rest.invariant).stored

pub returns : goal.returns
returns c = storing_done (ap (bits_from 64 _) c.loop-rest-test.false ∙ bits_none 64 _) c.loop-rest.invariant
