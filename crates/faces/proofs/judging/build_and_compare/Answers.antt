-- `faces::judging::build_and_compare` meets its contract: what is built is the torus, and the comparison is made on it. Assumes nothing.
use Rattle.faces.proofs.BuiltTorus.{comparable, compared}
use Rattle.faces.proofs.judging.build_and_compare.Goals as goal

pub compare-requires : goal.compare-requires
compare-requires c = comparable _ _ _ _ c.requires.0 _ _ _ _ _ c.requires.1 _ _ c.fill_ends.ensures c.fill_marks.ensures

pub returns : goal.returns
returns c = compared _ _ _ _ c.requires.0 _ _ _ _ _ c.requires.1 _ _ c.fill_ends.ensures c.fill_marks.ensures _ _ _ c.compare.ensures
