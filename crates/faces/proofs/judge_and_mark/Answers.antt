-- `faces::judge_and_mark` meets its contract: under same the faces are marked from the correction that was compared. Assumes nothing.
use Rattle.faces.proofs.MarkedFaces.{markable, marked, unmarked}
use Rattle.faces.proofs.judge_and_mark.Goals as goal

pub mark_faces-requires : goal.mark_faces-requires
mark_faces-requires c = markable _ _ _ _ _ c.requires.0 _ _ _ c.judge-verdict.ensures c.in-Same.is

pub returns-in-Same : goal.returns-in-Same
returns-in-Same c = marked _ _ _ _ _ c.requires.0 _ _ _ c.judge-verdict.ensures c.in-Same.is _ c.mark_faces.ensures

pub returns-in_default : goal.returns-in_default
returns-in_default c = unmarked _ _ _ _ _ c.requires.0 _ _ _ c.judge-verdict.ensures c.in_default.not-Same
