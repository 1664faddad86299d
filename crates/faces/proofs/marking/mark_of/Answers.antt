-- `faces::marking::mark_of` meets its contract: in row 0 from the face to the left, further down from the one above. Assumes nothing.
use Rattle.faces.proofs.MarkSteps.{mark_along, mark_down}
use Rattle.faces.proofs.marking.mark_of.Goals as goal

pub returns-then-i-side : goal.returns-then-i-side
returns-then-i-side c =
    let a = c.args in
    mark_along a.side a.handed.now a.correction.now a.faces.now a.face.0 c.requires _
    c.if-i-side.true c.across.ensures

pub returns : goal.returns
returns c =
    let a = c.args in
    mark_down a.side a.handed.now a.correction.now a.faces.now a.face.0 c.requires _
    c.if-i-side.false c.across-2.ensures
