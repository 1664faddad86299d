-- `faces::marking::mark_faces` meets its contract. The loop's invariant: the first i marks are those of the definition. Assumes nothing.
use Rattle.model.specs.Sums.{bit, ones}
use Rattle.model.specs.Winding.{together}
use Rattle.model.specs.Faces.{face_of}
use Rattle.torus.specs.Filling.{Filled}
use Rattle.faces.proofs.marking.mark_faces.Given as goal

abbrev pub invariant-loop-i : goal.invariant-loop-i
invariant-loop-i l = Filled (λ k. bit (face_of l.side (together (ones l.handed) (ones l.correction)) k)) l.i l.faces
