-- `faces::faces` meets its contract: the refusal of the first test that fails, and otherwise the verdict with its faces; `sound` follows
-- from the outcome. Assumes nothing.
use Rattle.std.proofs.Common.{ℕ, ◌≡◌, ◌*◌, ◌≤◌, List, length, take, replicate, sym, ap, ◌∙◌, arith}
use Rattle.std.specs.Prelude.{Result, Ok}
use Rattle.model.specs.declared.refusal.Refusal.{Refusal}
use Rattle.model.specs.Board.{vertex_limit}
use Rattle.model.specs.Refusals.{faces_refusal}
use Rattle.model.proofs.ListLaws.{front_long}
use Rattle.board.specs.Checks.{test_of}
use Rattle.board.proofs.Failures.{passed}
use Rattle.torus.proofs.Numbering.{square_limit}
use Rattle.faces.specs.Lent.{ForFaces}
use Rattle.faces.proofs.FaceTests.{faces_passes}
use Rattle.faces.proofs.FacesOutcome.{faces_refused, faces_answered}
use Rattle.faces.proofs.faces.Goals as goal

-- what is known once all tests have passed
module _ (L : ℕ) (syndrome loss handed faces : List ℕ) (r : Result Unit Refusal)
    (told : test_of r ≡ faces_refusal L syndrome loss handed faces) (is : r ≡ Ok tt) where
  lent : ForFaces L syndrome loss handed faces
  lent = faces_passes L syndrome loss handed faces (passed _ r told is)

  few : L * L ≤ vertex_limit
  few = square_limit L lent.lent.side.most

  -- the front of an array of zeros that has a byte for each edge
  front : length (take (2 * (L * L)) (replicate {A = ℕ} (2 * vertex_limit) 0)) ≡ 2 * (L * L)
  front = let h = few in front_long (2 * (L * L)) (2 * vertex_limit) 0 (omega (arith, h))

pub returns-in-Err : goal.returns-in-Err
returns-in-Err c =
    let all = faces_refused _ _ _ _ _ _ (sym c.check_faces.ensures ∙ ap test_of c.in-Err.is) in
    record { outcome = all.0; sound = all.1 }

pub overflow_mul-edges : goal.overflow_mul-edges
overflow_mul-edges c = omega (arith, few _ _ _ _ _ _ c.check_faces.ensures c.in_default.is)

pub overflow_mul-edges-2 : goal.overflow_mul-edges-2
overflow_mul-edges-2 c = omega (arith, few _ _ _ _ _ _ c.check_faces.ensures c.in_default.is)

pub slice_bounds-correction-end : goal.slice_bounds-correction-end
slice_bounds-correction-end c = omega (arith, few _ _ _ _ _ _ c.check_faces.ensures c.in_default.is)

pub slice_bounds-judge_and_mark-end : goal.slice_bounds-judge_and_mark-end
slice_bounds-judge_and_mark-end c = sym (front _ _ _ _ _ _ c.check_faces.ensures c.in_default.is)

pub judge_and_mark-requires : goal.judge_and_mark-requires
judge_and_mark-requires c = (
  lent _ _ _ _ _ _ c.check_faces.ensures c.in_default.is,
  front _ _ _ _ _ _ c.check_faces.ensures c.in_default.is,
)

pub returns : goal.returns
returns c =
    let all = faces_answered _ _ _ _ _ _ _ (passed _ _ c.check_faces.ensures c.in_default.is) c.judge_and_mark.ensures in
    record { outcome = all.0; sound = all.1 }
