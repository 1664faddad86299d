-- What the verdict with faces is lent where no test refuses it, and what it answers then. No part of what a reader must believe.
-- Assumes nothing.
use Rattle.std.specs.Prelude.{ℕ, ◌*◌, ◌≡◌, List, length, replicate}
use Rattle.model.specs.declared.answers.Verdict.{Verdict}
use Rattle.model.specs.Sums.{bytes}
use Rattle.model.specs.Board.{ValidBytes, edges}
use Rattle.model.specs.Decoding.{corrected}
use Rattle.model.specs.Torus.{torus}
use Rattle.model.specs.Faces.{face_bytes}
use Rattle.model.specs.Outcomes.{judged_or_none, Judges}
use Rattle.model.specs.FacesOutcomes.{torus_sheet, with_correction, same_or}
use Rattle.verdict.specs.Judging.{decoded_or}
use Rattle.torus.specs.Sides.{SideWithin}

-- a side that is built, with syndrome, loss and a handed-in set for its torus
pub record OnTorus (L : ℕ) (syndrome loss handed : List ℕ) : Type 0 where
  pub side : SideWithin L
  pub syndrome_bytes : ValidBytes (L * L) syndrome
  pub loss_bytes : ValidBytes (2 * (L * L)) loss
  pub handed_bytes : ValidBytes (2 * (L * L)) handed

-- and a buffer for the faces
pub record ForFaces (L : ℕ) (syndrome loss handed faces : List ℕ) : Type 0 where
  pub lent : OnTorus L syndrome loss handed
  pub faces_sized_lem : length faces ≡ L * L

-- the call's own buffers: for the torus, no vertex of which is open, and for decoding
pub record TorusLent (L : ℕ) (ends marks opened support correction : List ℕ) : Type 0 where
  pub ends_sized : length ends ≡ 4 * (L * L)
  pub marks_sized : length marks ≡ 2 * (L * L)
  pub none_open : opened ≡ replicate (L * L) 0
  pub support_sized : length support ≡ 2 * (L * L)
  pub correction_sized : length correction ≡ 2 * (L * L)

-- the verdict on the torus, with the correction in its buffer unless it is refused
pub record Judged (L : ℕ) (syndrome loss handed correction : List ℕ) (r : Verdict) (correction' : List ℕ) : Type 0 where
  pub judges : Judges (torus_sheet L syndrome loss) handed r
  pub correction_bytes : correction' ≡ decoded_or r (bytes (edges (torus L)) (corrected (torus_sheet L syndrome loss))) correction

-- the answer once all tests are passed, and what the face bytes hold then
pub record Answered (L : ℕ) (syndrome loss handed faces : List ℕ) (r : Verdict) (faces' : List ℕ) : Type 0 where
  pub result : r ≡ judged_or_none (torus_sheet L syndrome loss) handed
  pub faces_filled : faces' ≡ same_or r (face_bytes L (with_correction L syndrome loss handed)) faces
