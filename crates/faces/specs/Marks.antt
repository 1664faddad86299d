-- The marks of faces while they are being filled in. No part of what a reader must believe. Assumes nothing.
use Rattle.std.specs.Prelude.{ℕ, ◌*◌, ◌<◌, ◌≡◌, List, length}
use Rattle.model.specs.Sums.{bit, ones}
use Rattle.model.specs.Board.{ValidBytes}
use Rattle.model.specs.Winding.{together}
use Rattle.model.specs.Faces.{face_of}
use Rattle.torus.specs.Filling.{Filled}
use Rattle.torus.specs.Sides.{SideWithin}

-- two sets of edges of the torus, and the marks of all faces before face i, which is not face 0
pub record MarkedBefore (L : ℕ) (handed correction faces : List ℕ) (i : ℕ) : Type 0 where
  pub side : SideWithin L
  pub handed_bytes : ValidBytes (2 * (L * L)) handed
  pub correction_bytes : ValidBytes (2 * (L * L)) correction
  pub sized : length faces ≡ L * L
  pub later : 0 < i
  pub inside : i < L * L
  pub marks : Filled (λ k. bit (face_of L (together (ones handed) (ones correction)) k)) i faces
