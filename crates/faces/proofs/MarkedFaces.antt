-- The answer once all tests are passed: the verdict on the torus, with the faces under same, and otherwise with the bytes as they were.
-- Assumes nothing.
use Prim.Native.Nat.{ℕ, ◌*◌, ◌<◌}
use mathlib.Core.Path.{◌≡◌, refl, sym, ap, ◌∙◌}
use mathlib.Core.List.{List}
use lib.ListN.{length}
use Rattle.model.specs.declared.answers.Verdict.{Verdict}
use Rattle.model.specs.declared.answers.Verdict.TheVariants.{Off, Same, Wound, Refused}
use Rattle.model.specs.Sums.{◌⊕◌, ones, bytes}
use Rattle.model.specs.Board.{ValidBytes, edges}
use Rattle.model.specs.Winding.{together}
use Rattle.model.specs.Decoding.{corrected}
use Rattle.model.specs.Torus.{torus}
use Rattle.model.specs.Faces.{face_bytes}
use Rattle.model.specs.Outcomes.{judged_or_none}
use Rattle.model.specs.FacesOutcomes.{torus_sheet, with_correction, same_or}
use Rattle.model.proofs.ListLaws.{ones_bytes, bytes_valid}
use Rattle.board.proofs.Calls.{passes_verdict}
use Rattle.verdict.specs.Judging.{decoded_or}
use Rattle.verdict.proofs.VerdictAnswers.{passed_verdict}
use Rattle.torus.proofs.TorusRows.{edge_count}
use Rattle.torus.specs.Sides.{SideWithin}
use Rattle.faces.specs.Lent.{ForFaces, Judged, Answered}
use Rattle.faces.proofs.BuiltTorus.{edge_bytes, sheet_valid}
use Rattle.faces.proofs.FaceBytes.{face_bytes_cong}

-- a verdict other than same leaves the bytes
others_leave : {A : Type 0} (r : Verdict) (new old : A) → (r ≡ Same → ⊥) → old ≡ same_or r new old
others_leave (Off v) new old w = refl
others_leave Same new old w = absurd (w refl)
others_leave (Wound x) new old w = refl
others_leave (Refused n) new old w = refl

module _ (L : ℕ) (syndrome loss handed faces : List ℕ) (w : ForFaces L syndrome loss handed faces)
    (correction : List ℕ) (r : Verdict) (correction' : List ℕ) (k : Judged L syndrome loss handed correction r correction') where
  answer_is : r ≡ judged_or_none (torus_sheet L syndrome loss) handed
  answer_is =
      k.judges.result
      ∙ passed_verdict (torus_sheet L syndrome loss) handed
      (passes_verdict (torus_sheet L syndrome loss) handed
      (record { sheet = sheet_valid L syndrome loss handed w.lent; bytes = edge_bytes L handed w.lent.handed_bytes }))

  module _ (same : r ≡ Same) where
    -- the correction stands in its buffer
    written : correction' ≡ bytes (2 * (L * L)) (corrected (torus_sheet L syndrome loss))
    written =
        k.correction_bytes
        ∙ ap (λ v. decoded_or v (bytes (edges (torus L)) (corrected (torus_sheet L syndrome loss))) correction) same
        ∙ ap (λ m. bytes m (corrected (torus_sheet L syndrome loss))) (edge_count L)

    pub markable : SideWithin L × ValidBytes (2 * (L * L)) handed × ValidBytes (2 * (L * L)) correction' × (length faces ≡ L * L)
    markable = (
      w.lent.side,
      w.lent.handed_bytes,
      rw written (bytes_valid (2 * (L * L)) (corrected (torus_sheet L syndrome loss))),
      w.faces_sized_lem,
    )

    pub marked : (faces' : List ℕ) → faces' ≡ face_bytes L (together (ones handed) (ones correction'))
        → Answered L syndrome loss handed faces r faces'
    marked faces' p =
        record {
          result = answer_is;
          faces_filled =
              p
              ∙ face_bytes_cong L (together (ones handed) (ones correction')) (with_correction L syndrome loss handed) alike w.lent.side.least
              ∙ sym (ap (λ v. same_or v (face_bytes L (with_correction L syndrome loss handed)) faces) same);
        }
      where
        alike : (e : ℕ) → e < 2 * (L * L) → together (ones handed) (ones correction') e ≡ with_correction L syndrome loss handed e
        alike e h =
            ap (λ t. ones handed e ⊕ t)
            (ap (λ l. ones l e) written ∙ ones_bytes (2 * (L * L)) (corrected (torus_sheet L syndrome loss)) e h)

  pub unmarked : (r ≡ Same → ⊥) → Answered L syndrome loss handed faces r faces
  unmarked other = record { result = answer_is; faces_filled = others_leave r _ faces other }
