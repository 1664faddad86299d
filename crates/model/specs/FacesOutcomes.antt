-- Document 02, K9: the outcome of the verdict with faces, and what may be relied on of the faces that it writes.
-- Assumes nothing.
use Rattle.std.specs.Prelude.{ℕ, ◌*◌, ◌≤◌, ◌≡◌, List, length, get_or}
use Rattle.model.specs.declared.refusal.Refusal.{Refusal}
use Rattle.model.specs.declared.answers.Verdict.{Verdict}
use Rattle.model.specs.declared.answers.Verdict.TheVariants.{Off, Same, Wound, Refused}
use Rattle.model.specs.Sums.{Set, ones}
use Rattle.model.specs.Board.{Sheet, sheet_of}
use Rattle.model.specs.Winding.{together}
use Rattle.model.specs.Decoding.{corrected}
use Rattle.model.specs.Torus.{least_side, largest_side, torus}
use Rattle.model.specs.Faces.{MakesUp, face_bytes}
use Rattle.model.specs.Refusals.{faces_refusal}
use Rattle.model.specs.Outcomes.{answer, judged_or_none, Judges, JudgesSoundly}

-- what is lent beside a side: the sheet of that torus
abbrev pub torus_sheet : ℕ → List ℕ → List ℕ → Sheet
torus_sheet L syndrome loss = sheet_of (torus L) syndrome loss

-- The answer: a refusal of the call's own tests, or what the verdict answers on the torus once its tests are passed.
unfoldable pub faces_answer : ℕ → List ℕ → List ℕ → List ℕ → List ℕ → Verdict
faces_answer L syndrome loss handed faces =
    answer (faces_refusal L syndrome loss handed faces) Refused (judged_or_none (torus_sheet L syndrome loss) handed)

-- what the faces are to make up: the handed-in set and the correction together
abbrev pub with_correction : ℕ → List ℕ → List ℕ → List ℕ → Set
with_correction L syndrome loss handed = together (ones handed) (corrected (torus_sheet L syndrome loss))

-- what the face bytes hold afterwards: under same the new ones; off, wound and refusals leave them
abbrev pub same_or : {A : Type 0} → Verdict → A → A → A
same_or (Off v) new old = old
same_or Same new old = new
same_or (Wound x) new old = old
same_or (Refused n) new old = old

pub record ShowsFaces (L : ℕ) (syndrome loss handed faces : List ℕ) (r : Verdict) (faces' : List ℕ) : Type 0 where
  pub result : r ≡ faces_answer L syndrome loss handed faces
  pub faces_filled : faces' ≡ same_or r (face_bytes L (with_correction L syndrome loss handed)) faces

-- What a group may rely on. Where the side is in range and there is a byte for each face, the answer is the verdict's on that torus, and as
-- sound as that. Under same the faces written make up the two sets together, and face 0 is not one of them; and where any faces make them
-- up the answer is same, if nothing is refused: off and wound have no such evidence.
pub record FacesSoundly (L : ℕ) (syndrome loss handed faces : List ℕ) (r : Verdict) (faces' : List ℕ) : Type 0 where
  pub as_verdict : least_side ≤ L → L ≤ largest_side → length faces ≡ L * L → Judges (torus_sheet L syndrome loss) handed r
  pub sound : least_side ≤ L → L ≤ largest_side → length faces ≡ L * L → JudgesSoundly (torus_sheet L syndrome loss) handed r
  pub made_up : r ≡ Same → MakesUp L (ones faces') (with_correction L syndrome loss handed)
  pub without_0 : r ≡ Same → get_or faces' 0 1 ≡ 0
  pub only_same : (f : Set) → MakesUp L f (with_correction L syndrome loss handed) → ((n : Refusal) → r ≡ Refused n → ⊥) → r ≡ Same
