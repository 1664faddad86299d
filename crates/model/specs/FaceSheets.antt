-- Document 02, K9: faces by hand on the tori of sides 1 to 3, and two verdicts with faces. Gathered as one list, each proved by
-- computation.
-- Assumes nothing.
use Rattle.std.specs.Prelude.{ℕ, ◌*◌, ◌≡◌, refl, List, [], ◌∷◌}
use Rattle.model.specs.declared.answers.Verdict.TheVariants.{Same, Wound}
use Rattle.model.specs.Sums.{odd_up_to, count_up_to, some_up_to, first_up_to, values, bytes, members}
use Rattle.model.specs.Syndrome.{odd_end, syndrome}
use Rattle.model.specs.Winding.{crossings, winds}
use Rattle.model.specs.Components.{labels_up_to, labels}
use Rattle.model.specs.Growth.{start, clusters, oddly_lit, holds_open, odd, exposed, boundary, choice_up_to, choice, swell, weighted, grow_from, grown}
use Rattle.model.specs.Forest.{taken_up_to, forest}
use Rattle.model.specs.Correction.{odd_side, spanned, odd_ends, correction}
use Rattle.model.specs.Decoding.{parts, in_odd_part, smallest_odd, grown_by, peeled}
use Rattle.model.specs.Verdict.{differs, judged}
use Rattle.model.specs.Torus.{torus_ends, torus_marks, torus}
use Rattle.model.specs.Faces.{face_sum, face_at, face_bytes}
use Rattle.model.specs.Refusals.{faces_rules, faces_refusal}
use Rattle.model.specs.Outcomes.{judged_or_none}
use Rattle.model.specs.FacesOutcomes.{with_correction, faces_answer}
use Rattle.model.specs.MarkedSheets.{set_of}

-- the edges of the faces of a list, on the torus of side L
abbrev pub made_up : ℕ → List ℕ → List ℕ
made_up L faces = members (2 * (L * L)) (face_sum L (set_of faces))

-- bytes of the torus of side 3: the syndrome {0, 1}, and sets of edges
abbrev pub lit : List ℕ
lit = bytes 9 (set_of (0 ∷ 1 ∷ []))

abbrev pub edge_bytes : List ℕ → List ℕ
edge_bytes l = bytes 18 (set_of l)

pub record FaceSheets : Type 0 where
  -- the one face of side 1 has each of its two edges twice
  pub side_1 : made_up 1 (0 ∷ []) ≡ []
  -- on side 2 the faces 0 and 1 share the edges 1 and 3; on side 3 a face has four edges, and all faces together have none
  pub side_2 : made_up 2 (0 ∷ 1 ∷ []) ≡ 0 ∷ 2 ∷ 4 ∷ 6 ∷ []
  pub corner : made_up 3 (0 ∷ []) ≡ 0 ∷ 1 ∷ 3 ∷ 6 ∷ []
  pub last : made_up 3 (8 ∷ []) ≡ 4 ∷ 13 ∷ 16 ∷ 17 ∷ []
  pub all : made_up 3 (0 ∷ 1 ∷ 2 ∷ 3 ∷ 4 ∷ 5 ∷ 6 ∷ 7 ∷ 8 ∷ []) ≡ []
  -- the edges of face 8 come back as face 8; those of face 0, as all faces but this one
  pub last_back : face_bytes 3 (set_of (4 ∷ 13 ∷ 16 ∷ 17 ∷ [])) ≡ 0 ∷ 0 ∷ 0 ∷ 0 ∷ 0 ∷ 0 ∷ 0 ∷ 0 ∷ 1 ∷ []
  pub corner_back : face_bytes 3 (set_of (0 ∷ 1 ∷ 3 ∷ 6 ∷ [])) ≡ 0 ∷ 1 ∷ 1 ∷ 1 ∷ 1 ∷ 1 ∷ 1 ∷ 1 ∷ 1 ∷ []
  -- sheet m6 has the correction {0}. The set {1, 3, 6} goes round face 0 the other way: same, by all faces but this one.
  pub round_a_face : faces_answer 3 lit (edge_bytes []) (edge_bytes (1 ∷ 3 ∷ 6 ∷ [])) (bytes 9 (set_of [])) ≡ Same
  pub its_faces :
      face_bytes 3 (with_correction 3 lit (edge_bytes []) (edge_bytes (1 ∷ 3 ∷ 6 ∷ []))) ≡ 0 ∷ 1 ∷ 1 ∷ 1 ∷ 1 ∷ 1 ∷ 1 ∷ 1 ∷ 1 ∷ []
  -- The set {2, 4} goes round the torus the other way: wound.
  pub round_the_torus : faces_answer 3 lit (edge_bytes []) (edge_bytes (2 ∷ 4 ∷ [])) (bytes 9 (set_of [])) ≡ Wound 1

pub face_sheets : FaceSheets
unfolding members set_of odd_up_to count_up_to some_up_to first_up_to values odd_end syndrome crossings winds labels_up_to labels start clusters oddly_lit holds_open odd exposed boundary choice_up_to choice swell weighted grow_from grown taken_up_to forest odd_side spanned odd_ends correction parts in_odd_part smallest_odd grown_by peeled differs judged torus_ends torus_marks torus face_sum face_at face_bytes faces_rules faces_refusal judged_or_none faces_answer
face_sheets =
    record {
      side_1 = refl;
      side_2 = refl;
      corner = refl;
      last = refl;
      all = refl;
      last_back = refl;
      corner_back = refl;
      round_a_face = refl;
      its_faces = refl;
      round_the_torus = refl;
    }
