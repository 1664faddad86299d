-- The verdict with faces refuses exactly as the verdict on the torus does, once the side is in range and there is a byte for each face: no
-- other rule of the verdict can be broken on a torus. Assumes nothing.
use Prim.Native.Nat.{ℕ, ◌*◌, ◌%◌}
use mathlib.Core.Path.{◌≡◌, refl, sym, ap₂, ◌∙◌}
use mathlib.Core.Bool.{Bool, true, false, ◌&&◌}
use mathlib.Core.List.{List, [], ◌∷◌}
use mathlib.Core.Option.{none, some}
use native.Mathlib.Omega.{arith}
use borrow.Author.Tests.{eq-eqb, le-leb}
use lib.ListN.{length, length-replicate}
use Rattle.std.proofs.lemmas.Bool.{and_from}
use Rattle.model.specs.declared.refusal.Refusal.TheVariants.{BufferLength}
use Rattle.model.specs.Sums.{or_else}
use Rattle.model.specs.Board.{Sheet, Valid, vertex_limit, edge_limit}
use Rattle.model.specs.Torus.{torus}
use Rattle.model.specs.Refusals.{Test, refusal_of, edges_of, sized, handed_rule, byte_rules, open_rules, bytes_sized, board_sized, plain_rules, faces_sized, torus_byte_rules, faces_refusal, verdict_refusal}
use Rattle.model.specs.FacesOutcomes.{torus_sheet}
use Rattle.model.proofs.RuleLists.{refusal_append}
use Rattle.board.proofs.Failures.{passes_each}
use Rattle.board.proofs.Passing.{valid_ranged, say_open}
use Rattle.board.proofs.Validity.{board_tests, passes_board, plain_tests}
use Rattle.board.proofs.Calls.{handed_sized, verdict_tests}
use Rattle.torus.specs.Sides.{SideWithin}
use Rattle.torus.proofs.Numbering.{square_limit}
use Rattle.torus.proofs.SideRefused.{within_passes}
use Rattle.torus.proofs.TorusRows.{edge_count, end_count}
use Rattle.torus.proofs.TorusValid.{torus_valid}
use Rattle.faces.proofs.BuiltTorus.{torus_unlit}
use Rattle.faces.proofs.FaceTests.{lengths_refuse, lengths_pass}

-- a test that is followed by none
then_none : (t u : Test) → u ≡ none → or_else t u ≡ t
then_none none u p = p
then_none (some n) u p = refl

module _ (L : ℕ) (w : SideWithin L) (syndrome loss handed faces : List ℕ) (faces_sized_lem : length faces ≡ L * L) where
  abbrev X : Sheet
  X = torus_sheet L syndrome loss

  half : edges_of (torus L).ends ≡ 2 * (L * L)
  half = omega (arith, end_count L)

  -- the lengths that are tested
  abbrev others : Bool
  others = bytes_sized X && handed_sized X handed

  fits_alike : faces_sized L syndrome loss handed faces ≡ others
  unfolding torus
  fits_alike =
      rw (eq-eqb (length faces) (L * L) faces_sized_lem, half)
      (go (sized syndrome (L * L)) (sized loss (2 * (L * L))) (sized handed (2 * (L * L))))
    where
      go : (a b c : Bool) → ((a && true) && (b && c)) ≡ ((a && b) && c)
      go true b c = refl
      go false b c = refl

  board_sized_lem : board_sized (torus L) ≡ true
  unfolding torus
  board_sized_lem =
      and_from _ _ (eq-eqb _ _ (edge_count L ∙ sym half)) (eq-eqb _ _ (length-replicate (L * L) 0))

  -- the tests of the open bytes pass
  open_passes : refusal_of (open_rules X) ≡ none
  open_passes = passes_each (open_rules X) (say_open X (torus_valid L w).open_bytes (torus_unlit L _))

  -- the tests up to 8: those of the lengths, and then those of the bytes
  plain_refuses : others ≡ false → refusal_of (plain_rules X (handed_sized X handed)) ≡ some BufferLength
  unfolding torus
  plain_refuses unfit =
      plain_tests X (handed_sized X handed)
      ∙ rw (
        board_tests (torus L) others,
        le-leb 1 (L * L) v.some_vertex,
        le-leb (L * L) vertex_limit v.inside.vertices_limited,
        eq-eqb (length (torus L).ends % 2) 0 (omega (arith, end_count L)),
        le-leb (length (torus L).ends) (2 * edge_limit) (omega (arith, end_count L, square_limit L w.most)),
        board_sized_lem,
        unfit,
      )
    where
      v : Valid (torus L)
      v = torus_valid L w

  plain_passes_on : others ≡ true → refusal_of (plain_rules X (handed_sized X handed)) ≡ refusal_of (byte_rules syndrome loss)
  plain_passes_on fit =
      plain_tests X (handed_sized X handed)
      ∙ rw (passes_board (torus L) others (record { board = valid_ranged (torus L) (torus_valid L w); fit = fit }))

  pub refuses_alike : faces_refusal L syndrome loss handed faces ≡ verdict_refusal X handed
  unfolding faces_refusal
  refuses_alike = within_passes L (torus_byte_rules L syndrome loss handed faces) w ∙ go others refl ∙ sym (verdict_tests X handed)
    where
      go : (t : Bool) → others ≡ t
          → refusal_of (torus_byte_rules L syndrome loss handed faces)
          ≡ or_else (refusal_of (plain_rules X (handed_sized X handed))) (refusal_of (handed_rule handed ∷ open_rules X))
      go false unfit = lengths_refuse L syndrome loss handed faces (fits_alike ∙ unfit) ∙ rw (plain_refuses unfit)
      go true fit =
          lengths_pass L syndrome loss handed faces (fits_alike ∙ fit)
          ∙ ap₂ or_else (sym (plain_passes_on fit))
          (sym (refusal_append (handed_rule handed ∷ []) (open_rules X) ∙ then_none _ _ open_passes))
