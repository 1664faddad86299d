-- The tests of the verdict with faces after that of the side: 3, then 7 and 8, then 9; and what all of them say where none fails.
-- Assumes nothing.
use Prim.Native.Nat.{ℕ, ◌*◌, ◌≤◌}
use mathlib.Core.Path.{◌≡◌}
use mathlib.Core.Bool.{true, false, ◌&&◌}
use mathlib.Core.List.{List, [], ◌∷◌}
use mathlib.Core.Option.{none, some}
use native.Mathlib.Omega.{arith}
use borrow.Author.Tests.{eqb-true}
use lib.ListN.{length}
use Rattle.model.specs.declared.refusal.Refusal.TheVariants.{BufferLength}
use Rattle.model.specs.Sums.{or_else}
use Rattle.model.specs.Board.{vertex_limit, edge_limit}
use Rattle.model.specs.Refusals.{refusal_of, sized, side_rule, handed_rule, byte_rules, faces_sized, torus_byte_rules, faces_refusal}
use Rattle.model.proofs.Xor.{and_left, and_right}
use Rattle.model.proofs.RuleLists.{unless_passes, refusal_append}
use Rattle.board.proofs.Failures.{each_passes}
use Rattle.board.proofs.Passing.{bytes_say}
use Rattle.torus.specs.Sides.{SideWithin}
use Rattle.torus.proofs.Numbering.{square_limit}
use Rattle.torus.proofs.SideRefused.{passed_within}
use Rattle.faces.specs.Lent.{ForFaces}

module _ (L : ℕ) (syndrome loss handed faces : List ℕ) where
  -- the lengths decide, and then the bytes
  pub lengths_refuse : faces_sized L syndrome loss handed faces ≡ false
      → refusal_of (torus_byte_rules L syndrome loss handed faces) ≡ some BufferLength
  lengths_refuse unfit = rw unfit

  pub lengths_pass : faces_sized L syndrome loss handed faces ≡ true
      → refusal_of (torus_byte_rules L syndrome loss handed faces)
      ≡ or_else (refusal_of (byte_rules syndrome loss)) (refusal_of (handed_rule handed ∷ []))
  lengths_pass fit = rw fit (refusal_append (byte_rules syndrome loss) (handed_rule handed ∷ []))

  -- lengths that fit, one by one
  module _ (fit : faces_sized L syndrome loss handed faces ≡ true) where
    cells_fit : (sized syndrome (L * L) && sized faces (L * L)) ≡ true
    cells_fit = and_left (sized syndrome (L * L) && sized faces (L * L)) _ fit

    sets_fit : (sized loss (2 * (L * L)) && sized handed (2 * (L * L))) ≡ true
    sets_fit = and_right (sized syndrome (L * L) && sized faces (L * L)) _ fit

    syndrome_long : length syndrome ≡ L * L
    syndrome_long = eqb-true _ _ (and_left (sized syndrome (L * L)) _ cells_fit)

    faces_long : length faces ≡ L * L
    faces_long = eqb-true _ _ (and_right (sized syndrome (L * L)) _ cells_fit)

    loss_long : length loss ≡ 2 * (L * L)
    loss_long = eqb-true _ _ (and_left (sized loss (2 * (L * L))) _ sets_fit)

    handed_long : length handed ≡ 2 * (L * L)
    handed_long = eqb-true _ _ (and_right (sized loss (2 * (L * L))) _ sets_fit)

    -- so few that the tests of the bytes can number them
    module _ (w : SideWithin L) where
      pub bytes_allowed : (length syndrome ≤ vertex_limit) × (length loss ≤ edge_limit)
      bytes_allowed = (
        omega (arith, syndrome_long, square_limit L w.most),
        omega (arith, loss_long, square_limit L w.most),
      )

      pub handed_allowed : length handed ≤ edge_limit
      handed_allowed = omega (arith, handed_long, square_limit L w.most)

  -- where nothing fails
  pub faces_passes : faces_refusal L syndrome loss handed faces ≡ none → ForFaces L syndrome loss handed faces
  unfolding faces_refusal
  faces_passes p =
      let e = each_passes (side_rule L ∷ torus_byte_rules L syndrome loss handed faces) p in
      let fit = unless_passes (faces_sized L syndrome loss handed faces) BufferLength e.1.0 in
      record {
        lent = record {
          side = passed_within L e.0;
          syndrome_bytes = bytes_say _ syndrome _ (syndrome_long fit) e.1.1.0;
          loss_bytes = bytes_say _ loss _ (loss_long fit) e.1.1.1.0;
          handed_bytes = bytes_say _ handed _ (handed_long fit) e.1.1.1.1.0;
        };
        faces_sized_lem = faces_long fit;
      }
