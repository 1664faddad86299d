-- The tests 11 and 15 of the stack's builder, in this order, as its code makes them: by the quotient of the vertex limit and a layer's
-- vertices, not by a product that might not fit. Assumes nothing.
use Prim.Native.Nat.{ℕ, ◌/◌, ◌≤◌, ◌<◌}
use mathlib.Core.Path.{◌≡◌, ◌∙◌}
use mathlib.Core.Bool.{◌&&◌}
use mathlib.Core.List.{[], ◌∷◌}
use mathlib.Core.Option.{none, some}
use native.Mathlib.Nat.{div-lt_iff_lt-mul}
use borrow.Author.Tests.{le-leb, lt-leb, leb-true}
use lib.Dec.{leb}
use Rattle.model.specs.declared.refusal.Refusal.TheVariants.{RoundCount}
use Rattle.model.specs.Board.{vertex_limit}
use Rattle.model.specs.Stack.{layer_vertices, stack_vertices}
use Rattle.model.specs.Refusals.{refusal_of, rounds_rule, layer_rules}
use Rattle.model.proofs.Xor.{and_left, and_right}
use Rattle.model.proofs.RuleLists.{unless_passes}
use Rattle.board.proofs.Failures.{each_passes}
use Rattle.torus.specs.Sides.{SideWithin}
use Rattle.torus.proofs.SideRefused.{within_passes, passed_within}
use Rattle.stack.specs.Layers.{StackWithin}
use Rattle.stack.proofs.Numbering.{some_cell}

module _ (L R : ℕ) where
  pub no_round : SideWithin L → R < 1 → refusal_of (layer_rules L R) ≡ some RoundCount
  no_round w h = within_passes L (rounds_rule L R ∷ []) w ∙ rw (lt-leb 1 R h)

  -- the quotient tells whether the product is within the limit
  pub too_many_rounds : SideWithin L → 1 ≤ R → vertex_limit / layer_vertices L < R → refusal_of (layer_rules L R) ≡ some RoundCount
  too_many_rounds w one h =
      within_passes L (rounds_rule L R ∷ []) w
      ∙ rw (le-leb 1 R one, lt-leb (stack_vertices L R) vertex_limit ((div-lt_iff_lt-mul (some_cell L w)).0 h))

  pub passed_layers : refusal_of (layer_rules L R) ≡ none → StackWithin L R
  passed_layers p =
      let e = each_passes (layer_rules L R) p in
      let rounds = unless_passes (leb 1 R && leb (stack_vertices L R) vertex_limit) RoundCount e.1.0 in
      record {
        side = passed_within L e.0;
        some_round = leb-true 1 R (and_left (leb 1 R) (leb (stack_vertices L R) vertex_limit) rounds);
        vertices_limited = leb-true (stack_vertices L R) vertex_limit (and_right (leb 1 R) (leb (stack_vertices L R) vertex_limit) rounds);
      }
