-- The torus of each side that is built is a valid board, that of side 1 with its two loop edges too. Assumes nothing.
use Prim.Native.Nat.{ℕ, ◌*◌, ◌-◌, ◌/◌, ◌%◌, ◌≤◌, ◌<◌}
use mathlib.Core.Bool.{Bool, true, false, cond}
use native.Mathlib.Nat.{mul-le-mul}
use native.Mathlib.Omega.{arith}
use lib.Dec.{eqb}
use Rattle.model.specs.Board.{Valid, edges}
use Rattle.model.specs.Torus.{least_side, row, column, right_of, below, torus_to, torus_mark, torus}
use Rattle.model.proofs.OpenBytes.{zeros_valid}
use Rattle.torus.specs.Sides.{SideWithin}
use Rattle.torus.proofs.Numbering.{right_less, below_less, square_limit}
use Rattle.torus.proofs.TorusRows.{edge_count, end_count, first_is, second_is, mark_is}

-- both cases of a choice have it
either : (P : ℕ → Type 0) (t : Bool) (x y : ℕ) → P x → P y → P (cond t x y)
either P true x y p q = p
either P false x y p q = q

-- the other end of an edge is a vertex; its mark is at most 2
module _ (L e : ℕ) (least : least_side ≤ L) (h : e < 2 * (L * L)) where
  vertex_less : e / 2 < L * L
  vertex_less = omega arith

  pub to_less : torus_to L e < L * L
  to_less =
      either (λ n. n < L * L) (eqb (e % 2) 0) (right_of L (e / 2)) (below L (e / 2))
      (right_less L (e / 2) (omega arith) vertex_less)
      (below_less L (e / 2) (omega arith))

  pub mark_less : torus_mark L e ≤ 3
  mark_less =
      either (λ n. n ≤ 3) (eqb (e % 2) 0) _ _
      (either (λ n. n ≤ 3) (eqb (column L (e / 2)) (L - 1)) 1 0 (omega arith) (omega arith))
      (either (λ n. n ≤ 3) (eqb (row L (e / 2)) (L - 1)) 2 0 (omega arith) (omega arith))

pub torus_valid : (L : ℕ) → SideWithin L → Valid (torus L)
unfolding torus
torus_valid L w =
    record {
      some_vertex = omega (arith, mul-le-mul w.least w.least);
      inside = record {
        vertices_limited = square_limit L w.most;
        edges_limited = omega (arith, edge_count L, square_limit L w.most);
        two_ends = omega (arith, end_count L, edge_count L);
        first_in_range = λ e h. omega (arith, first_is L e (within e h), edge_count L);
        second_in_range = λ e h. rw (second_is L e (within e h)) (to_less L e w.least (within e h));
      };
      mark_in_range = λ e h. rw (mark_is L e (within e h)) (mark_less L e w.least (within e h));
      open_bytes = zeros_valid (L * L);
    }
  where
    within : (e : ℕ) → e < edges (torus L) → e < 2 * (L * L)
    within e h = omega (arith, edge_count L)
