-- The planar board of each side that is built is a valid board. Assumes nothing.
use Prim.Native.Nat.{ℕ, ◌+◌, ◌%◌, ◌≤◌, ◌<◌}
use mathlib.Core.Bool.{◌&&◌, ◌||◌}
use native.Mathlib.Nat.{mul-le-mul}
use native.Mathlib.Omega.{arith}
use lib.Dec.{eqb}
use Rattle.model.specs.Board.{Valid, edges}
use Rattle.model.specs.Planar.{planar_vertices, planar_edges, along_row, planar_mark, planar_open, planar}
use Rattle.model.proofs.Bits.{bit_bound}
use Rattle.planar.proofs.Numbering.{vertices_limit, edges_limit}
use Rattle.planar.proofs.Edges.{from_less, to_less}
use Rattle.planar.proofs.PlanarRows.{edge_count, end_count, open_count, first_is, second_is, mark_is, open_is}

pub planar_valid : (L : ℕ) → 2 ≤ L → L ≤ 31 → Valid (planar L)
unfolding planar
planar_valid L least most =
    record {
      some_vertex = some;
      inside = record {
        vertices_limited = vertices_limit L most;
        edges_limited = omega (arith, edge_count L, edges_limit L most);
        two_ends = omega (arith, end_count L, edge_count L);
        first_in_range = λ e h. omega (arith, first_is L e (within e h), from_less L e least (within e h));
        second_in_range = λ e h. omega (arith, second_is L e (within e h), to_less L e least (within e h));
      };
      mark_in_range = λ e h. omega (arith, mark_is L e (within e h), mark_less e);
      open_bytes = record { count = open_count L; each = λ v h. omega (arith, open_is L v h, open_less v) };
    }
  where
    some : 1 ≤ planar_vertices L
    some = omega (arith, mul-le-mul least least)

    mark_less : (e : ℕ) → planar_mark L e ≤ 1
    mark_less e = bit_bound (along_row L e && eqb (e % L) 0)

    open_less : (v : ℕ) → planar_open L v ≤ 1
    open_less v = bit_bound (eqb (v % (L + 1)) 0 || eqb (v % (L + 1)) L)

    within : (e : ℕ) → e < edges (planar L) → e < planar_edges L
    within e h = omega (arith, edge_count L)
