-- The distance of the planar board of side L is L: the edges along row 0 wind, and a winding set has an edge in each of the L cuts between
-- neighbouring columns. Assumes nothing.
use Prim.Native.Nat.{ℕ, ◌≤◌}
use mathlib.Core.Path.{◌≡◌}
use mathlib.Core.Option.{some}
use native.Mathlib.Omega.{arith}
use Rattle.model.specs.Board.{edges}
use Rattle.model.specs.Distance.{fewest}
use Rattle.model.specs.Planar.{planar}
use Rattle.model.proofs.CountLaws.{one_of_each}
use Rattle.theory.proofs.Distances.{Least, least_fewest}
use Rattle.planar.proofs.ColumnCuts.{column_of, cut_edge_found}
use Rattle.planar.proofs.PlanarLoop.{row_loop}

-- L is the fewest edges of a winding loop
pub planar_least : (L : ℕ) → 2 ≤ L → L ≤ 31 → Least (planar L) L
planar_least L least most =
    record {
      reached = row_loop L (omega arith);
      least = λ D w. one_of_each (edges (planar L)) D (column_of L) L (cut_edge_found L least most D w);
    }

pub planar_distance : (L : ℕ) → 2 ≤ L → L ≤ 31 → fewest (planar L) ≡ some L
planar_distance L least most = least_fewest (planar L) L (planar_least L least most)
