-- The distance of the torus of side L is L, for every L from 1 on: the edges of the first kind in row 0 wind, and a winding set has an edge
-- of the first kind in every column or one of the second kind in every row. Assumes nothing.
use Prim.Native.Nat.{ℕ, ◌+◌, ◌*◌, ◌/◌, ◌≤◌, ◌<◌}
use mathlib.Core.Path.{◌≡◌, refl, sym, ap, ◌∙◌}
use mathlib.Core.Bool.{Bool, true, false, ◌&&◌, false≢true}
use mathlib.Core.Option.{some}
use native.Mathlib.Omega.{arith}
use borrow.Author.Tests.{eq-eqb}
use lib.Arith.{digits_lt, digits_div, digits_mod}
use lib.Dec.{eqb}
use Rattle.std.proofs.lemmas.Bool.{true_from_ne_false, and_from}
use Rattle.model.specs.Sums.{Set}
use Rattle.model.specs.Board.{edges}
use Rattle.model.specs.Winding.{winds, size}
use Rattle.model.specs.Distance.{fewest}
use Rattle.model.specs.Torus.{row, column, torus}
use Rattle.model.specs.Faces.{first_kind, second_kind}
use Rattle.model.proofs.SumLaws.{Some}
use Rattle.model.proofs.CountLaws.{one_of_each}
use Rattle.theory.proofs.OddMembers.{odd_found}
use Rattle.theory.proofs.CrossedLines.{line_a, line_b, Closed, Unmarked, crosses_oddly, winds_closed, unmarked_unwound}
use Rattle.theory.proofs.Distances.{Least, least_fewest}
use Rattle.torus.proofs.Edges.{half_even, half_odd}
use Rattle.torus.proofs.TorusRows.{edge_count}
use Rattle.torus.proofs.Columns.{column_law, row_law}
use Rattle.torus.proofs.TorusLoop.{row_loop}

-- the column and the row of the vertex that an edge belongs to
abbrev column_of : ℕ → ℕ → ℕ
column_of L e = column L (e / 2)

abbrev row_of : ℕ → ℕ → ℕ
row_of L e = row L (e / 2)

module _ (L : ℕ) (side : 1 ≤ L) (D : Set) where
  -- a closed set that crosses line A an odd number of times has an edge in every column
  column_edge : Closed (torus L) D → crosses_oddly (torus L) line_a D ≡ true
      → (c : ℕ) → c < L → Some (edges (torus L)) (λ e. D e && eqb (column_of L e) c)
  column_edge shut p c h =
      let x = odd_found L (λ r. D (first_kind (r * L + c))) (column_law L side D shut c h ∙ p) in
      let v = x.at * L + c in
      record {
        at = first_kind v;
        less = omega (arith, edge_count L, digits_lt x.less h);
        holds =
            and_from (D (first_kind v)) (eqb (column_of L (first_kind v)) c) x.holds
            (eq-eqb (column_of L (first_kind v)) c (ap (column L) (half_even v) ∙ digits_mod x.at h));
      }

  -- one that crosses line B an odd number of times has an edge in every row
  row_edge : Closed (torus L) D → crosses_oddly (torus L) line_b D ≡ true
      → (r : ℕ) → r < L → Some (edges (torus L)) (λ e. D e && eqb (row_of L e) r)
  row_edge shut p r h =
      let x = odd_found L (λ c. D (second_kind (r * L + c))) (row_law L side D shut r h ∙ p) in
      let v = r * L + x.at in
      record {
        at = second_kind v;
        less = omega (arith, edge_count L, digits_lt h x.less);
        holds =
            and_from (D (second_kind v)) (eqb (row_of L (second_kind v)) r) x.holds
            (eq-eqb (row_of L (second_kind v)) r (ap (row L) (half_odd v) ∙ digits_div r x.less));
      }

  -- a winding set crosses one of the lines so, and either way it has at least L edges
  winding_size : winds (torus L) D ≡ true → L ≤ size (torus L) D
  winding_size w = go (crosses_oddly (torus L) line_a D) refl
    where
      shut : Closed (torus L) D
      shut = winds_closed (torus L) D w

      unmarked : crosses_oddly (torus L) line_a D ≡ false → crosses_oddly (torus L) line_b D ≡ false → Unmarked (torus L) D
      unmarked p q line_a = p
      unmarked p q line_b = q

      other_line : crosses_oddly (torus L) line_a D ≡ false → crosses_oddly (torus L) line_b D ≡ true
      other_line p = true_from_ne_false _ (λ q. false≢true (sym (unmarked_unwound (torus L) D (unmarked p q)) ∙ w))

      go : (t : Bool) → crosses_oddly (torus L) line_a D ≡ t → L ≤ size (torus L) D
      go true p = one_of_each (edges (torus L)) D (column_of L) L (column_edge shut p)
      go false p = one_of_each (edges (torus L)) D (row_of L) L (row_edge shut (other_line p))

-- L is the fewest edges of a winding loop
pub torus_least : (L : ℕ) → 1 ≤ L → Least (torus L) L
torus_least L side = record { reached = row_loop L side; least = winding_size L side }

pub torus_distance : (L : ℕ) → 1 ≤ L → fewest (torus L) ≡ some L
torus_distance L side = least_fewest (torus L) L (torus_least L side)
