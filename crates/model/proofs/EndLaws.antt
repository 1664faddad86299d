-- Laws of ends within a board: every end, by its place in the list; and the limit in place of the vertex count. Assumes nothing.
use Prim.Native.Nat.{ℕ, ◌+◌, ◌*◌, ◌/◌, ◌<◌}
use mathlib.Core.Path.{◌≡◌, ap}
use mathlib.Core.List.{List}
use native.Mathlib.Nat.{le_refl}
use native.Mathlib.Decide.{ℕ_discrete}
use native.Mathlib.Omega.{arith}
use lib.ListN.{length, get_or}
use Rattle.model.specs.Board.{EndsWithin, vertex_limit}

-- end i, of edge i / 2, is a vertex
pub end_in_range : {n m : ℕ} {ends : List ℕ} → EndsWithin n m ends → (i : ℕ) → i < length ends → get_or ends i 0 < n
end_in_range {n} {m} {ends} w i h =
    elim (ℕ_discrete (2 * (i / 2)) i) [
      | yes q ↦ omega (arith, ap (λ k. get_or ends k 0) q, w.first_in_range (i / 2) (omega (arith, w.two_ends)))
      | no q ↦
          let r : 2 * (i / 2) + 1 ≡ i = omega arith in
          omega (arith, ap (λ k. get_or ends k 0) r, w.second_in_range (i / 2) (omega (arith, w.two_ends)))
    ]

pub within_limit : {n m : ℕ} {ends : List ℕ} → EndsWithin n m ends → EndsWithin vertex_limit m ends
within_limit w =
    record {
      vertices_limited = le_refl _;
      edges_limited = w.edges_limited;
      two_ends = w.two_ends;
      first_in_range = λ e h. omega (arith, w.first_in_range e h, w.vertices_limited);
      second_in_range = λ e h. omega (arith, w.second_in_range e h, w.vertices_limited);
    }
