-- Roots of vertices are vertices. Assumes nothing.
use Prim.Native.Nat.{ℕ, ◌<◌}
use mathlib.Core.Path.{◌≡◌}
use mathlib.Core.List.{List}
use native.Mathlib.Omega.{arith}
use Rattle.model.specs.Board.{vertex_limit}
use Rattle.union_find.specs.Trees.{root_of, Rooted}
use Rattle.union_find.proofs.Roots.{root_inside}

-- so an array of the limit's length has an entry for each
pub root_limited : {n v r : ℕ} {parent : List ℕ} → Rooted n parent → v < n → r ≡ root_of parent v → r < vertex_limit
root_limited {n} {v} w h q = omega (arith, root_inside w.climbs v h, w.climbs.limit)
