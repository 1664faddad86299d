-- One step up from a vertex in the array, as the loops that climb to a root take it. Assumes nothing.
use Prim.Native.Nat.{ℕ, ◌≤◌, ◌<◌}
use mathlib.Core.Path.{◌≡◌, sym, ap, ◌∙◌}
use mathlib.Core.List.{List}
use native.Mathlib.Omega.{arith}
use Rattle.union_find.specs.Trees.{at, root_of, InTrees}
use Rattle.union_find.specs.Packed.{root_mark, parents_of}
use Rattle.union_find.proofs.Roots.{steps, steps_parent, root_self, root_parent}
use Rattle.union_find.proofs.Packing.{root_here, parent_here, no_root_here}

module _ (t : List ℕ) {v : ℕ} (i : InTrees (parents_of t) v) where
  -- where a size stands, the way up has ended
  pub at_root : root_mark ≤ at t v → v ≡ root_of (parents_of t) v
  at_root h = sym (root_self _ _ (root_here t i.climbs v i.vertex h))

  -- otherwise the parent is nearer to the root, is among the vertices, and has the same root
  pub step_nearer : at t v < root_mark → steps (parents_of t) (at t v) < steps (parents_of t) v
  step_nearer h = omega (
    arith,
    steps_parent i.climbs v i.vertex (no_root_here t i.climbs v i.vertex h),
    ap (steps (parents_of t)) (parent_here t i.climbs v i.vertex h),
  )

  pub step_inside : at t v < root_mark → InTrees (parents_of t) (at t v)
  step_inside h = record {
    count = i.count;
    size = i.size;
    climbs = i.climbs;
    vertex = rw (← parent_here t i.climbs v i.vertex h) (i.climbs.inside v i.vertex);
  }

  pub step_same_root : at t v < root_mark → root_of (parents_of t) (at t v) ≡ root_of (parents_of t) v
  step_same_root h = ap (root_of (parents_of t)) (sym (parent_here t i.climbs v i.vertex h)) ∙ root_parent i.climbs v i.vertex
