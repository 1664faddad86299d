-- The counts of a stack of side L and R layers: they are within the limits of a board. Assumes nothing.
use Prim.Native.Nat.{ℕ, ◌+◌, ◌*◌, ◌-◌, ◌≤◌}
use mathlib.Core.Path.{◌≡◌}
use native.Mathlib.Nat.{mul-le-mul_right, mul_left_comm, add-mul, one-le-mul}
use native.Mathlib.Omega.{arith}
use Rattle.model.specs.Board.{edge_limit}
use Rattle.model.specs.Stack.{layer_vertices, stack_vertices, flat_edges, stack_edges}
use Rattle.torus.specs.Sides.{SideWithin}
use Rattle.stack.specs.Layers.{StackWithin}

-- every layer has a vertex, and twice as many edges as vertices
pub some_cell : (L : ℕ) → SideWithin L → 1 ≤ layer_vertices L
some_cell L w = one-le-mul w.least w.least

pub some_vertex : (L R : ℕ) → StackWithin L R → 1 ≤ layer_vertices L
some_vertex L R w = some_cell L w.side

pub flat_count : (L R : ℕ) → flat_edges L R ≡ 2 * stack_vertices L R
flat_count L R = mul_left_comm R 2 (L * L)

-- the first layer is one of them, and each of the others is reached by as many edges as it has vertices
pub first_layer : (L R : ℕ) → StackWithin L R → layer_vertices L ≤ stack_vertices L R
first_layer L R w = omega (arith, mul-le-mul_right (L * L) w.some_round)

pub upright_count : (L R : ℕ) → StackWithin L R → (R - 1) * layer_vertices L ≡ stack_vertices L R - layer_vertices L
upright_count L R w =
    let split : R ≡ (R - 1) + 1 = omega (arith, w.some_round) in
    omega (arith, add-mul (R - 1) 1 (L * L), ap_rounds split)
  where
    ap_rounds : R ≡ (R - 1) + 1 → R * (L * L) ≡ ((R - 1) + 1) * (L * L)
    ap_rounds q = rw (← q)

pub edge_count : (L R : ℕ) → StackWithin L R → stack_edges L R ≡ 2 * stack_vertices L R + (stack_vertices L R - layer_vertices L)
edge_count L R w = omega (arith, flat_count L R, upright_count L R w)

pub edges_limited : (L R : ℕ) → StackWithin L R → stack_edges L R ≤ edge_limit
edges_limited L R w = omega (arith, edge_count L R w, w.vertices_limited)
