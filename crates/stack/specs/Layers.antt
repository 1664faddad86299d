-- The sides and rounds of the stacks that are built. Assumes nothing.
use Rattle.std.specs.Prelude.{ℕ, ◌≤◌}
use Rattle.model.specs.Board.{vertex_limit}
use Rattle.model.specs.Stack.{stack_vertices}
use Rattle.torus.specs.Sides.{SideWithin}

-- a stack of side L and R layers is built
pub record StackWithin (L R : ℕ) : Type 0 where
  pub side : SideWithin L
  pub some_round : 1 ≤ R
  pub vertices_limited : stack_vertices L R ≤ vertex_limit
