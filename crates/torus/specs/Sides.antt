-- The sides of the tori that are built. Assumes nothing.
use Rattle.std.specs.Prelude.{ℕ, ◌≤◌}
use Rattle.model.specs.Torus.{least_side, largest_side}

-- a torus of side L is built
pub record SideWithin (L : ℕ) : Type 0 where
  pub least : least_side ≤ L
  pub most : L ≤ largest_side
