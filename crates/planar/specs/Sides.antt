-- The sides of the planar boards that are built. Assumes nothing.
use Rattle.std.specs.Prelude.{ℕ, ◌≤◌}
use Rattle.model.specs.Planar.{least_planar, largest_planar}

-- a planar board of side L is built
pub record SideWithin (L : ℕ) : Type 0 where
  pub least : least_planar ≤ L
  pub most : L ≤ largest_planar
