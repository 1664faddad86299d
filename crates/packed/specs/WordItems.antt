-- How many of n items word w has. No part of what a reader must believe. Assumes nothing.
use Rattle.std.specs.Prelude.{ℕ, ◌+◌, ◌*◌, ◌≤◌, ◌<◌, ◌≡◌}

pub record WordItems (n w count : ℕ) : Type 0 where
  pub few : count ≤ 64
  pub within : 64 * w + count ≤ n
  pub last : count < 64 → 64 * w + count ≡ n
