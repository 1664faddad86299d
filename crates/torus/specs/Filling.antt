-- A list that is being filled from the front with a function's values. Assumes nothing.
use Rattle.std.specs.Prelude.{ℕ, ◌<◌, ◌≡◌, List, get_or}

-- the first n places hold f's values
pub record Filled (f : ℕ → ℕ) (n : ℕ) (l : List ℕ) : Type 0 where
  pub at : (k : ℕ) → k < n → get_or l k 0 ≡ f k
