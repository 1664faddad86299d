-- Upper bounds of what is lent, which the passes without a branch find. An internal notion, and no part of what a reader of the product's
-- contracts must believe. Assumes nothing.
use Rattle.std.specs.Prelude.{ℕ, ◌≤◌, ◌<◌, min, List, get_or}

-- no value of f below n is above top
pub record Bounded (n : ℕ) (f : ℕ → ℕ) (top : ℕ) : Type 0 where
  pub within : (i : ℕ) → i < n → f i ≤ top

-- what is bounded: the entries of a list, and place by place the lesser of two lists' entries
abbrev pub entry : List ℕ → ℕ → ℕ
entry l i = get_or l i 0

abbrev pub lesser : List ℕ → List ℕ → ℕ → ℕ
lesser l m i = min (entry l i) (entry m i)
