-- Lit vertices while they are being listed. No part of what a reader must believe. Assumes nothing.
use Rattle.std.specs.Prelude.{ℕ, zero, suc, ◌*◌, ◌/◌, cond, List, [], ◌∷◌, ◌++◌}
use Rattle.model.specs.Sums.{members}
use Rattle.model.specs.Words.{bit_of, in_words}

-- the numbers of the set bits among the d lowest of x, where that of bit 0 is `first`
unfoldable pub bits_from : ℕ → ℕ → ℕ → List ℕ
bits_from zero first x = []
bits_from (suc d) first x = cond (bit_of x 0) (first ∷ []) [] ++ bits_from d (suc first) (x / 2)

-- all items of so many words that are set, rising
abbrev pub items_in : ℕ → List ℕ → List ℕ
items_in w words = members (64 * w) (in_words words)
