-- What a buffer holds whose front was copied from another. Assumes nothing.
use Prim.Native.Nat.{ℕ}
use mathlib.Core.List.{List, ◌++◌}
use lib.ListN.{take, drop}

-- s's first n entries, and d's others
abbrev pub copied : List ℕ → List ℕ → ℕ → List ℕ
copied s d n = take n s ++ drop n d
