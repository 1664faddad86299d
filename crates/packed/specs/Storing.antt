-- Entries that are stored in a list one after the other. No part of what a reader must believe. Assumes nothing.
use Rattle.std.specs.Prelude.{ℕ, ◌+◌, ◌≡◌, List, length}
use Rattle.std.proofs.lemmas.List.Edits.{sets}

-- The entries `l` were stored in a list from entry `from` on, and `end` is behind the last of them.
pub record Stored (l list : List ℕ) (from : ℕ) (list' : List ℕ) (end : ℕ) : Type 0 where
  pub stored : list' ≡ sets list from l
  pub ended : end ≡ from + length l

-- With the entries that are left, from entry `at` on, the list will be as with all of them from entry `from` on.
pub record Storing (left all list : List ℕ) (from : ℕ) (list' : List ℕ) (at : ℕ) : Type 0 where
  pub will_be : sets list' at left ≡ sets list from all
  pub end : at + length left ≡ from + length all
