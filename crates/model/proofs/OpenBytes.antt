-- A board without open vertices: its open bytes are valid, and none of its vertices is open. Assumes nothing.
use Prim.Native.Nat.{ℕ}
use mathlib.Core.Path.{◌≡◌, ap}
use mathlib.Core.Bool.{false}
use mathlib.Core.List.{List}
use native.Mathlib.Omega.{arith}
use lib.ListN.{replicate, length-replicate}
use lib.Dec.{eqb}
use Rattle.model.specs.Board.{ValidBytes, without_open, is_open}
use Rattle.model.proofs.ListLaws.{zero_everywhere}

pub zeros_valid : (n : ℕ) → ValidBytes n (replicate n 0)
zeros_valid n = record { count = length-replicate n 0; each = λ i h. omega (arith, zero_everywhere n i) }

pub none_open : (n : ℕ) (ends marks : List ℕ) (v : ℕ) → is_open (without_open n ends marks) v ≡ false
none_open n ends marks v = ap (λ x. eqb x 1) (zero_everywhere n v)
