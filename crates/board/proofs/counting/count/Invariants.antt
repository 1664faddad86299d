-- `board::counting::count` meets its contract. The loop's invariant: `total` counts the places before this one with the value. Assumes
-- nothing.
use Prim.Native.Nat.{ℕ}
use mathlib.Core.Path.{◌≡◌}
use mathlib.Core.List.{List}
use lib.ListN.{get_or}
use lib.Dec.{eqb}
use Rattle.model.specs.Sums.{Set, count_up_to}
use Rattle.board.proofs.counting.count.Given as goal

-- the places with the value
abbrev pub valued : List ℕ → ℕ → Set
valued bytes value i = eqb (get_or bytes i 0) value

abbrev pub invariant-loop-byte : goal.invariant-loop-byte
invariant-loop-byte l = l.total ≡ count_up_to l.byte-index (valued l.bytes l.value)
