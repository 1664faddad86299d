-- A walk through a word from set bit to set bit, whose vertices go to a list. Assumes nothing.
use Prim.Native.Nat.{ℕ, ◌+◌, ◌-◌, ◌*◌, ◌%◌, ◌^◌, ◌≤◌, ◌<◌}
use mathlib.Core.Path.{◌≡◌, ap, sym, ◌∙◌}
use mathlib.Core.Logic.{◌≢◌}
use mathlib.Core.List.{List, ◌∷◌}
use native.Mathlib.Omega.{arith}
use lib.Count.{count_trailing_zeros}
use lib.ListN.{length, set}
use lib.Pow.{pow-lt}
use Rattle.packed.specs.Listing.{bits_from}
use Rattle.packed.specs.Storing.{Storing}
use Rattle.packed.proofs.BitLists.{Lowest, lowest}
use Rattle.packed.proofs.StoringLaws.{storing_next}

-- What is known where bits are left: the lowest, whose power a shift by its place gives, can be cleared, and the list has room for its
-- vertex and then is on its way as before.
pub record Step (first rest at : ℕ) (all before list : List ℕ) (from power : ℕ) : Type 0 where
  pub there : power ≤ rest
  pub room : at < length list
  pub stored : Storing (bits_from 64 first (rest - power)) all before from (set list at (first + count_trailing_zeros 64 rest)) (at + 1)

pub step : {first rest from at : ℕ} {all before list : List ℕ} → rest ≢ 0 → rest < 2 ^ 64 → from + length all ≤ length list
    → Storing (bits_from 64 first rest) all before from list at
    → Step first rest at all before list from (1 * 2 ^ count_trailing_zeros 64 rest % 2 ^ 64)
step {first} {rest} {from} {at} {all} {before} {list} some below room s =
    record {
      there = omega (arith, power, next.there);
      room = omega (arith, ap length next.then, s.end);
      stored = storing_next (next.then ∙ ap (λ y. (first + t) ∷ bits_from 64 first (rest - y)) (sym power)) s;
    }
  where
    t : ℕ
    t = count_trailing_zeros 64 rest

    next : Lowest 64 first rest t
    next = lowest 64 first rest (omega arith) below

    power : 1 * 2 ^ t % 2 ^ 64 ≡ 2 ^ t
    power = omega (arith, pow-lt next.inside)
