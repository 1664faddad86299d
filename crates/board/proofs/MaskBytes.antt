-- The items of a mask as bytes, stored one after the other. Assumes nothing.
use Prim.Native.Nat.{ℕ, ◌<◌}
use mathlib.Core.Path.{◌≡◌, refl}
use mathlib.Core.Bool.{Bool, true, false}
use mathlib.Core.List.{List}
use native.Mathlib.Omega.{arith}
use lib.ListN.{length, get_or}
use mir.Val.{bool_byte}
use Rattle.model.specs.Sums.{bit, bytes}
use Rattle.model.specs.Words.{bit_of}
use Rattle.model.proofs.ListLaws.{values_are}

-- a truth value cast to a number
pub cast_bit : (b : Bool) → bool_byte b ≡ bit b
cast_bit true = refl
cast_bit false = refl

-- n bytes, of which the first k are those of a mask's items
pub record SpreadTo (mask n k : ℕ) (l : List ℕ) : Type 0 where
  pub long : length l ≡ n
  pub at : (i : ℕ) → i < k → get_or l i 0 ≡ bit (bit_of mask i)

-- all items are spread
pub spread_all : {mask n i : ℕ} {l : List ℕ} → i ≡ n → SpreadTo mask n i l → l ≡ bytes n (bit_of mask)
spread_all {mask} {n} {i} {l} all s = values_are n (λ i. bit (bit_of mask i)) l s.long (λ j h. s.at j (omega arith))
