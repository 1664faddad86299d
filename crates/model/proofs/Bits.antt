-- Bytes that are 0 or 1, as truth values. Assumes nothing.
use Prim.Native.Nat.{ℕ, ◌-◌, ◌≤◌}
use mathlib.Core.Path.{◌≡◌, refl}
use mathlib.Core.Bool.{Bool, true, false}
use native.Mathlib.Nat.{le_refl}
use native.Mathlib.Omega.{arith}
use borrow.Author.Tests.{eqb-true, eqb-false}
use lib.Bits.{bit_xor}
use lib.Dec.{eqb}
use Rattle.model.specs.Sums.{◌⊕◌, bit}

pub bit_bound : (b : Bool) → bit b ≤ 1
bit_bound true = le_refl _
bit_bound false = omega arith

pub eqb_bit : (b : Bool) → eqb (bit b) 1 ≡ b
eqb_bit true = refl
eqb_bit false = refl

-- a byte that is 0 or 1 is that of its test
pub byte_bit : (x : ℕ) → x ≤ 1 → x ≡ bit (eqb x 1)
byte_bit x h = go (eqb x 1) refl
  where
    go : (t : Bool) → eqb x 1 ≡ t → x ≡ bit t
    go true p = eqb-true x 1 p
    go false p = let q = eqb-false x 1 p in omega arith

pub bit_flip : (b : Bool) → 1 - bit b ≡ bit (b ⊕ true)
bit_flip true = refl
bit_flip false = refl

-- the exclusive or of two bytes that are 0 or 1
pub xor_bit : (a b : Bool) → bit_xor (bit a) (bit b) ≡ bit (a ⊕ b)
xor_bit true true = refl
xor_bit true false = refl
xor_bit false true = refl
xor_bit false false = refl
