-- The bytes of the table, one after the other. Assumes nothing.
use Prim.Native.Nat.{ℕ, ◌+◌, ◌-◌, ◌^◌, ◌≤◌, ◌<◌}
use mathlib.Core.Path.{◌≡◌, refl, sym, ap, ◌∙◌}
use mathlib.Core.Bool.{Bool, true, false, ◌&&◌}
use mathlib.Core.List.{List}
use native.Mathlib.Omega.{arith}
use lib.ListN.{set, length-set}
use lib.Dec.{eqb}
use lib.Pow.{pow_mono, pow_pos}
use lib.Seq.{get_or-set_same, get_or-set_other}
use Rattle.model.specs.Sums.{bit, ones, some_up_to}
use Rattle.model.specs.Board.{Board, edges}
use Rattle.model.specs.Winding.{winds}
use Rattle.model.specs.Words.{bit_of}
use Rattle.model.specs.Game.{holds_loop}
use Rattle.model.specs.Refusals.{game_limit}
use Rattle.model.proofs.Bits.{eqb_bit}
use Rattle.model.proofs.SumLaws.{below_suc, some_cong}
use Rattle.game.specs.Searching.{set_limit}
use Rattle.game.specs.LoopTable.{Filled}
use Rattle.game.proofs.MaskLaws.{power_within}
use Rattle.game.proofs.HeldLoops.{holds_less, holds_less_lem, holds_whole}

-- every mask has a byte
pub set_inside : (m x : ℕ) → m ≤ game_limit → x < 2 ^ m → x < set_limit
set_inside m x few h = let all : 2 ^ m ≤ 2 ^ 10 = pow_mono {i = m} {j = 10} few in omega arith

pub filled_more : {B : Board} {x b : ℕ} {loops : List ℕ} → b ≡ bit (holds_loop B (bit_of x)) → x < set_limit → Filled B x loops
    → Filled B (x + 1) (set loops x b)
filled_more {B} {x} {b} {loops} is room f =
    record {
      long = length-set loops x b ∙ f.long;
      at = λ i h. below_suc x i (omega arith)
          (λ less. get_or-set_other loops x i b 0 (λ q. omega arith) ∙ f.at i less)
          (λ last. rw last (get_or-set_same loops x b 0 (omega (arith, f.long)) ∙ is));
    }

-- the bytes of the masks with an edge less say whether such a set contains a loop
module _ (B : Board) (x : ℕ) (within : x < 2 ^ edges B) {loops : List ℕ} (f : Filled B x loops) where
  less_byte : (e : ℕ) (t : Bool) → bit_of x e ≡ t → (t && ones loops (x - 2 ^ e)) ≡ (t && holds_loop B (bit_of (x - 2 ^ e)))
  less_byte e true p =
      ap (λ y. eqb y 1) (f.at (x - 2 ^ e) (omega (arith, power_within x e p, pow_pos e))) ∙ eqb_bit (holds_loop B (bit_of (x - 2 ^ e)))
  less_byte e false p = refl

  less_bytes : some_up_to (edges B) (λ e. bit_of x e && ones loops (x - 2 ^ e)) ≡ holds_less B x
  less_bytes = some_cong (edges B) _ _ (λ e h. less_byte e (bit_of x e) refl)

  pub looped_less : some_up_to (edges B) (λ e. bit_of x e && ones loops (x - 2 ^ e)) ≡ true → true ≡ holds_loop B (bit_of x)
  looped_less p = sym (holds_less_lem B x within (sym less_bytes ∙ p))

  pub looped_whole : (r : Bool) → some_up_to (edges B) (λ e. bit_of x e && ones loops (x - 2 ^ e)) ≡ false → r ≡ winds B (bit_of x)
      → r ≡ holds_loop B (bit_of x)
  looped_whole r p q = q ∙ sym (holds_whole B x within (sym less_bytes ∙ p))
