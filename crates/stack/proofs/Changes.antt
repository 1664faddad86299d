-- The syndrome byte of a stacked vertex, from valid reading bytes: that of its reading in layer 0, and above it the exclusive or of two.
-- Assumes nothing.
use Prim.Native.Nat.{ℕ, zero, suc, ◌+◌, ◌*◌, ◌-◌, ◌/◌, ◌%◌, ◌≤◌, ◌<◌}
use mathlib.Core.Path.{◌≡◌, refl, ap, ap₂, ◌∙◌}
use mathlib.Core.List.{List}
use native.Mathlib.Nat.{div-eq_of_lt, mod-eq_of_lt, div-add-mod', le-div_iff_mul-le, suc-mul}
use native.Mathlib.Omega.{arith}
use lib.Bits.{bit_xor}
use lib.ListN.{get_or}
use Rattle.model.specs.Sums.{◌⊕◌, bit, ones}
use Rattle.model.specs.Board.{ValidBytes}
use Rattle.model.specs.Stack.{layer_vertices, layer_syndrome}
use Rattle.model.proofs.Bits.{byte_bit, xor_bit}

module _ (L m u : ℕ) (readings : List ℕ) (valid : ValidBytes m readings) (h : u < m) where
  pub first_layer_byte : u < layer_vertices L → get_or readings u 0 ≡ bit (layer_syndrome L readings (u / layer_vertices L) (u % layer_vertices L))
  first_layer_byte low =
      let same : 0 * layer_vertices L + u ≡ u = omega arith in
      rw (div-eq_of_lt low, mod-eq_of_lt low, same) (byte_bit (get_or readings u 0) (valid.each u h))

  pub later_layer_byte : 1 ≤ layer_vertices L → layer_vertices L ≤ u
      → bit_xor (get_or readings u 0) (get_or readings (u - layer_vertices L) 0)
      ≡ bit (layer_syndrome L readings (u / layer_vertices L) (u % layer_vertices L))
  later_layer_byte some high = go (u / layer_vertices L) refl
    where
      both : bit_xor (get_or readings u 0) (get_or readings (u - layer_vertices L) 0) ≡ bit (ones readings u ⊕ ones readings (u - layer_vertices L))
      both =
          ap₂ bit_xor (byte_bit (get_or readings u 0) (valid.each u h))
          (byte_bit (get_or readings (u - layer_vertices L) 0) (valid.each (u - layer_vertices L) (omega arith)))
          ∙ xor_bit (ones readings u) (ones readings (u - layer_vertices L))

      go : (k : ℕ) → u / layer_vertices L ≡ k
          → bit_xor (get_or readings u 0) (get_or readings (u - layer_vertices L) 0) ≡ bit (layer_syndrome L readings k (u % layer_vertices L))
      go zero p = absurd (none ((le-div_iff_mul-le {k = layer_vertices L} {x = 1} {y = u} some).1 (omega arith)))
        where
          none : 1 ≤ u / layer_vertices L → ⊥
          none q = omega arith
      go (suc k) p =
          let here : suc k * layer_vertices L + u % layer_vertices L ≡ u =
          ap (λ j. j * layer_vertices L + u % layer_vertices L) {x = suc k} {y = u / layer_vertices L} (omega arith) ∙ div-add-mod' u (layer_vertices L) in
          let before : k * layer_vertices L + u % layer_vertices L ≡ u - layer_vertices L = omega (arith, suc-mul k (layer_vertices L), here) in
          rw (here, before) both
