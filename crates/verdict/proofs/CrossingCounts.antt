-- Parities of crossings, edge by edge. Assumes nothing.
use Prim.Native.Nat.{ℕ, ◌+◌, ◌≤◌}
use mathlib.Core.Path.{◌≡◌, refl, ap, ◌∙◌}
use mathlib.Core.Bool.{◌&&◌}
use mathlib.Core.List.{List}
use native.Mathlib.Numerals.{add-one}
use native.Mathlib.Omega.{arith}
use lib.Dec.{eqb}
use Rattle.model.specs.Sums.{Set, ◌⊕◌, bit, odd_up_to}
use Rattle.model.proofs.Bits.{bit_bound, eqb_bit}
use Rattle.verdict.specs.CrossingParities.{on_line_a, on_line_b, crossed}

-- the parity of D's edges below e that cross a line
pub record Parity (line D : Set) (p e : ℕ) : Type 0 where
  pub at : p ≡ bit (crossed line D e)
  pub small : p ≤ 1

pub no_parity : (line D : Set) → Parity line D 0 0
unfolding odd_up_to
no_parity line D = record { at = refl; small = omega arith }

-- one edge more
pub next_parity : (line D : Set) {p r e : ℕ} → Parity line D p e → r ≡ bit (eqb p 1 ⊕ (D e && line e)) → Parity line D r (e + 1)
unfolding odd_up_to
next_parity line D {p} {r} {e} w q =
    record {
      at = q ∙ rw (add-one, w.at) (ap (λ t. bit (t ⊕ (D e && line e))) (eqb_bit (crossed line D e)));
      small = rw q (bit_bound (eqb p 1 ⊕ (D e && line e)));
    }

-- both parities after the edges below e
pub record Counted (marks : List ℕ) (D : Set) (a b e : ℕ) : Type 0 where
  pub line_a : Parity (on_line_a marks) D a e
  pub line_b : Parity (on_line_b marks) D b e
