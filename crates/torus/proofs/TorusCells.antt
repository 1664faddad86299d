-- The neighbours of a vertex of the torus to its left and above it, in the column and the row before its own, modulo L. They undo those to
-- its right and below it: v is the right neighbour of i exactly where i is the left neighbour of v. At side 1 a vertex is each of its own
-- neighbours.
-- Assumes nothing.
use Prim.Native.Nat.{ℕ, zero, suc, ◌+◌, ◌*◌, ◌-◌, ◌%◌, ◌≤◌, ◌<◌}
use mathlib.Core.Path.{◌≡◌, sym, ap, ap₂, ◌∙◌}
use native.Mathlib.Nat.{mod-lt, mod_self, mod-eq_of_lt, div-add-mod'}
use native.Mathlib.Numerals.{add-one}
use native.Mathlib.Decide.{dec_lt}
use native.Mathlib.Omega.{arith}
use lib.Arith.{digits_lt}
use lib.Dec.{eqb}
use Rattle.model.specs.Torus.{row, column, right_of, below}
use Rattle.model.proofs.EqualTests.{eqb_alike}
use Rattle.torus.proofs.Numbering.{row_less}
use Rattle.torus.proofs.TorusRows.{row_of, column_of}

-- the number before k modulo L
abbrev pub prev : ℕ → ℕ → ℕ
prev L zero = L - 1
prev L (suc k) = k

abbrev pub left_of : ℕ → ℕ → ℕ
left_of L v = row L v * L + prev L (column L v)

abbrev pub above_of : ℕ → ℕ → ℕ
above_of L v = prev L (row L v) * L + column L v

pub prev_less : (L k : ℕ) → 1 ≤ L → k < L → prev L k < L
prev_less L zero some h = omega arith
prev_less L (suc k) some h = omega arith

-- the next number modulo L undoes the one before, and the reverse
next_prev : (L k : ℕ) → 1 ≤ L → k < L → (prev L k + 1) % L ≡ k
next_prev L zero some h = let whole : L - 1 + 1 ≡ L = omega arith in rw whole (mod_self L)
next_prev L (suc k) some h = rw (add-one k) (mod-eq_of_lt h)

prev_next : (L k : ℕ) → 1 ≤ L → k < L → prev L ((k + 1) % L) ≡ k
prev_next L k some h =
    elim (dec_lt (k + 1) L) [
      | yes l ↦ ap (prev L) (mod-eq_of_lt l ∙ add-one k)
      | no l ↦ let last : k + 1 ≡ L = omega arith in ap (λ n. prev L (n % L)) last ∙ ap (prev L) (mod_self L) ∙ omega arith
    ]

-- the vertex in row r and column c has its left neighbour in column c - 1, and that above it in row r - 1, both modulo L
module _ (L r c : ℕ) (in_row : r < L) (in_column : c < L) where
  pub left_at : left_of L (r * L + c) ≡ r * L + prev L c
  left_at = ap₂ (λ x y. x * L + prev L y) (row_of L r c in_row in_column) (column_of L r c in_row in_column)

  pub above_at : above_of L (r * L + c) ≡ prev L r * L + c
  above_at = ap₂ (λ x y. prev L x * L + y) (row_of L r c in_row in_column) (column_of L r c in_row in_column)

  right_at : right_of L (r * L + c) ≡ r * L + (c + 1) % L
  right_at = ap₂ (λ x y. x * L + (y + 1) % L) (row_of L r c in_row in_column) (column_of L r c in_row in_column)

  below_at : below L (r * L + c) ≡ (r + 1) % L * L + c
  below_at = ap₂ (λ x y. (x + 1) % L * L + y) (row_of L r c in_row in_column) (column_of L r c in_row in_column)

module _ (L v : ℕ) (some : 1 ≤ L) (h : v < L * L) where
  column_less : column L v < L
  column_less = mod-lt v some

  pub left_less : left_of L v < L * L
  left_less = digits_lt (row_less L v some h) (prev_less L (column L v) some column_less)

  pub above_less : above_of L v < L * L
  above_less = digits_lt (prev_less L (row L v) some (row_less L v some h)) column_less

  left_right : left_of L (right_of L v) ≡ v
  left_right =
      left_at L (row L v) ((column L v + 1) % L) (row_less L v some h) (mod-lt (column L v + 1) some)
      ∙ ap (λ x. row L v * L + x) (prev_next L (column L v) some column_less)
      ∙ div-add-mod' v L

  right_left : right_of L (left_of L v) ≡ v
  right_left =
      right_at L (row L v) (prev L (column L v)) (row_less L v some h) (prev_less L (column L v) some column_less)
      ∙ ap (λ x. row L v * L + x) (next_prev L (column L v) some column_less)
      ∙ div-add-mod' v L

  above_below : above_of L (below L v) ≡ v
  above_below =
      above_at L ((row L v + 1) % L) (column L v) (mod-lt (row L v + 1) some) column_less
      ∙ ap (λ x. x * L + column L v) (prev_next L (row L v) some (row_less L v some h))
      ∙ div-add-mod' v L

  below_above : below L (above_of L v) ≡ v
  below_above =
      below_at L (prev L (row L v)) (column L v) (prev_less L (row L v) some (row_less L v some h)) column_less
      ∙ ap (λ x. x * L + column L v) (next_prev L (row L v) some (row_less L v some h))
      ∙ div-add-mod' v L

module _ (L i v : ℕ) (some : 1 ≤ L) (at_i : i < L * L) (at-v : v < L * L) where
  pub right_turned : eqb (right_of L i) v ≡ eqb (left_of L v) i
  right_turned =
      eqb_alike (right_of L i) v (left_of L v) i
      (λ p. ap (left_of L) (sym p) ∙ left_right L i some at_i)
      (λ p. ap (right_of L) (sym p) ∙ right_left L v some at-v)

  pub below_turned : eqb (below L i) v ≡ eqb (above_of L v) i
  below_turned =
      eqb_alike (below L i) v (above_of L v) i
      (λ p. ap (above_of L) (sym p) ∙ above_below L i some at_i)
      (λ p. ap (below L) (sym p) ∙ below_above L v some at-v)
