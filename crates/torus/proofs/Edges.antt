-- The torus edge by edge: edges 2v and 2v + 1 belong to vertex v. Assumes nothing.
use Prim.Native.Nat.{ℕ, ◌+◌, ◌*◌, ◌-◌, ◌/◌, ◌%◌}
use mathlib.Core.Path.{◌≡◌}
use mathlib.Core.Bool.{true, false, cond}
use native.Mathlib.Omega.{arith}
use borrow.Author.Tests.{eq-eqb, ne_eqb}
use lib.Dec.{eqb}
use Rattle.model.specs.Torus.{row, column, right_of, below, torus_from, torus_to, torus_mark, torus_end}

-- the halves of an even and of an odd number
pub half_even : (n : ℕ) → 2 * n / 2 ≡ n
half_even n = omega arith

pub half_odd : (n : ℕ) → (2 * n + 1) / 2 ≡ n
half_odd n = omega arith

pub even : (n : ℕ) → eqb (2 * n % 2) 0 ≡ true
even n = eq-eqb (2 * n % 2) 0 (omega arith)

pub odd : (n : ℕ) → eqb ((2 * n + 1) % 2) 0 ≡ false
odd n = ne_eqb ((2 * n + 1) % 2) 0 (λ q. omega arith)

pub first_end_lem : (L e : ℕ) → torus_end L (2 * e) ≡ torus_from e
first_end_lem L e = rw (even e, half_even e)

pub second_end_lem : (L e : ℕ) → torus_end L (2 * e + 1) ≡ torus_to L e
second_end_lem L e = rw (odd e, half_odd e)

pub right_to : (L v : ℕ) → torus_to L (2 * v) ≡ right_of L v
right_to L v = rw (even v, half_even v)

pub below_to : (L v : ℕ) → torus_to L (2 * v + 1) ≡ below L v
below_to L v = rw (odd v, half_odd v)

pub right_mark : (L v : ℕ) → torus_mark L (2 * v) ≡ cond (eqb (column L v) (L - 1)) 1 0
right_mark L v = rw (even v, half_even v)

pub below_mark : (L v : ℕ) → torus_mark L (2 * v + 1) ≡ cond (eqb (row L v) (L - 1)) 2 0
below_mark L v = rw (odd v, half_odd v)
