-- A pass that looks for the first number of a set, as each test's loop does it. Assumes nothing.
use Prim.Native.Nat.{ℕ, ◌+◌, ◌≤◌, ◌<◌}
use mathlib.Core.Path.{◌≡◌, sym}
use mathlib.Core.Bool.{true, false}
use mathlib.Core.Option.{Option, none, some}
use native.Mathlib.Omega.{arith}
use borrow.Author.Count.{below_more}
use Rattle.model.specs.Sums.{Set, first_up_to}
use Rattle.model.proofs.SumLaws.{first_none, first_is}

-- no number below i is in f
pub record Passed (f : Set) (i : ℕ) : Type 0 where
  pub out : (k : ℕ) → k < i → f k ≡ false

pub passed_more : {f : Set} {i : ℕ} → Passed f i → f i ≡ false → Passed f (i + 1)
passed_more {f} {i} p q = record { out = below_more (λ k. f k ≡ false) i p.out q }

-- the pass ends at i, the first in f
pub ends_at : (n : ℕ) {f : Set} {i : ℕ} → Passed f i → i < n → f i ≡ true → some i ≡ first_up_to n f
ends_at n {f} {i} p h q = sym (first_is n f i (record { less = h; holds = q; before = p.out }))

-- the pass ends behind the last, with none in f
pub ends_nowhere : (n : ℕ) {f : Set} {i : ℕ} → Passed f i → n ≤ i → none ≡ first_up_to n f
ends_nowhere n {f} {i} p h = sym (first_none n f (λ k l. p.out k (omega arith)))

-- what a pass over m places found, read as an answer on n places, where both counts are the same
pub answered : (n m : ℕ) (f : Set) (o x : Option ℕ) → n ≡ m → o ≡ first_up_to m f → o ≡ x → first_up_to n f ≡ x
answered n m f o x same e g = rw (same, ← e, g)
