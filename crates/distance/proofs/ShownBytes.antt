-- A set of edges as an array of bytes: the empty set, a byte that is flipped, and the front of the array. Assumes nothing.
use Prim.Native.Nat.{ℕ, ◌-◌, ◌≤◌, ◌<◌}
use mathlib.Core.Path.{◌≡◌, refl, sym, ap, ◌∙◌}
use mathlib.Core.Bool.{false}
use mathlib.Core.List.{List}
use native.Mathlib.Decide.{ℕ_discrete}
use native.Mathlib.Omega.{arith}
use borrow.Author.Tests.{eq-eqb, ne_eqb}
use lib.ListN.{length, get_or, set, take, replicate, length-set, length-replicate, get_or-replicate}
use lib.Seq.{get_or-set_same, get_or-set_other, get_or-take, length-take-le}
use lib.Dec.{eqb}
use Rattle.model.specs.Sums.{Set, ◌⊕◌, bit, bytes}
use Rattle.model.proofs.Xor.{xor_false}
use Rattle.model.proofs.Bits.{bit_flip}
use Rattle.model.proofs.ListLaws.{length_values, get_d_values, values_are}

pub bytes_long : (m : ℕ) (S : Set) → length (bytes m S) ≡ m
bytes_long m S = length_values m (λ i. bit (S i))

pub byte_at : (m : ℕ) (S : Set) (i : ℕ) → i < m → get_or (bytes m S) i 0 ≡ bit (S i)
byte_at m S i h = get_d_values m (λ i. bit (S i)) i 0 h

-- zeros show no edge
pub blank_bytes : (m : ℕ) → replicate m 0 ≡ bytes m (λ i. false)
blank_bytes m = values_are m (λ i. 0) (replicate m 0) (length-replicate m 0) (λ i h. get_or-replicate m i 0 0 h)

-- one byte is flipped
pub flip_bytes : (m e : ℕ) (S : Set) → e < m → set (bytes m S) e (1 - get_or (bytes m S) e 0) ≡ bytes m (λ i. S i ⊕ eqb e i)
flip_bytes m e S h = values_are m (λ i. bit (S i ⊕ eqb e i)) flipped (length-set (bytes m S) e _ ∙ bytes_long m S) at_place
  where
    flipped : List ℕ
    flipped = set (bytes m S) e (1 - get_or (bytes m S) e 0)

    at_place : (i : ℕ) → i < m → get_or flipped i 0 ≡ bit (S i ⊕ eqb e i)
    at_place i l =
        elim (ℕ_discrete i e) [
          | yes q ↦
              rw (q, eq-eqb e e refl)
              (get_or-set_same (bytes m S) e _ 0 (omega (arith, bytes_long m S)) ∙ ap (λ x. 1 - x) (byte_at m S e h) ∙ bit_flip (S e))
          | no q ↦ rw (ne_eqb e i (λ r. q (sym r)), xor_false (S i)) (get_or-set_other (bytes m S) e i _ 0 q ∙ byte_at m S i l)
        ]

-- the front shows the same set
pub front_bytes : (m n : ℕ) (S : Set) → m ≤ n → take m (bytes n S) ≡ bytes m S
front_bytes m n S h =
    values_are m (λ i. bit (S i)) (take m (bytes n S)) (length-take-le m (bytes n S) (omega (arith, bytes_long n S)))
    (λ i l. get_or-take m (bytes n S) i 0 l ∙ byte_at n S i (omega arith))

pub front_blank : (m n : ℕ) → m ≤ n → ◌≡◌ {A = List ℕ} (take m (replicate n 0)) (replicate m 0)
front_blank m n h = rw (blank_bytes n, blank_bytes m) (front_bytes m n (λ i. false) h)
