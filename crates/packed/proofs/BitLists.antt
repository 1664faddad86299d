-- The numbers of a number's set bits as a list: its first is at the trailing zeros, all words together hold the members of their set, and
-- there are as many as count_ones says. Assumes nothing.
use Prim.Native.Nat.{ℕ, zero, suc, ◌+◌, ◌-◌, ◌/◌, ◌%◌, ◌^◌, ◌≤◌, ◌<◌}
use mathlib.Core.Path.{◌≡◌, refl, sym, ap, ap₂, ◌∙◌}
use mathlib.Core.Bool.{Bool, true, false, cond}
use mathlib.Core.List.{[], ◌∷◌, ◌++◌, append-nil, append_assoc}
use native.Mathlib.Nat.{add-zero, add-suc, pow-succ'}
use native.Mathlib.Omega.{arith}
use lib.ListN.{length, length-append}
use lib.Count.{ones, ones_step, count_trailing_zeros, under}
use Rattle.model.specs.Sums.{Set, bit, count_up_to, members}
use Rattle.model.specs.Words.{bit_of}
use Rattle.model.proofs.Bits.{eqb_bit}
use Rattle.packed.specs.Listing.{bits_from}
use Rattle.theory.proofs.BitLaws.{lowest_bit, higher_bit, half_below}

-- no set bits
pub bits_none : (d first : ℕ) → bits_from d first 0 ≡ []
unfolding bits_from
bits_none zero first = refl
bits_none (suc d) first = bits_none d (suc first)

-- the lowest bit apart
bits_split : (d first x : ℕ) (b : Bool) → x % 2 ≡ bit b → bits_from (suc d) first x ≡ cond b (first ∷ []) [] ++ bits_from d (suc first) (x / 2)
unfolding bits_from
bits_split d first x b p =
    let one : x / 1 % 2 ≡ bit b = omega (arith, p) in
    rw (one, eqb_bit b)

-- From set bit to set bit

-- What trailing_zeros finds in a number that isn't 0: it is the lowest set bit, and without it the number has all the others.
pub record Lowest (d first x t : ℕ) : Type 0 where
  pub inside : t < d
  pub there : 2 ^ t ≤ x
  pub then : bits_from d first x ≡ (first + t) ∷ bits_from d first (x - 2 ^ t)

pub lowest : (d first x : ℕ) → 0 < x → x < 2 ^ d → Lowest d first x (count_trailing_zeros d x)
unfolding count_trailing_zeros bits_from
lowest zero first x some below = absurd (none x some below)
  where
    none : (x : ℕ) → 0 < x → x < 1 → ⊥
    none x a b = omega arith
lowest (suc d) first x some below = go (x % 2) refl (λ h. lowest d (suc first) (x / 2) h (half_below x d below))
  where
    go : (b : ℕ) → x % 2 ≡ b → (0 < x / 2 → Lowest d (suc first) (x / 2) (count_trailing_zeros d (x / 2)))
        → Lowest (suc d) first x (under b (count_trailing_zeros d (x / 2)))
    go zero even later =
        let t = count_trailing_zeros d (x / 2) in
        let w = later (omega arith) in
        let double = pow-succ' 2 t in
        let rest : (x - 2 ^ suc t) % 2 ≡ 0 = omega (arith, double, w.there) in
        let half : (x - 2 ^ suc t) / 2 ≡ x / 2 - 2 ^ t = omega (arith, double, w.there) in
        let place : suc first + t ≡ first + suc t = omega arith in
        record {
          inside = omega (arith, w.inside);
          there = omega (arith, double, w.there);
          then =
              bits_split d first x false even
              ∙ w.then
              ∙ ap₂ (λ v l. v ∷ l) place (ap (λ y. bits_from d (suc first) y) (sym half))
              ∙ ap (λ l. (first + suc t) ∷ l) (sym (bits_split d first (x - 2 ^ suc t) false rest));
        }
    go (suc b) odd later =
        let half : (x - 1) / 2 ≡ x / 2 = omega arith in
        let rest : (x - 1) % 2 ≡ 0 = omega arith in
        record {
          inside = omega arith;
          there = omega arith;
          then =
              bits_split d first x true (omega arith)
              ∙ ap₂ (λ v y. v ∷ bits_from d (suc first) y) (sym (add-zero first)) (sym half)
              ∙ ap (λ l. (first + 0) ∷ l) (sym (bits_split d first (x - 1) false rest));
        }

-- All words

-- the members of a set below a, and those of the next d, which are the bits of x
pub members_bits : (d a x : ℕ) (D : Set) → ((k : ℕ) → k < d → D (a + k) ≡ bit_of x k) → members (a + d) D ≡ members a D ++ bits_from d a x
unfolding members bits_from
members_bits zero a x D same = rw (add-zero a) (sym (append-nil (members a D)))
members_bits (suc d) a x D same =
    let next : (k : ℕ) → k < d → D (suc a + k) ≡ bit_of (x / 2) k = λ k h. ap D (shift k) ∙ same (suc k) (omega arith) ∙ higher_bit x k in
    ap (λ m. members m D) (sym (shift d))
    ∙ members_bits d (suc a) (x / 2) D next
    ∙ ap (λ b. (members a D ++ cond b (a ∷ []) []) ++ bits_from d (suc a) (x / 2)) (ap D (sym (add-zero a)) ∙ same 0 (omega arith))
    ∙ append_assoc (members a D) (cond (bit_of x 0) (a ∷ []) []) (bits_from d (suc a) (x / 2))
  where
    shift : (k : ℕ) → suc a + k ≡ a + suc k
    shift k = omega arith

-- numbers that are no members add nothing
pub members_past : (b n : ℕ) (D : Set) → ((i : ℕ) → n ≤ i → i < n + b → D i ≡ false) → members (n + b) D ≡ members n D
unfolding members
members_past zero n D out = ap (λ m. members m D) (add-zero n)
members_past (suc b) n D out =
    rw (add-suc n b, out (n + b) (omega arith) (omega arith), append-nil (members (n + b) D))
    (members_past b n D (λ i h l. out i h (omega arith)))

-- a list of one number or none
one_or_none : (n : ℕ) (b : Bool) → length (cond b (n ∷ []) []) ≡ bit b
one_or_none n true = refl
one_or_none n false = refl

-- there are as many members as are counted
pub members_long : (n : ℕ) (D : Set) → length (members n D) ≡ count_up_to n D
unfolding members count_up_to
members_long zero D = refl
members_long (suc n) D = length-append (members n D) (cond (D n) (n ∷ []) []) ∙ ap₂ ◌+◌ (members_long n D) (one_or_none n (D n))

-- set bits are counted as count_ones does
pub bits_counted : (d first x : ℕ) → x < 2 ^ d → length (bits_from d first x) ≡ ones x
unfolding bits_from ones
bits_counted zero first x below = let none : x ≡ 0 = omega arith in rw none
bits_counted (suc d) first x below =
    length-append (cond (bit_of x 0) (first ∷ []) []) (bits_from d (suc first) (x / 2))
    ∙ ap₂ ◌+◌ (one_or_none first (bit_of x 0) ∙ lowest_bit x) (bits_counted d (suc first) (x / 2) (half_below x d below)) ∙ sym (ones_step x)
