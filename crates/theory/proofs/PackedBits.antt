-- A number put together from its highest bit down. Assumes nothing.
use Prim.Native.Nat.{ℕ, suc, ◌+◌, ◌-◌, ◌*◌, ◌^◌, ◌≤◌, ◌<◌}
use mathlib.Core.Path.{◌≡◌, refl, ap, ◌∙◌}
use native.Mathlib.Nat.{add-zero, pow-succ'}
use native.Mathlib.Omega.{arith}
use lib.Pow.{pow_mono}
use Rattle.model.specs.Sums.{Set, bit}
use Rattle.model.specs.Words.{number_with}
use Rattle.theory.proofs.BitLaws.{number_cong, number_below}

-- the bits from place k up to place `top`, as one number
pub record PackedFrom (f : Set) (top k word : ℕ) : Type 0 where
  pub count : ℕ
  pub reaches : k + count ≡ top
  pub bits : word ≡ number_with count (λ j. f (k + j))

-- no bits yet
pub packed_none : (f : Set) (top : ℕ) → PackedFrom f top top 0
unfolding number_with
packed_none f top = record { count = 0; reaches = add-zero top; bits = refl }

-- the next lower bit
pub packed_more : {f : Set} {top k word b : ℕ} → 0 < k → b ≡ bit (f (k - 1)) → PackedFrom f top k word → PackedFrom f top (k - 1) (2 * word + b)
unfolding number_with
packed_more {f} {top} {k} {word} {b} some is s =
    let low : k - 1 ≡ k - 1 + 0 = omega arith in
    let others : word ≡ number_with s.count (λ j. f (k - 1 + suc j)) = s.bits ∙ number_cong s.count _ _ (λ j h. ap f (shift j)) in
    record {
      count = suc s.count;
      reaches = omega (arith, s.reaches);
      bits = omega (arith, others, is ∙ ap (λ i. bit (f i)) low);
    }
  where
    shift : (j : ℕ) → k + j ≡ k - 1 + suc j
    shift j = omega arith

-- a 64-bit word has room for it
pub packed_room : {f : Set} {top k word : ℕ} → 0 < k → top ≤ 64 → PackedFrom f top k word → 2 * word + 1 < 2 ^ 64
packed_room {f} {top} {k} {word} some few s =
    let below = number_below s.count (λ j. f (k + j)) in
    let fits : 2 ^ suc s.count ≤ 2 ^ 64 = pow_mono {i = suc s.count} {j = 64} (omega (arith, s.reaches)) in
    omega (arith, below, s.bits, fits, pow-succ' 2 s.count)

-- all bits
pub packed_whole : {f : Set} {top k word : ℕ} → k ≡ 0 → PackedFrom f top k word → word ≡ number_with top f
packed_whole {f} {top} {k} done s =
    let all : s.count ≡ top = omega (arith, s.reaches) in
    s.bits ∙ number_cong s.count _ f (λ j h. ap f (front j)) ∙ ap (λ m. number_with m f) all
  where
    front : (j : ℕ) → k + j ≡ j
    front j = omega arith
