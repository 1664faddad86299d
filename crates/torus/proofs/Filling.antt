-- Laws of a list that is filled from the front with a function's values, one store after the other. Assumes nothing.
use Prim.Native.Nat.{ℕ, ◌+◌, ◌<◌}
use mathlib.Core.Path.{◌≡◌, ◌∙◌}
use mathlib.Core.List.{List}
use native.Mathlib.Omega.{arith}
use borrow.Author.Count.{below_more}
use lib.ListN.{length, get_or, set}
use lib.Seq.{get_or-set_same, get_or-set_other}
use Rattle.model.specs.Sums.{values}
use Rattle.model.proofs.ListLaws.{values_are}
use Rattle.torus.specs.Filling.{Filled}

pub filled_none : (f : ℕ → ℕ) (l : List ℕ) → Filled f 0 l
filled_none f l = record { at = λ k h. absurd (nothing k h) }
  where
    nothing : (k : ℕ) → k < 0 → ⊥
    nothing k h = omega arith

-- the next place k is stored to
pub filled_more :
    {f : ℕ → ℕ} {n : ℕ} {l : List ℕ} (k x : ℕ) → Filled f n l → n ≡ k → k < length l → x ≡ f k → Filled f (k + 1) (set l k x)
filled_more {f} {n} {l} k x w same inside is =
    record {
      at = below_more (λ j. get_or (set l k x) j 0 ≡ f j) k
          (λ j h. get_or-set_other l k j x 0 (λ q. omega arith) ∙ w.at j (omega arith))
          (get_or-set_same l k x 0 inside ∙ is);
    }

-- the same count, written another way
pub filled_to : {f : ℕ → ℕ} {n : ℕ} {l : List ℕ} (m : ℕ) → Filled f n l → m ≡ n → Filled f m l
filled_to m w same = record { at = λ k h. w.at k (omega arith) }

-- nothing is left to fill
pub filled_all : {f : ℕ → ℕ} {n : ℕ} {l : List ℕ} (m : ℕ) → Filled f n l → length l ≡ m → m ≡ n → l ≡ values m f
filled_all {f} {n} {l} m w long same = values_are m f l long (λ k h. w.at k (omega arith))
