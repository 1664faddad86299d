-- Laws of lists that are made by index, and of stores. Assumes nothing.
use Prim.Native.Nat.{ℕ, zero, suc, ◌+◌, ◌≤◌, ◌<◌}
use mathlib.Core.Path.{◌≡◌, refl, sym, ap, ap₂, ◌∙◌}
use mathlib.Core.Bool.{Bool, true, false, cond}
use mathlib.Core.List.{List, [], ◌∷◌, ◌++◌}
use native.Mathlib.Nat.{not-suc-le-zero, le_of_suc-le-suc, add-zero}
use native.Mathlib.Omega.{arith}
use lib.ListN.{length, get_or, set, take, replicate, length-replicate}
use borrow.Author.Tests.{eqb-true, eqb-false}
use lib.Seq.{ext_get_or, get_or-set_same, get_or-set_other, sets}
use lib.Dec.{eqb}
use Rattle.std.proofs.lemmas.List.{take-replicate}
use Rattle.model.specs.Sums.{Set, bit, values, ones, bytes}
use Rattle.model.specs.Board.{ValidBytes}
use Rattle.model.proofs.Bits.{eqb_bit, bit_bound}

pub length_values : {A : Type 0} (n : ℕ) (f : ℕ → A) → length (values n f) ≡ n
unfolding values
length_values zero f = refl
length_values (suc n) f = ap suc (length_values n (λ i. f (suc i)))

pub get_d_values : {A : Type 0} (n : ℕ) (f : ℕ → A) (i : ℕ) (d : A) → i < n → get_or (values n f) i d ≡ f i
unfolding values
get_d_values zero f i d h = absurd (not-suc-le-zero h)
get_d_values (suc n) f zero d h = refl
get_d_values (suc n) f (suc i) d h = get_d_values n (λ i. f (suc i)) i d (le_of_suc-le-suc h)

-- a list of n elements that are f's values below n is the list of f's values
pub values_are : (n : ℕ) (f : ℕ → ℕ) (l : List ℕ) → length l ≡ n → ((i : ℕ) → i < n → get_or l i 0 ≡ f i) → l ≡ values n f
values_are n f l long at =
    ext_get_or 0 l (values n f) (long ∙ sym (length_values n f))
    (λ i h. at i (omega arith) ∙ sym (get_d_values n f i 0 (omega arith)))

pub values_cong : {A : Type 0} (n : ℕ) (f g : ℕ → A) → ((i : ℕ) → i < n → f i ≡ g i) → values n f ≡ values n g
unfolding values
values_cong zero f g same = refl
values_cong (suc n) f g same =
    ap₂ (λ x l. x ∷ l) (same 0 (omega arith)) (values_cong n (λ i. f (suc i)) (λ i. g (suc i)) (λ i h. same (suc i) (omega arith)))

-- the last element apart
pub values_last : {A : Type 0} (n : ℕ) (f : ℕ → A) → values (suc n) f ≡ values n f ++ (f n ∷ [])
unfolding values
values_last zero f = refl
values_last (suc n) f = ap (λ l. f 0 ∷ l) (values_last n (λ i. f (suc i)))

-- a list of zeros holds 0 everywhere
pub zero_everywhere : (n i : ℕ) → ◌≡◌ {A = ℕ} (get_or (replicate n 0) i 0) 0
zero_everywhere zero i = refl
zero_everywhere (suc n) zero = refl
zero_everywhere (suc n) (suc i) = zero_everywhere n i

-- the set of a buffer made from a set is that set
pub ones_bytes : (n : ℕ) (D : Set) (i : ℕ) → i < n → ones (bytes n D) i ≡ D i
ones_bytes n D i h = ap (λ x. eqb x 1) (get_d_values n (λ i. bit (D i)) i 0 h) ∙ eqb_bit (D i)

-- the bytes of a set are valid
pub bytes_valid : (n : ℕ) (D : Set) → ValidBytes n (bytes n D)
bytes_valid n D =
    record {
      count = length_values n (λ i. bit (D i));
      each = λ i h. rw (get_d_values n (λ i. bit (D i)) i 0 h) (bit_bound (D i));
    }

-- a list after a store, at every index
pub get_d_set : {A : Type 0} (l : List A) (i j : ℕ) (a d : A) → i < length l → get_or (set l i a) j d ≡ cond (eqb i j) a (get_or l j d)
get_d_set {A} l i j a d h = go (eqb i j) refl
  where
    go : (t : Bool) → eqb i j ≡ t → get_or (set l i a) j d ≡ cond t a (get_or l j d)
    go true p = rw (sym (eqb-true i j p)) (get_or-set_same l i a d h)
    go false p = get_or-set_other l i j a d (λ q. eqb-false i j p (sym q))

-- the front of an array of one value has its length
pub front_long : (m n x : ℕ) → m ≤ n → length (take m (replicate n x)) ≡ m
front_long m n x h = ap length (take-replicate m n x h) ∙ length-replicate m x

-- entries stored behind others that were stored
pub sets_append : (xs ys l : List ℕ) (i : ℕ) → sets (sets l i xs) (i + length xs) ys ≡ sets l i (xs ++ ys)
sets_append [] ys l i = rw (add-zero i)
sets_append (x ∷ xs) ys l i =
    ap (λ k. sets (sets (set l i x) (suc i) xs) k ys) {x = i + suc (length xs)} {y = suc i + length xs} (omega arith)
    ∙ sets_append xs ys (set l i x) (suc i)
