-- Laws of what is added up, counted or looked for below a bound. Assumes nothing.
use Prim.Native.Nat.{ℕ, zero, suc, ◌+◌, ◌*◌, ◌≤◌, ◌<◌}
use mathlib.Core.Path.{◌≡◌, refl, sym, ap, ap₂, ◌∙◌}
use mathlib.Core.Bool.{Bool, true, false, cond, ◌&&◌, ◌||◌, and-true, and-false, or-false, false≢true}
use mathlib.Core.Logic.{⊎_elim}
use mathlib.Core.Option.{Option, none, some, none-ne-some, some-ne-none}
use native.Mathlib.Nat.{le_refl, le_of_suc-le-suc, not-suc-le-zero, eq-or-lt_of_le, add-zero, add-suc, zero-mul, suc-mul, mul_comm}
use native.Mathlib.Omega.{arith}
use borrow.Author.Tests.{eq-eqb, ne_eqb}
use lib.Dec.{eqb}
use Rattle.std.proofs.lemmas.Bool.{false_from_ne_true, or_right}
use Rattle.model.specs.Sums.{Set, ◌⊕◌, bit, odd_up_to, count_up_to, some_up_to, or_else, first_up_to}
use Rattle.model.proofs.Xor.{xor_false, xor_assoc, xor_swap, and_xor}
use Rattle.model.proofs.Bits.{bit_bound}

-- i below suc n is below n, or n itself
pub below_suc : {A : Type 0} (n i : ℕ) → i < suc n → (i < n → A) → (i ≡ n → A) → A
below_suc n i h less same = ⊎_elim same less (eq-or-lt_of_le (le_of_suc-le-suc h))

-- Parity

pub odd_cong : (n : ℕ) (f g : Set) → ((i : ℕ) → i < n → f i ≡ g i) → odd_up_to n f ≡ odd_up_to n g
unfolding odd_up_to
odd_cong zero f g same = refl
odd_cong (suc n) f g same = ap₂ ◌⊕◌ (odd_cong n f g (λ i h. same i (omega arith))) (same n (le_refl _))

pub odd_false : (n : ℕ) → odd_up_to n (λ i. false) ≡ false
unfolding odd_up_to
odd_false zero = refl
odd_false (suc n) = rw (odd_false n)

-- nothing of f below n: even
pub odd_none : (n : ℕ) (f : Set) → ((i : ℕ) → i < n → f i ≡ false) → odd_up_to n f ≡ false
odd_none n f out = odd_cong n f (λ i. false) out ∙ odd_false n

pub odd_xor : (n : ℕ) (f g : Set) → odd_up_to n (λ i. f i ⊕ g i) ≡ odd_up_to n f ⊕ odd_up_to n g
unfolding odd_up_to
odd_xor zero f g = refl
odd_xor (suc n) f g = rw (odd_xor n f g) (xor_swap (odd_up_to n f) (odd_up_to n g) (f n) (g n))

-- a constant goes in front
pub odd_and : (n : ℕ) (a : Bool) (f : Set) → odd_up_to n (λ i. a && f i) ≡ (a && odd_up_to n f)
odd_and n true f = refl
odd_and n false f = odd_false n

-- a sum over two indices may be exchanged
pub odd_exchange : (n m : ℕ) (f : ℕ → ℕ → Bool) → odd_up_to n (λ i. odd_up_to m (λ j. f i j)) ≡ odd_up_to m (λ j. odd_up_to n (λ i. f i j))
unfolding odd_up_to
odd_exchange zero m f = sym (odd_false m)
odd_exchange (suc n) m f =
    rw (odd_exchange n m f) (sym (odd_xor m (λ j. odd_up_to n (λ i. f i j)) (λ j. f n j)))

-- the sum over the one index a
pub odd_at : (n a : ℕ) (f : Set) → a < n → odd_up_to n (λ i. f i && eqb a i) ≡ f a
unfolding odd_up_to
odd_at zero a f h = absurd (not-suc-le-zero h)
odd_at (suc n) a f h =
    below_suc n a h
    (λ l. rw (odd_at n a f l, ne_eqb a n (λ q. omega arith), and-false) (xor_false (f a)))
    (λ q. rw (odd_none n (λ i. f i && eqb a i) (λ i l. rw (ne_eqb a i (λ p. omega arith)) (and-false (f i))), eq-eqb a n q, q) (and-true (f n)))

-- the sum over the numbers a and b, which cancel where they are one
pub odd_two : (n a b : ℕ) (f : Set) → a < n → b < n → odd_up_to n (λ i. f i && (eqb a i ⊕ eqb b i)) ≡ f a ⊕ f b
odd_two n a b f at_a at_b =
    odd_cong n (λ i. f i && (eqb a i ⊕ eqb b i)) (λ i. (f i && eqb a i) ⊕ (f i && eqb b i)) (λ i h. and_xor (f i) (eqb a i) (eqb b i))
    ∙ odd_xor n (λ i. f i && eqb a i) (λ i. f i && eqb b i)
    ∙ ap₂ ◌⊕◌ (odd_at n a f at_a) (odd_at n b f at_b)

-- the first a numbers, then b more
pub odd_append : (a b : ℕ) (f : Set) → odd_up_to (a + b) f ≡ odd_up_to a f ⊕ odd_up_to b (λ i. f (a + i))
unfolding odd_up_to
odd_append a zero f = rw (add-zero a) (sym (xor_false (odd_up_to a f)))
odd_append a (suc b) f =
    rw (add-suc a b, odd_append a b f) (xor_assoc (odd_up_to a f) (odd_up_to b (λ i. f (a + i))) (f (a + b)))

-- R blocks of m numbers each, block by block
pub odd_blocks : (R m : ℕ) (f : Set) → odd_up_to (R * m) f ≡ odd_up_to R (λ k. odd_up_to m (λ i. f (k * m + i)))
unfolding odd_up_to
odd_blocks zero m f = rw (zero-mul m)
odd_blocks (suc R) m f = rw (suc-mul R m, odd_append (R * m) m f, odd_blocks R m f)

-- the numbers below 2n, two by two
pub odd_pairs : (n : ℕ) (f : Set) → odd_up_to (2 * n) f ≡ odd_up_to n (λ i. f (2 * i) ⊕ f (2 * i + 1))
unfolding odd_up_to
odd_pairs n f =
    ap (λ m. odd_up_to m f) (mul_comm 2 n)
    ∙ odd_blocks n 2 f
    ∙ odd_cong n (λ i. f (i * 2 + 0) ⊕ f (i * 2 + 1)) (λ i. f (2 * i) ⊕ f (2 * i + 1)) (λ i h. pair i)
  where
    pair : (i : ℕ) → f (i * 2 + 0) ⊕ f (i * 2 + 1) ≡ f (2 * i) ⊕ f (2 * i + 1)
    pair i =
        let low : i * 2 + 0 ≡ 2 * i = omega arith in
        let high : i * 2 + 1 ≡ 2 * i + 1 = omega arith in
        ap₂ (λ x y. f x ⊕ f y) low high

-- Counts

pub count_cong : (n : ℕ) (f g : Set) → ((i : ℕ) → i < n → f i ≡ g i) → count_up_to n f ≡ count_up_to n g
unfolding count_up_to
count_cong zero f g same = refl
count_cong (suc n) f g same = ap₂ (λ x b. x + bit b) (count_cong n f g (λ i h. same i (omega arith))) (same n (le_refl _))

pub count_bound : (n : ℕ) (f : Set) → count_up_to n f ≤ n
unfolding count_up_to
count_bound zero f = (le_refl _)
count_bound (suc n) f = omega (arith, count_bound n f, bit_bound (f n))

pub count_mono : (n : ℕ) (f g : Set) → ((i : ℕ) → i < n → f i ≡ true → g i ≡ true) → count_up_to n f ≤ count_up_to n g
unfolding count_up_to
count_mono zero f g sub = (le_refl _)
count_mono (suc n) f g sub = omega (arith, count_mono n f g (λ i h. sub i (omega arith)), bits (f n) (g n) (sub n (le_refl _)))
  where
    bits : (a b : Bool) → (a ≡ true → b ≡ true) → bit a ≤ bit b
    bits true b p = rw (p refl) (le_refl _)
    bits false b p = omega arith

pub count_none : (n : ℕ) (f : Set) → ((i : ℕ) → i < n → f i ≡ false) → count_up_to n f ≡ 0
unfolding count_up_to
count_none zero f out = refl
count_none (suc n) f out = rw (count_none n f (λ i h. out i (omega arith)), out n (le_refl _))

-- Existence

-- some i below n is in f
pub record Some (n : ℕ) (f : Set) : Type 0 where
  pub at : ℕ
  pub less : at < n
  pub holds : f at ≡ true

pub some_found : (n : ℕ) (f : Set) → some_up_to n f ≡ true → Some n f
unfolding some_up_to
some_found zero f p = absurd (false≢true p)
some_found (suc n) f p = go (some_found n f) (some_up_to n f) (f n) refl refl p
  where
    go : (some_up_to n f ≡ true → Some n f) → (x y : Bool) → some_up_to n f ≡ x → f n ≡ y → (x || y) ≡ true → Some (suc n) f
    go earlier true y p q r = let s = earlier p in record { at = s.at; less = omega arith; holds = s.holds }
    go earlier false true p q r = record { at = n; less = le_refl _; holds = q }
    go earlier false false p q r = absurd (false≢true r)

pub some_here : (n i : ℕ) (f : Set) → i < n → f i ≡ true → some_up_to n f ≡ true
unfolding some_up_to
some_here zero i f h p = absurd (not-suc-le-zero h)
some_here (suc n) i f h p =
    below_suc n i h (λ l. rw (some_here n i f l p)) (λ q. or_right (some_up_to n f) (f n) (rw q at p))

pub some_none : (n : ℕ) (f : Set) → some_up_to n f ≡ false → (i : ℕ) → i < n → f i ≡ false
some_none n f p i h = false_from_ne_true (f i) (λ q. false≢true (sym p ∙ some_here n i f h q))

pub none_some : (n : ℕ) (f : Set) → ((i : ℕ) → i < n → f i ≡ false) → some_up_to n f ≡ false
none_some n f out =
    false_from_ne_true (some_up_to n f) (λ p. let s = some_found n f p in false≢true (sym (out s.at s.less) ∙ s.holds))

pub some_cong : (n : ℕ) (f g : Set) → ((i : ℕ) → i < n → f i ≡ g i) → some_up_to n f ≡ some_up_to n g
unfolding some_up_to
some_cong zero f g same = refl
some_cong (suc n) f g same = ap₂ ◌||◌ (some_cong n f g (λ i h. same i (omega arith))) (same n (le_refl _))

-- some number in either: some in the one or some in the other
pub some_or : (n : ℕ) (f g : Set) → some_up_to n (λ i. f i || g i) ≡ (some_up_to n f || some_up_to n g)
unfolding some_up_to
some_or zero f g = refl
some_or (suc n) f g = rw (some_or n f g) (go (some_up_to n f) (some_up_to n g) (f n) (g n))
  where
    go : (x y a b : Bool) → ((x || y) || (a || b)) ≡ ((x || a) || (y || b))
    go true y a b = refl
    go false true true b = refl
    go false true false b = refl
    go false false a b = refl

-- a set of which only the number a may be a member
pub some_one : (n a : ℕ) (f : Set) → a < n → ((i : ℕ) → i < n → (i ≡ a → ⊥) → f i ≡ false) → some_up_to n f ≡ f a
unfolding some_up_to
some_one zero a f h out = absurd (not-suc-le-zero h)
some_one (suc n) a f h out =
    below_suc n a h
    (λ l. ap₂ ◌||◌ (some_one n a f l (λ i k. out i (omega arith))) (out n (le_refl _) (λ q. omega arith)) ∙ or-false (f a))
    (λ q. rw q (ap (λ t. t || f n) (none_some n f (λ i k. out i (omega arith) (λ e. omega arith)))))

-- The first

-- i is the smallest number below n that is in f
pub record First (n : ℕ) (f : Set) (i : ℕ) : Type 0 where
  pub less : i < n
  pub holds : f i ≡ true
  pub before : (j : ℕ) → j < i → f j ≡ false

pub first_none : (n : ℕ) (f : Set) → ((i : ℕ) → i < n → f i ≡ false) → first_up_to n f ≡ none
unfolding first_up_to
first_none zero f out = refl
first_none (suc n) f out = rw (first_none n f (λ i h. out i (omega arith)), out n (le_refl _))

pub first_is : (n : ℕ) (f : Set) (i : ℕ) → First n f i → first_up_to n f ≡ some i
unfolding first_up_to
first_is zero f i w = absurd (not-suc-le-zero w.less)
first_is (suc n) f i w =
    below_suc n i w.less
    (λ l. rw (first_is n f i (record { less = l; holds = w.holds; before = w.before })))
    (λ q. rw (first_none n f (λ j h. w.before j (omega arith)), sym (ap f q) ∙ w.holds) (ap some (sym q)))

pub none_first : (n : ℕ) (f : Set) → first_up_to n f ≡ none → (i : ℕ) → i < n → f i ≡ false
unfolding first_up_to
none_first zero f p i h = absurd (not-suc-le-zero h)
none_first (suc n) f p i h = go (λ q l. none_first n f q i l) (first_up_to n f) refl (f n) refl p
  where
    go : (first_up_to n f ≡ none → i < n → f i ≡ false) → (o : Option ℕ) → first_up_to n f ≡ o → (b : Bool) → f n ≡ b → or_else o (cond b (some n) none) ≡ none → f i ≡ false
    go earlier none q true r p = absurd (some-ne-none n p)
    go earlier none q false r p = below_suc n i h (earlier q) (λ e. ap f e ∙ r)
    go earlier (some k) q b r p = absurd (some-ne-none k p)

pub first_found : (n : ℕ) (f : Set) (i : ℕ) → first_up_to n f ≡ some i → First n f i
unfolding first_up_to
first_found zero f i p = absurd (none-ne-some i p)
first_found (suc n) f i p = go (first_found n f) (first_up_to n f) refl (f n) refl p
  where
    go : ((k : ℕ) → first_up_to n f ≡ some k → First n f k) → (o : Option ℕ) → first_up_to n f ≡ o → (b : Bool) → f n ≡ b → or_else o (cond b (some n) none) ≡ some i → First (suc n) f i
    go earlier none q true r p =
        let e : n ≡ i = cc in
        record { less = omega arith; holds = sym (ap f e) ∙ r; before = λ j h. none_first n f q j (omega arith) }
    go earlier none q false r p = absurd (none-ne-some i p)
    go earlier (some k) q b r p =
        let e : k ≡ i = cc in
        let w = earlier k q in
        record { less = omega arith; holds = sym (ap f e) ∙ w.holds; before = λ j h. w.before j (omega arith) }

pub first_cong : (n : ℕ) (f g : Set) → ((i : ℕ) → i < n → f i ≡ g i) → first_up_to n f ≡ first_up_to n g
unfolding first_up_to
first_cong zero f g same = refl
first_cong (suc n) f g same = rw (first_cong n f g (λ i h. same i (omega arith)), same n (le_refl _))
