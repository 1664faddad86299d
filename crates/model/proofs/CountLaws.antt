-- Counts of the numbers below n that are in a set. Assumes nothing.
use Prim.Native.Nat.{ℕ, zero, suc, ◌+◌, ◌*◌, ◌%◌, ◌≤◌, ◌<◌}
use mathlib.Core.Path.{◌≡◌, refl, sym, ap, ap₂, ◌∙◌}
use mathlib.Core.Bool.{Bool, true, false, ◌&&◌, ◌||◌, or-true, or-false}
use mathlib.Core.Logic.{◌≢◌}
use native.Mathlib.Nat.{not-suc-le-zero, le_refl, add-zero, add-suc}
use native.Mathlib.Decide.{dec_lt, ℕ_discrete}
use native.Mathlib.Numerals.{add-one}
use native.Mathlib.Omega.{arith}
use borrow.Author.Tests.{eqb-true, eqb-false, eq-eqb, ne_eqb, lt-ltb, le-ltb}
use lib.Dec.{eqb, ltb}
use Rattle.model.specs.Sums.{Set, ◌⊕◌, bit, count_up_to, odd_up_to, some_up_to}
use Rattle.model.proofs.Xor.{and_left}
use Rattle.model.proofs.SumLaws.{Some, below_suc, count_bound, count_cong, count_mono, count_none}
use Rattle.model.proofs.Bits.{bit_bound}

-- one number more
pub count_next : (n : ℕ) (f : Set) → count_up_to (n + 1) f ≡ count_up_to n f + bit (f n)
unfolding count_up_to
count_next n f = ap (λ k. count_up_to k f) (add-one n)

pub count_in : (n : ℕ) (f : Set) → f n ≡ true → count_up_to (n + 1) f ≡ count_up_to n f + 1
count_in n f p = count_next n f ∙ ap (λ b. count_up_to n f + bit b) p

pub count_out : (n : ℕ) (f : Set) → f n ≡ false → count_up_to (n + 1) f ≡ count_up_to n f
count_out n f p = count_next n f ∙ ap (λ b. count_up_to n f + bit b) p ∙ omega arith

-- more numbers count no less
pub count_less : (m n : ℕ) (f : Set) → m ≤ n → count_up_to m f ≤ count_up_to n f
unfolding count_up_to
count_less m zero f h = let z : m ≡ 0 = omega arith in rw z (le_refl _)
count_less m (suc n) f h =
    below_suc (suc n) m (omega arith)
    (λ l. omega (arith, count_less m n f (omega arith)))
    (λ q. rw q (le_refl _))

-- a number of f below n is counted before n
pub count_before : (i n : ℕ) (f : Set) → i < n → f i ≡ true → count_up_to i f < count_up_to n f
count_before i n f h p = omega (arith, count_in i f p, count_less (i + 1) n f (omega arith))

-- the k-th number of f
pub record Nth (n : ℕ) (f : Set) (k : ℕ) : Type 0 where
  pub at : ℕ
  pub less : at < n
  pub holds : f at ≡ true
  pub before : count_up_to at f ≡ k

pub nth : (n : ℕ) (f : Set) (k : ℕ) → k < count_up_to n f → Nth n f k
unfolding count_up_to
nth zero f k h = absurd (not-suc-le-zero h)
nth (suc n) f k h =
    elim (dec_lt k (count_up_to n f)) [ yes l ↦ later (nth n f k l) | no l ↦ last l (f n) refl ]
  where
    later : Nth n f k → Nth (suc n) f k
    later w = record { at = w.at; less = omega (arith, w.less); holds = w.holds; before = w.before }

    last : ¬ (k < count_up_to n f) → (b : Bool) → f n ≡ b → Nth (suc n) f k
    last l true p =
        record { at = n; less = le_refl _; holds = p; before = omega (arith, ap bit p) }
    last l false p = absurd (omega (arith, ap bit p))

-- the first number apart
pub count_first : (n : ℕ) (f : Set) → count_up_to (suc n) f ≡ bit (f 0) + count_up_to n (λ i. f (suc i))
unfolding count_up_to
count_first zero f = omega arith
count_first (suc n) f = omega (arith, count_first n f)

-- the first a numbers, then b more
pub count_append : (a b : ℕ) (f : Set) → count_up_to (a + b) f ≡ count_up_to a f + count_up_to b (λ i. f (a + i))
unfolding count_up_to
count_append a zero f = rw (add-zero a) (omega arith)
count_append a (suc b) f = rw (add-suc a b) (omega (arith, count_append a b f))

-- a count of two sets that part a third
pub count_parts :
    (n : ℕ) (f g h : Set) → ((i : ℕ) → i < n → bit (f i) ≡ bit (g i) + bit (h i)) → count_up_to n f ≡ count_up_to n g + count_up_to n h
unfolding count_up_to
count_parts zero f g h same = refl
count_parts (suc n) f g h same =
    omega (arith, count_parts n f g h (λ i l. same i (omega arith)), same n (le_refl _))

-- all of them
pub count_all : (n : ℕ) (f : Set) → ((i : ℕ) → i < n → f i ≡ true) → count_up_to n f ≡ n
unfolding count_up_to
count_all zero f all = refl
count_all (suc n) f all =
    omega (arith, count_all n f (λ i l. all i (omega arith)), ap bit (all n (le_refl _)))

-- a number that is not counted leaves room
pub count_room : (n i : ℕ) (f : Set) → i < n → f i ≡ false → count_up_to n f < n
unfolding count_up_to
count_room zero i f h p = absurd (not-suc-le-zero h)
count_room (suc n) i f h p =
    below_suc n i h
    (λ l. omega (arith, count_room n i f l p, bit_bound (f n)))
    (λ q. rw (rw q at p) (omega (arith, count_bound n f)))

-- one number more is counted
pub count_more : (n i : ℕ) (f g : Set) → i < n → f i ≡ false → g i ≡ true → ((j : ℕ) → j ≢ i → g j ≡ f j) → count_up_to n g ≡ suc (count_up_to n f)
unfolding count_up_to
count_more zero i f g h p q same = absurd (not-suc-le-zero h)
count_more (suc n) i f g h p q same =
    below_suc n i h
    (λ l. ap₂ (λ x b. x + bit b) (count_more n i f g l p q same) (same n (λ r. omega arith)) ∙ omega arith)
    (λ r. rw (rw r at p, rw r at q, count_cong n g f (λ j l. same j (λ s. omega arith))) (omega arith))

-- a set of which only the number a may be a member
pub count_one : (n a : ℕ) (f : Set) → a < n → ((i : ℕ) → i < n → (i ≡ a → ⊥) → f i ≡ false) → count_up_to n f ≡ bit (f a)
unfolding count_up_to
count_one zero a f h out = absurd (not-suc-le-zero h)
count_one (suc n) a f h out =
    below_suc n a h
    (λ l. omega (arith, count_one n a f l (λ i k. out i (omega arith)), ap bit (out n (le_refl _) (λ q. omega arith))))
    (λ q. rw q (omega (arith, count_none n f (λ i k. out i (omega arith) (λ e. omega arith)))))

-- a count of two sets together is above 0 exactly where one of them has a member
pub counts_some : (n : ℕ) (f g h : Set) → ((i : ℕ) → i < n → h i ≡ (f i || g i)) → ltb 0 (count_up_to n f + count_up_to n g) ≡ some_up_to n h
unfolding count_up_to some_up_to
counts_some zero f g h same = refl
counts_some (suc n) f g h same =
    rw (same n (le_refl _)) (go (f n) (g n) (some_up_to n h) (counts_some n f g h (λ i l. same i (omega arith))))
  where
    x : ℕ
    x = count_up_to n f

    y : ℕ
    y = count_up_to n g

    go : (a b t : Bool) → ltb 0 (x + y) ≡ t → ltb 0 ((x + bit a) + (y + bit b)) ≡ (t || (a || b))
    go true b t p = lt-ltb 0 ((x + 1) + (y + bit b)) (omega arith) ∙ sym (or-true t)
    go false true t p = lt-ltb 0 ((x + 0) + (y + 1)) (omega arith) ∙ sym (or-true t)
    go false false t p = ap (ltb 0) {x = (x + 0) + (y + 0)} {y = x + y} (omega arith) ∙ p ∙ sym (or-false t)

-- an odd count is an odd number of ones
pub count_parity : (n : ℕ) (f : Set) → eqb (count_up_to n f % 2) 1 ≡ odd_up_to n f
unfolding count_up_to odd_up_to
count_parity zero f = refl
count_parity (suc n) f = go (f n) (odd_up_to n f) (count_parity n f)
  where
    go : (b t : Bool) → eqb (count_up_to n f % 2) 1 ≡ t → eqb ((count_up_to n f + bit b) % 2) 1 ≡ t ⊕ b
    go true true p = ne_eqb ((count_up_to n f + 1) % 2) 1 (λ q. omega (arith, eqb-true (count_up_to n f % 2) 1 p))
    go true false p = eq-eqb ((count_up_to n f + 1) % 2) 1 (omega (arith, eqb-false (count_up_to n f % 2) 1 p))
    go false true p = eq-eqb ((count_up_to n f + 0) % 2) 1 (omega (arith, eqb-true (count_up_to n f % 2) 1 p))
    go false false p = ne_eqb ((count_up_to n f + 0) % 2) 1 (λ q. omega (arith, eqb-false (count_up_to n f % 2) 1 p))

-- the first k numbers
pub count_front : (n k : ℕ) → k ≤ n → count_up_to n (λ i. ltb i k) ≡ k
unfolding count_up_to
count_front zero k h = omega arith
count_front (suc n) k h =
    elim (dec_lt n k) [
      | yes l ↦
          let all : k ≡ suc n = omega arith in
          rw all (count_all (suc n) (λ i. ltb i (suc n)) (λ i m. lt-ltb i (suc n) m))
      | no l ↦ rw (le-ltb n k (omega arith)) (omega (arith, count_front n k (omega arith)))
    ]

-- the even numbers, then the odd ones
pub count_halves : (n : ℕ) (f : Set) → count_up_to (2 * n) f ≡ count_up_to n (λ i. f (2 * i)) + count_up_to n (λ i. f (2 * i + 1))
unfolding count_up_to
count_halves zero f = refl
count_halves (suc n) f =
    let two_more : 2 * suc n ≡ 2 * n + 1 + 1 = omega arith in
    rw two_more (omega (arith, count_next (2 * n + 1) f, count_next (2 * n) f, count_halves n f))

-- a set with a member of each of the kinds 0 to k - 1 has at least k members
module _ (n : ℕ) (D : Set) (kind : ℕ → ℕ) where
  of_earlier_kinds : (k : ℕ) → ((c : ℕ) → c < k → Some n (λ i. D i && eqb (kind i) c)) → k ≤ count_up_to n (λ i. D i && ltb (kind i) k)
  of_earlier_kinds zero found = omega arith
  of_earlier_kinds (suc k) found =
      let x = found k (le_refl _) in
      omega (
        arith,
        of_earlier_kinds k (λ c h. found c (omega arith)),
        count_before x.at n (λ i. D i && eqb (kind i) k) x.less x.holds,
        count_parts n (λ i. D i && ltb (kind i) (suc k)) (λ i. D i && ltb (kind i) k) (λ i. D i && eqb (kind i) k)
            (λ i h. apart (D i) (kind i)),
      )
    where
      apart : (b : Bool) (c : ℕ) → bit (b && ltb c (suc k)) ≡ bit (b && ltb c k) + bit (b && eqb c k)
      apart false c = omega arith
      apart true c =
          elim (ℕ_discrete c k) [
            | yes q ↦ rw (lt-ltb c (suc k) (omega arith), le-ltb c k (omega arith), eq-eqb c k q) (omega arith)
            | no q ↦ rw (ne_eqb c k q)
                (elim (dec_lt c k) [
                  | yes l ↦ rw (lt-ltb c (suc k) (omega arith), lt-ltb c k l) (omega arith)
                  | no l ↦ rw (le-ltb c (suc k) (omega arith), le-ltb c k (omega arith)) (omega arith)
                ])
          ]

  pub one_of_each : (k : ℕ) → ((c : ℕ) → c < k → Some n (λ i. D i && eqb (kind i) c)) → k ≤ count_up_to n D
  one_of_each k found =
      omega (
        arith,
        of_earlier_kinds k found,
        count_mono n (λ i. D i && ltb (kind i) k) D (λ i h. and_left (D i) (ltb (kind i) k)),
      )
