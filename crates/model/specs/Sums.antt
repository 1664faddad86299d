-- For every section of document 01: sets of numbers, and what is added up, counted or looked for below a bound. Every definition of this
-- crate is made of these.
-- Assumes nothing.
use Rattle.std.specs.Prelude.{ℕ, zero, suc, ◌+◌, Bool, true, false, cond, not, ◌||◌, List, [], ◌∷◌, ◌++◌, get_or, eqb}
use Rattle.std.proofs.Math.Option.{Option, none, some}

infixl 33 ◌⊕◌
-- a set of edges or of vertices; only the numbers below the board's count matter
abbrev pub Set : Type 0
Set = ℕ → Bool

-- exclusive or
abbrev pub ◌⊕◌ : Bool → Bool → Bool
true ⊕ b = not b
false ⊕ b = b

-- 1 where it holds, 0 where not
abbrev pub bit : Bool → ℕ
bit true = 1
bit false = 0

-- an odd number of the i below n are in f: the exclusive or of f 0, f 1, .., f (n - 1)
unfoldable pub odd_up_to : ℕ → Set → Bool
odd_up_to zero f = false
odd_up_to (suc n) f = odd_up_to n f ⊕ f n

-- how many i below n are in f
unfoldable pub count_up_to : ℕ → Set → ℕ
count_up_to zero f = 0
count_up_to (suc n) f = count_up_to n f + bit (f n)

-- some i below n is in f
unfoldable pub some_up_to : ℕ → Set → Bool
some_up_to zero f = false
some_up_to (suc n) f = some_up_to n f || f n

-- the first of the two that is there
abbrev pub or_else : {A : Type 0} → Option A → Option A → Option A
or_else none y = y
or_else (some x) y = some x

-- the smallest i below n that is in f
unfoldable pub first_up_to : ℕ → Set → Option ℕ
first_up_to zero f = none
first_up_to (suc n) f = or_else (first_up_to n f) (cond (f n) (some n) none)

-- the list f 0, f 1, .., f (n - 1)
unfoldable pub values : {A : Type 0} → ℕ → (ℕ → A) → List A
values zero f = []
values (suc n) f = f 0 ∷ values n (λ i. f (suc i))

-- a buffer of bytes as a set: the places that hold 1
abbrev pub ones : List ℕ → Set
ones l i = eqb (get_or l i 0) 1

-- a set of the numbers below n as a buffer of bytes
abbrev pub bytes : ℕ → Set → List ℕ
bytes n D = values n (λ i. bit (D i))

-- the numbers below n that are in D, rising
unfoldable pub members : ℕ → Set → List ℕ
members zero D = []
members (suc n) D = members n D ++ cond (D n) (n ∷ []) []
