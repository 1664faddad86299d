-- Laws of the states of the four copies: what a state is made of, and that an edge leads across and back. Assumes nothing.
use Prim.Native.Nat.{ℕ, zero, suc, ◌+◌, ◌*◌, ◌/◌, ◌%◌, ◌≤◌, ◌<◌}
use mathlib.Core.Path.{◌≡◌, refl, sym, ap, ap₂, ◌∙◌}
use mathlib.Core.Bool.{Bool, true, false, cond, ◌||◌, false≢true}
use native.Mathlib.Omega.{arith}
use borrow.Author.Tests.{eqb-true, eqb-false, eq-eqb, ne_eqb}
use lib.Dec.{eqb}
use lib.Bits.{bit_xor}
use Rattle.model.specs.Sums.{◌⊕◌, bit}
use Rattle.model.specs.Board.{Board, Valid, edges, first_end, second_end, mark}
use Rattle.model.specs.Syndrome.{touches}
use Rattle.model.specs.Winding.{crosses_a, crosses_b}
use Rattle.model.proofs.Xor.{xor_twice}
use Rattle.distance.specs.States.{state, on_a, on_b, other_end, across}

-- the parts of a state

pub state_vertex : (v : ℕ) (a b : Bool) → state v a b / 4 ≡ v
state_vertex v true true = omega arith
state_vertex v true false = omega arith
state_vertex v false true = omega arith
state_vertex v false false = omega arith

pub state_on_a : (v : ℕ) (a b : Bool) → on_a (state v a b) ≡ a
state_on_a v true true = eq-eqb ((4 * v + 3) % 2) 1 (omega arith)
state_on_a v true false = eq-eqb ((4 * v + 1) % 2) 1 (omega arith)
state_on_a v false true = ne_eqb ((4 * v + 2) % 2) 1 (λ q. omega arith)
state_on_a v false false = ne_eqb ((4 * v + 0) % 2) 1 (λ q. omega arith)

pub state_on_b : (v : ℕ) (a b : Bool) → on_b (state v a b) ≡ b
state_on_b v true true = eq-eqb ((4 * v + 3) / 2 % 2) 1 (omega arith)
state_on_b v true false = ne_eqb ((4 * v + 1) / 2 % 2) 1 (λ q. omega arith)
state_on_b v false true = eq-eqb ((4 * v + 2) / 2 % 2) 1 (omega arith)
state_on_b v false false = ne_eqb ((4 * v + 0) / 2 % 2) 1 (λ q. omega arith)

-- a state is made of its parts
pub state_parts : (y : ℕ) → state (y / 4) (on_a y) (on_b y) ≡ y
state_parts y = go (on_a y) (on_b y) refl refl
  where
    go : (a b : Bool) → on_a y ≡ a → on_b y ≡ b → state (y / 4) a b ≡ y
    go true true p q = omega (arith, eqb-true (y % 2) 1 p, eqb-true (y / 2 % 2) 1 q)
    go true false p q = omega (arith, eqb-true (y % 2) 1 p, eqb-false (y / 2 % 2) 1 q)
    go false true p q = omega (arith, eqb-false (y % 2) 1 p, eqb-true (y / 2 % 2) 1 q)
    go false false p q = omega (arith, eqb-false (y % 2) 1 p, eqb-false (y / 2 % 2) 1 q)

pub state_bound : (n v : ℕ) (a b : Bool) → v < n → state v a b < 4 * n
state_bound n v true true h = omega arith
state_bound n v true false h = omega arith
state_bound n v false true h = omega arith
state_bound n v false false h = omega arith

-- what holds of 0 to 3 holds of every mark value
four : (P : ℕ → Type 0) (x : ℕ) → x ≤ 3 → P 0 → P 1 → P 2 → P 3 → P x
four P zero h p q r t = p
four P (suc zero) h p q r t = q
four P (suc (suc zero)) h p q r t = r
four P (suc (suc (suc zero))) h p q r t = t
four P (suc (suc (suc (suc x)))) h p q r t = absurd (omega arith)

-- the exclusive or of two mark values, by its bits
abbrev XorBits : ℕ → ℕ → Type 0
XorBits r m = bit_xor r m ≡ bit (on_a r ⊕ on_a m) + 2 * bit (on_b r ⊕ on_b m)

xor_bits : (r m : ℕ) → r ≤ 3 → m ≤ 3 → XorBits r m
xor_bits r m h k =
    four (λ x. XorBits x m) r h
    (four (XorBits 0) m k refl refl refl refl)
    (four (XorBits 1) m k refl refl refl refl)
    (four (XorBits 2) m k refl refl refl refl)
    (four (XorBits 3) m k refl refl refl refl)

-- the copy that a mark leads to from state y's
pub copy_xor : (y m : ℕ) → m ≤ 3 → bit_xor (y % 4) m ≡ bit (on_a y ⊕ on_a m) + 2 * bit (on_b y ⊕ on_b m)
copy_xor y m h =
    xor_bits (y % 4) m (omega arith) h
    ∙ ap₂ (λ a b. bit (a ⊕ on_a m) + 2 * bit (b ⊕ on_b m)) (ap (λ x. eqb x 1) low) (ap (λ x. eqb x 1) high)
  where
    low : y % 4 % 2 ≡ y % 2
    low = omega arith

    high : y % 4 / 2 % 2 ≡ y / 2 % 2
    high = omega arith

-- the other end of an edge

-- v is an end of edge e: the first, or the second and not the first
pub end_cases :
    {A : Type 0} (B : Board) (e v : ℕ) → touches B e v ≡ true → (first_end B e ≡ v → A) →
    (second_end B e ≡ v → eqb (first_end B e) v ≡ false → A) → A
end_cases {A} B e v t one two = go (eqb (first_end B e) v) (eqb (second_end B e) v) refl refl t
  where
    go : (x y : Bool) → eqb (first_end B e) v ≡ x → eqb (second_end B e) v ≡ y → (x || y) ≡ true → A
    go true y p q r = one (eqb-true (first_end B e) v p)
    go false true p q r = two (eqb-true (second_end B e) v q) p
    go false false p q r = absurd (false≢true r)

pub first_touches : (B : Board) (e v : ℕ) → first_end B e ≡ v → touches B e v ≡ true
first_touches B e v q = rw (eq-eqb (first_end B e) v q)

pub second_touches : (B : Board) (e v : ℕ) → second_end B e ≡ v → touches B e v ≡ true
second_touches B e v q = rw (eq-eqb (second_end B e) v q) (go (eqb (first_end B e) v))
  where
    go : (x : Bool) → (x || true) ≡ true
    go true = refl
    go false = refl

pub other_first : (B : Board) (e v : ℕ) → first_end B e ≡ v → other_end B e v ≡ second_end B e
other_first B e v q = rw (eq-eqb (first_end B e) v q)

-- where the ends are equal, so is what is across
pub other_second : (B : Board) (e v : ℕ) → second_end B e ≡ v → other_end B e v ≡ first_end B e
other_second B e v q = go (eqb (first_end B e) v) refl
  where
    go : (x : Bool) → eqb (first_end B e) v ≡ x → cond x (second_end B e) (first_end B e) ≡ first_end B e
    go true p = q ∙ sym (eqb-true (first_end B e) v p)
    go false p = refl

pub other_touches : (B : Board) (e v : ℕ) → touches B e (other_end B e v) ≡ true
other_touches B e v = go (eqb (first_end B e) v)
  where
    go : (x : Bool) → touches B e (cond x (second_end B e) (first_end B e)) ≡ true
    go true = second_touches B e (second_end B e) refl
    go false = first_touches B e (first_end B e) refl

pub other_back : (B : Board) (e v : ℕ) → touches B e v ≡ true → other_end B e (other_end B e v) ≡ v
other_back B e v t =
    end_cases B e v t
    (λ q. ap (other_end B e) (other_first B e v q) ∙ other_second B e (second_end B e) refl ∙ q)
    (λ q p. ap (other_end B e) (other_second B e v q) ∙ other_first B e (first_end B e) refl ∙ q)

pub other_bound : (B : Board) → Valid B → (e v : ℕ) → e < edges B → other_end B e v < B.vertices
other_bound B valid e v h = go (eqb (first_end B e) v)
  where
    go : (x : Bool) → cond x (second_end B e) (first_end B e) < B.vertices
    go true = valid.inside.second_in_range e h
    go false = valid.inside.first_in_range e h

-- the state across an edge

pub across_vertex : (B : Board) (y e : ℕ) → across B y e / 4 ≡ other_end B e (y / 4)
unfolding across
across_vertex B y e = state_vertex (other_end B e (y / 4)) (on_a y ⊕ crosses_a B e) (on_b y ⊕ crosses_b B e)

pub across_on_a : (B : Board) (y e : ℕ) → on_a (across B y e) ≡ on_a y ⊕ crosses_a B e
unfolding across
across_on_a B y e = state_on_a (other_end B e (y / 4)) (on_a y ⊕ crosses_a B e) (on_b y ⊕ crosses_b B e)

pub across_on_b : (B : Board) (y e : ℕ) → on_b (across B y e) ≡ on_b y ⊕ crosses_b B e
unfolding across
across_on_b B y e = state_on_b (other_end B e (y / 4)) (on_a y ⊕ crosses_a B e) (on_b y ⊕ crosses_b B e)

pub across_bound : (B : Board) → Valid B → (y e : ℕ) → e < edges B → across B y e < 4 * B.vertices
unfolding across
across_bound B valid y e h =
    state_bound B.vertices (other_end B e (y / 4)) (on_a y ⊕ crosses_a B e) (on_b y ⊕ crosses_b B e) (other_bound B valid e (y / 4) h)

pub across_touches : (B : Board) (y e : ℕ) → touches B e (across B y e / 4) ≡ true
across_touches B y e = ap (touches B e) (across_vertex B y e) ∙ other_touches B e (y / 4)

-- an edge leads back to where it came from
pub across_back : (B : Board) (y e : ℕ) → touches B e (y / 4) ≡ true → across B (across B y e) e ≡ y
across_back B y e t = parts (across B y e) (across_vertex B y e) (across_on_a B y e) (across_on_b B y e) ∙ state_parts y
  where
    parts :
        (z : ℕ) → z / 4 ≡ other_end B e (y / 4) → on_a z ≡ on_a y ⊕ crosses_a B e → on_b z ≡ on_b y ⊕ crosses_b B e →
        across B z e ≡ state (y / 4) (on_a y) (on_b y)
    parts z p q r = unfold across in rw (p, q, r, other_back B e (y / 4) t, xor_twice (on_a y) (crosses_a B e), xor_twice (on_b y) (crosses_b B e))

-- the way it is computed

pub across_to_second :
    (B : Board) → Valid B → (y e : ℕ) → e < edges B → first_end B e ≡ y / 4 →
    4 * second_end B e + bit_xor (y % 4) (mark B e) ≡ across B y e
unfolding across
across_to_second B valid y e h q = rw (copy_xor y (mark B e) (valid.mark_in_range e h), eq-eqb (first_end B e) (y / 4) q)

pub across_to_first :
    (B : Board) → Valid B → (y e : ℕ) → e < edges B → (first_end B e ≡ y / 4 → ⊥) →
    4 * first_end B e + bit_xor (y % 4) (mark B e) ≡ across B y e
unfolding across
across_to_first B valid y e h q = rw (copy_xor y (mark B e) (valid.mark_in_range e h), ne_eqb (first_end B e) (y / 4) q)
