-- The two lines that marks speak of, taken one at a time: a set winds exactly where it is closed and crosses one of them an odd number
-- of times. Assumes nothing.
use Prim.Native.Nat.{ℕ, ◌+◌, ◌*◌, ◌/◌, ◌%◌, ◌<◌}
use mathlib.Core.Path.{◌≡◌, refl, sym, ap, ap₂, ◌∙◌}
use mathlib.Core.Bool.{Bool, true, false, not, ◌&&◌, and-false, false≢true}
use native.Mathlib.Omega.{arith}
use borrow.Author.Tests.{eqb-true, not-true, not-false}
use lib.Dec.{eqb}
use Rattle.std.proofs.lemmas.Bool.{true_from_ne_false}
use Rattle.model.specs.Sums.{Set, bit, odd_up_to}
use Rattle.model.specs.Board.{Board, edges, mark}
use Rattle.model.specs.Syndrome.{syndrome, HasSyndrome}
use Rattle.model.specs.Winding.{closed, crosses_a, crosses_b, crossings, winds}
use Rattle.model.proofs.Xor.{and_left}
use Rattle.model.proofs.SumLaws.{some_none, none_some, some_cong, odd_cong}
use Rattle.theory.proofs.Syndromes.{syndrome_cong}

-- line A, line B
pub data Line : Type 0 where
  line_a line_b : Line

-- edge e crosses line x
abbrev pub crosses : Board → Line → Set
crosses B line_a = crosses_a B
crosses B line_b = crosses_b B

-- edges with one mark cross the same lines, and an edge with mark 0 crosses none
pub same_mark : (B C : Board) (x : Line) (e f : ℕ) → mark B e ≡ mark C f → crosses B x e ≡ crosses C x f
same_mark B C line_a e f p = ap (λ a. eqb (a % 2) 1) p
same_mark B C line_b e f p = ap (λ a. eqb (a / 2 % 2) 1) p

pub no_mark : (B : Board) (x : Line) (e : ℕ) → mark B e ≡ 0 → crosses B x e ≡ false
no_mark B line_a e p = ap (λ a. eqb (a % 2) 1) p
no_mark B line_b e p = ap (λ a. eqb (a / 2 % 2) 1) p

-- an odd number of the edges of D cross line x
unfoldable pub crosses_oddly : Board → Line → Set → Bool
crosses_oddly B x D = odd_up_to (edges B) (λ e. D e && crosses B x e)

-- D crosses no line an odd number of times
abbrev pub Unmarked : Board → Set → Type 0
Unmarked B D = (x : Line) → crosses_oddly B x D ≡ false

-- the exclusive or of the marks is 0 exactly where both lines are crossed an even number of times
pub unmarked_zero : (B : Board) (D : Set) → Unmarked B D → crossings B D ≡ 0
unfolding crossings crosses_oddly
unmarked_zero B D p = ap₂ (λ a b. bit a + 2 * bit b) (p line_a) (p line_b)

pub zero_unmarked : (B : Board) (D : Set) → crossings B D ≡ 0 → Unmarked B D
unfolding crossings crosses_oddly
zero_unmarked B D p line_a = low (odd_up_to (edges B) (λ e. D e && crosses_a B e)) (odd_up_to (edges B) (λ e. D e && crosses_b B e)) p
  where
    low : (a b : Bool) → bit a + 2 * bit b ≡ 0 → a ≡ false
    low true b q = absurd (omega arith)
    low false b q = refl
zero_unmarked B D p line_b = high (odd_up_to (edges B) (λ e. D e && crosses_a B e)) (odd_up_to (edges B) (λ e. D e && crosses_b B e)) p
  where
    high : (a b : Bool) → bit a + 2 * bit b ≡ 0 → b ≡ false
    high a true q = absurd (omega arith)
    high a false q = refl

-- a closed set is one whose syndrome is empty
abbrev pub Closed : Board → Set → Type 0
Closed B D = HasSyndrome B D (λ v. false)

pub closed_true : (B : Board) (D : Set) → Closed B D → closed B D ≡ true
unfolding closed
closed_true B D c = ap not (none_some B.vertices (syndrome B D) c.at)

pub true_closed : (B : Board) (D : Set) → closed B D ≡ true → Closed B D
unfolding closed
true_closed B D p = record { at = some_none B.vertices (syndrome B D) (not-true _ p) }

-- what winds is closed
pub winds_closed : (B : Board) (D : Set) → winds B D ≡ true → Closed B D
unfolding winds
winds_closed B D p = true_closed B D (and_left (closed B D) _ p)

-- a set that crosses each line an even number of times does not wind
pub unmarked_unwound : (B : Board) (D : Set) → Unmarked B D → winds B D ≡ false
unfolding winds
unmarked_unwound B D p = rw (unmarked_zero B D p) (and-false (closed B D))

-- a closed set that does not wind crosses each line an even number of times
pub unwound_unmarked : (B : Board) (D : Set) → Closed B D → winds B D ≡ false → Unmarked B D
unfolding winds
unwound_unmarked B D c p = zero_unmarked B D (eqb-true (crossings B D) 0 (not-false _ (rw (closed_true B D c) at p)))

-- a closed set that crosses some line an odd number of times winds
pub marked_winds : (B : Board) (D : Set) (x : Line) → Closed B D → crosses_oddly B x D ≡ true → winds B D ≡ true
marked_winds B D x c p = true_from_ne_false (winds B D) (λ q. false≢true (sym (unwound_unmarked B D c q x) ∙ p))

-- a set that is closed where another is, and crosses both lines as that one does, winds where that one does
pub winds_alike : (B C : Board) (D E : Set) → (Closed B D → Closed C E) → ((x : Line) → crosses_oddly B x D ≡ crosses_oddly C x E)
    → winds B D ≡ true → winds C E ≡ true
winds_alike B C D E shut alike w =
    true_from_ne_false (winds C E)
    (λ q.
    let even = unwound_unmarked C E (shut (winds_closed B D w)) q in
    false≢true (sym (unmarked_unwound B D (λ x. alike x ∙ even x)) ∙ w))

-- only the edges below the edge count matter
pub crossings_cong : (B : Board) (D E : Set) → ((e : ℕ) → e < edges B → D e ≡ E e) → crossings B D ≡ crossings B E
unfolding crossings
crossings_cong B D E same = ap₂ (λ a b. bit a + 2 * bit b) (on line_a) (on line_b)
  where
    on : (x : Line) → odd_up_to (edges B) (λ e. D e && crosses B x e) ≡ odd_up_to (edges B) (λ e. E e && crosses B x e)
    on x = odd_cong (edges B) (λ e. D e && crosses B x e) (λ e. E e && crosses B x e) (λ e h. ap (λ b. b && crosses B x e) (same e h))

pub winds_cong : (B : Board) (D E : Set) → ((e : ℕ) → e < edges B → D e ≡ E e) → winds B D ≡ winds B E
unfolding winds closed
winds_cong B D E same =
    ap₂ (λ a b. a && not (eqb b 0))
    (ap not (some_cong B.vertices (syndrome B D) (syndrome B E) (λ v h. syndrome_cong B D E same v)))
    (crossings_cong B D E same)
