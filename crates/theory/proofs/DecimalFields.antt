-- Parting a list of bytes at a separator and joining the pieces undo each other; a line's fields and their numbers.
-- Assumes nothing.
use Prim.Native.Nat.{ℕ, zero, suc, ◌/◌, ◌%◌, ◌<◌}
use mathlib.Core.Path.{◌≡◌, refl, sym, ap, ap₂, ◌∙◌}
use mathlib.Core.Logic.{◌≢◌}
use mathlib.Core.Bool.{Bool, true, false, cond}
use mathlib.Core.List.{List, [], ◌∷◌, ◌++◌, map, append-nil}
use mathlib.Core.Option.{some, some-injective}
use native.Mathlib.Omega.{arith}
use borrow.Author.Tests.{eqb-true, eq-eqb, ne_eqb}
use lib.Dec.{eqb}
use Rattle.model.specs.Text.{tab, digit_zero, before, decimal_up_to, decimal, fields_of, in_front, parted_by, number, numbers}
use Rattle.theory.proofs.Options.{and_then_lem}
use Rattle.theory.proofs.Decimals.{digit, number_decimal, number_is}

-- the byte p is not on the list
pub data Without (p : ℕ) : List ℕ → Type 0 where
  nowhere : Without p []
  besides : {b : ℕ} {bs : List ℕ} → b ≢ p → Without p bs → Without p (b ∷ bs)

pub without_append : {p : ℕ} {bs cs : List ℕ} → Without p bs → Without p cs → Without p (bs ++ cs)
without_append nowhere w = w
without_append (besides h v) w = besides h (without_append v w)

digit_apart : (p d : ℕ) → p < digit_zero → digit d ≢ p
digit_apart p d h e = omega arith

-- a separator is no digit, so that numbers hold none
decimal_up_to_without : (p k n : ℕ) → p < digit_zero → Without p (decimal_up_to k n)
unfolding decimal_up_to
decimal_up_to_without p zero n h = besides (digit_apart p (n % 10) h) nowhere
decimal_up_to_without p (suc k) n h =
    without_append (go (λ m. decimal_up_to_without p k m h) (n / 10)) (besides (digit_apart p (n % 10) h) nowhere)
  where
    go : ((m : ℕ) → Without p (decimal_up_to k m)) → (q : ℕ) → Without p (before q (decimal_up_to k))
    go earlier zero = nowhere
    go earlier (suc q) = earlier (suc q)

pub decimal_without : (p n : ℕ) → p < digit_zero → Without p (decimal n)
unfolding decimal
decimal_without p n h = decimal_up_to_without p n n h

-- Parting

-- without the separator there is one piece
pub parted_one : {p : ℕ} {bs : List ℕ} → Without p bs → parted_by p bs ≡ bs ∷ []
unfolding parted_by
parted_one nowhere = refl
parted_one {p} (besides {b = b} h w) = rw (ne_eqb b p h, parted_one w)

-- the first separator ends the first piece
pub parted_first : {p : ℕ} {bs : List ℕ} (rest : List ℕ) → Without p bs → parted_by p (bs ++ p ∷ rest) ≡ bs ∷ parted_by p rest
unfolding parted_by
parted_first {p} rest nowhere = rw (eq-eqb p p refl)
parted_first {p} rest (besides {b = b} h w) = rw (ne_eqb b p h, parted_first rest w)

-- there is always a piece
pub data NotEmpty : List (List ℕ) → Type 0 where
  not_empty : {piece : List ℕ} {pieces : List (List ℕ)} → NotEmpty (piece ∷ pieces)

pub parted_not_empty : (p : ℕ) (bs : List ℕ) → NotEmpty (parted_by p bs)
unfolding parted_by
parted_not_empty p [] = not_empty
parted_not_empty p (b ∷ bs) = go (eqb b p) (parted_by p bs)
  where
    go : (t : Bool) (pieces : List (List ℕ)) → NotEmpty (cond t ([] ∷ pieces) (in_front b pieces))
    go true pieces = not_empty
    go false [] = not_empty
    go false (piece ∷ pieces) = not_empty

-- the pieces, each after a separator
unfoldable pub led : ℕ → List (List ℕ) → List ℕ
led p [] = []
led p (piece ∷ pieces) = p ∷ piece ++ led p pieces

-- the pieces with separators between them
unfoldable pub joined : ℕ → List (List ℕ) → List ℕ
unfolding led
joined p [] = []
joined p (piece ∷ pieces) = piece ++ led p pieces

led_joined : (p : ℕ) {pieces : List (List ℕ)} → NotEmpty pieces → led p pieces ≡ p ∷ joined p pieces
unfolding joined
led_joined p not_empty = refl

joined_front : (p b : ℕ) (pieces : List (List ℕ)) → joined p (in_front b pieces) ≡ b ∷ joined p pieces
unfolding joined
joined_front p b [] = refl
joined_front p b (piece ∷ pieces) = refl

-- what was parted, joined again
pub joined_parted : (p : ℕ) (bs : List ℕ) → joined p (parted_by p bs) ≡ bs
unfolding joined parted_by
joined_parted p [] = refl
joined_parted p (b ∷ bs) = go (joined_parted p bs) (eqb b p) refl
  where
    go : joined p (parted_by p bs) ≡ bs → (t : Bool) → eqb b p ≡ t
        → joined p (cond t ([] ∷ parted_by p bs) (in_front b (parted_by p bs))) ≡ b ∷ bs
    go later true e = led_joined p (parted_not_empty p bs) ∙ ap₂ (λ c cs. c ∷ cs) (sym (eqb-true b p e)) later
    go later false e = joined_front p b (parted_by p bs) ∙ ap (λ cs. b ∷ cs) later

-- Fields

-- the printed fields after a first one are parted into their numbers' digits
pub parted_fields : {f : List ℕ} (ns : List ℕ) → Without tab f → parted_by tab (f ++ fields_of ns) ≡ f ∷ map decimal ns
unfolding fields_of
parted_fields {f} [] w = rw (append-nil f) (parted_one w)
parted_fields {f} (n ∷ ns) w =
    parted_first (decimal n ++ fields_of ns) w ∙ ap (λ fs. f ∷ fs) (parted_fields {f = decimal n} ns (decimal_without tab n (omega arith)))

pub numbers_read : (ns : List ℕ) → numbers (map decimal ns) ≡ some ns
unfolding numbers
numbers_read [] = refl
numbers_read (n ∷ ns) = rw (number_decimal n, numbers_read ns)

-- fields that are numbers are those printed
pub led_fields : (fs : List (List ℕ)) (ns : List ℕ) → numbers fs ≡ some ns → led tab fs ≡ fields_of ns
unfolding numbers led fields_of
led_fields [] ns p = ap fields_of (some-injective _ _ p)
led_fields (f ∷ fs) ns p =
    let v = and_then_lem (number f) _ p in
    let w = and_then_lem (numbers fs) _ v.made in
    ap₂ (λ ds rest. tab ∷ ds ++ rest) (number_is f v.value v.given) (led_fields fs w.value w.given)
    ∙ ap fields_of (some-injective _ _ w.made)
