-- Printing a line and reading it undo each other, and a line's bytes hold no newline. Assumes nothing.
use Prim.Native.Nat.{ℕ, ◌<◌}
use mathlib.Core.Path.{◌≡◌, refl, sym, ap, ap₂, subst, ◌∙◌}
use mathlib.Core.Logic.{◌≢◌}
use mathlib.Core.Bool.{Bool, true, false, cond}
use mathlib.Core.List.{List, [], ◌∷◌}
use mathlib.Core.Option.{Option, none, some, none-ne-some, some-injective}
use native.Mathlib.Omega.{arith}
use borrow.Author.Tests.{eqb-true}
use lib.Dec.{eqb}
use Rattle.model.specs.Text.{newline, tab, digit_zero, Line, V_line, E_line, O_line, S_line, X_line, letter_v, letter_e, letter_o, letter_s, letter_x, letter_of, numbers_of, fields_of, bytes_of, parted_by, numbers, line_of, from_fields, line_from}
use Rattle.theory.proofs.Options.{and_then_lem, passed}
use Rattle.theory.proofs.DecimalFields.{Without, nowhere, besides, without_append, decimal_without, joined, joined_parted, parted_fields, numbers_read, led_fields}

-- letters are past the digits, separators before them
letter_apart : (p : ℕ) (l : Line) → p < digit_zero → letter_of l ≢ p
letter_apart p (V_line n) h e = omega arith
letter_apart p (E_line a b m) h e = omega arith
letter_apart p (O_line v) h e = omega arith
letter_apart p (S_line v) h e = omega arith
letter_apart p (X_line x) h e = omega arith

fields_without : (ns : List ℕ) → Without newline (fields_of ns)
unfolding fields_of
fields_without [] = nowhere
fields_without (n ∷ ns) =
    besides {b = tab} (λ e. omega arith) (without_append (decimal_without newline n (omega arith)) (fields_without ns))

pub line_without : (l : Line) → Without newline (bytes_of l)
unfolding bytes_of
line_without l = besides (letter_apart newline l (omega arith)) (fields_without (numbers_of l))

-- a line is made of its letter and its numbers
line_of_lem : (l : Line) → line_of (letter_of l) (numbers_of l) ≡ some l
line_of_lem (V_line n) = refl
line_of_lem (E_line a b m) = refl
line_of_lem (O_line v) = refl
line_of_lem (S_line v) = refl
line_of_lem (X_line e) = refl

-- what is printed is read
pub line_read : (l : Line) → line_from (bytes_of l) ≡ some l
unfolding line_from bytes_of from_fields
line_read l =
    rw (parted_fields (numbers_of l) (besides (letter_apart tab l (omega arith)) nowhere), numbers_read (numbers_of l)) (line_of_lem l)

-- what is read is what is printed
-- a line made of a letter and numbers has that letter and those numbers
pub record Made (letter : ℕ) (ns : List ℕ) (l : Line) : Type 0 where
  pub letter_is : letter_of l ≡ letter
  pub numbers_are : numbers_of l ≡ ns

pub made : (letter : ℕ) (ns : List ℕ) (l : Line) → line_of letter ns ≡ some l → Made letter ns l
made letter [] l p = absurd (none-ne-some _ p)
made letter (n ∷ []) l p =
    by_letter letter_v (V_line n) _ refl refl (by_letter letter_o (O_line n) _ refl refl (by_letter letter_s (S_line n) _ refl refl
    (by_letter letter_x (X_line n) none refl refl (λ q. absurd (none-ne-some _ q))))) p
  where
    -- the line with the letter c, or what comes of another letter
    by_letter : (c : ℕ) (k : Line) (o : Option Line) → letter_of k ≡ c → numbers_of k ≡ n ∷ [] → (o ≡ some l → Made letter (n ∷ []) l)
        → cond (eqb letter c) (some k) o ≡ some l → Made letter (n ∷ []) l
    by_letter c k o is are other q = go (eqb letter c) refl q
      where
        go : (t : Bool) → eqb letter c ≡ t → cond t (some k) o ≡ some l → Made letter (n ∷ []) l
        go true e r =
            subst (Made letter (n ∷ [])) (some-injective _ _ r)
            (record { letter_is = is ∙ sym (eqb-true letter c e); numbers_are = are })
        go false e r = other r
made letter (a ∷ b ∷ []) l p = absurd (none-ne-some _ p)
made letter (a ∷ b ∷ m ∷ []) l p =
    let w = passed (eqb letter letter_e) (some (E_line a b m)) p in
    subst (Made letter (a ∷ b ∷ m ∷ [])) (some-injective _ _ w.kept)
    (record { letter_is = sym (eqb-true letter letter_e w.test); numbers_are = refl })
made letter (a ∷ b ∷ m ∷ n ∷ ns) l p = absurd (none-ne-some _ p)

from_fields_lem : (pieces : List (List ℕ)) (l : Line) → from_fields pieces ≡ some l → joined tab pieces ≡ bytes_of l
unfolding from_fields joined bytes_of
from_fields_lem [] l p = absurd (none-ne-some _ p)
from_fields_lem ([] ∷ fs) l p = absurd (none-ne-some _ p)
from_fields_lem ((letter ∷ []) ∷ fs) l p =
    let v = and_then_lem (numbers fs) (line_of letter) p in
    let w = made letter v.value l v.made in
    ap (λ bs. letter ∷ bs) (led_fields fs v.value v.given)
    ∙ ap₂ (λ c ns. c ∷ fields_of ns) (sym w.letter_is) (sym w.numbers_are)
from_fields_lem ((letter ∷ b ∷ bs) ∷ fs) l p = absurd (none-ne-some _ p)

pub read_line : (bytes : List ℕ) (l : Line) → line_from bytes ≡ some l → bytes ≡ bytes_of l
unfolding line_from
read_line bytes l p = sym (joined_parted tab bytes) ∙ from_fields_lem (parted_by tab bytes) l p
