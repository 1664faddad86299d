-- What a field reads as, one byte at a time. Assumes nothing.
use Prim.Native.Nat.{ℕ, suc, ◌+◌, ◌*◌, ◌-◌, ◌≤◌, ◌<◌}
use mathlib.Core.Path.{◌≡◌, refl}
use mathlib.Core.Bool.{Bool, true, false, cond, ◌&&◌, and-false}
use mathlib.Core.List.{List, [], ◌∷◌}
use mathlib.Core.Option.{Option, none, some, none-ne-some}
use native.Mathlib.Nat.{add-zero, le_refl}
use native.Mathlib.Omega.{arith}
use borrow.Author.Tests.{leb-true, ltb-true, eq-eqb, ne_eqb, le-leb, lt-leb, lt-ltb}
use lib.ListN.{length, get_or, drop}
use lib.Dec.{eqb, leb, ltb}
use Rattle.model.proofs.Xor.{and_left, and_right}
use Rattle.model.specs.Board.{edge_limit}
use Rattle.model.specs.Text.{tab, digit_zero, is_digit, number_from, number}
use Rattle.model.proofs.Contradiction.{zero_one}
use Rattle.std.specs.declared.option.Option as answer
use Rattle.std.specs.Prelude.{Some, None}
use Rattle.text.specs.declared.field.Field.{Field}
use Rattle.text.specs.Pieces.{up_to}
use Rattle.text.specs.FieldReadings.{digit_read, limited, found, as_field, field_read}
use Rattle.text.proofs.PieceLaws.{up_to_at, up_to_end}

-- the field with these bytes left, whose digits so far made v and end at a position
pub resumed : ℕ → ℕ → List ℕ → answer.Option Field
resumed v end bytes = as_field (limited (number_from v bytes)) (end + length bytes)

-- what the two answers about a byte say of it
pub record IsDigit (b d : ℕ) : Type 0 where
  pub test : is_digit b ≡ true
  pub value : d ≡ b - digit_zero
  pub small : d ≤ 9
  pub no_tab : eqb b tab ≡ false

pub a_digit : (b d : ℕ) → digit_read b ≡ Some d → IsDigit b d
unfolding digit_read
a_digit b d p = go (is_digit b) refl p
  where
    go : (t : Bool) → is_digit b ≡ t → cond t (Some (b - digit_zero)) None ≡ Some d → IsDigit b d
    go true q p =
        let e : d ≡ b - digit_zero = cc in
        let low : digit_zero ≤ b = leb-true digit_zero b (and_left (leb digit_zero b) (ltb b 58) q) in
        let high : b < 58 = ltb-true b 58 (and_right (leb digit_zero b) (ltb b 58) q) in
        record { test = q; value = e; small = omega arith; no_tab = ne_eqb b tab (λ x. omega arith) }
    go false q p = zero_one (cc)

pub no_digit : (b : ℕ) → digit_read b ≡ None → is_digit b ≡ false
unfolding digit_read
no_digit b p = go (is_digit b) refl p
  where
    go : (t : Bool) → is_digit b ≡ t → cond t (Some (b - digit_zero)) None ≡ None → is_digit b ≡ false
    go true q p = zero_one (cc)
    go false q p = q

-- the number is at least what its first digits made
pub at_least : (bytes : List ℕ) (v n : ℕ) → number_from v bytes ≡ some n → v ≤ n
unfolding number_from
at_least [] v n p = let e : v ≡ n = cc in omega arith
at_least (b ∷ bs) v n p = go (at_least bs (10 * v + (b - digit_zero)) n) (is_digit b && ltb 0 v) refl p
  where
    go : (number_from (10 * v + (b - digit_zero)) bs ≡ some n → 10 * v + (b - digit_zero) ≤ n) → (t : Bool) → (is_digit b && ltb 0 v) ≡ t
        → cond t (number_from (10 * v + (b - digit_zero)) bs) none ≡ some n → v ≤ n
    go later true q p = omega (arith, later p)
    go later false q p = absurd (none-ne-some n p)

pub too_large : (v end : ℕ) (bytes : List ℕ) → edge_limit < v → resumed v end bytes ≡ None
unfolding resumed
too_large v end bytes h = go (number_from v bytes) refl
  where
    go : (o : Option ℕ) → number_from v bytes ≡ o → as_field (limited o) (end + length bytes) ≡ None
    go none p = refl
    go (some n) p = rw (lt-leb n edge_limit (omega (arith, at_least bytes v n p)))

pub ends : (v end : ℕ) → v ≤ edge_limit → resumed v end [] ≡ found v end
unfolding resumed number_from
ends v end h = rw (le-leb v edge_limit h, add-zero end)

further : (l : List ℕ) (i : ℕ) → i + suc (length (up_to tab (drop (i + 1) l))) ≡ i + 1 + length (up_to tab (drop (i + 1) l))
further l i = omega arith

-- at position i of a line l
module _ (l : List ℕ) (i : ℕ) (inside : i < length l) where
  pub begins : (d : ℕ) → digit_read (get_or l i 0) ≡ Some d
      → field_read i (up_to tab (drop i l)) ≡ resumed d (i + 1) (up_to tab (drop (i + 1) l))
  unfolding field_read resumed number
  begins d p =
      let w = a_digit (get_or l i 0) d p in
      rw (up_to_at tab l i inside, w.no_tab, w.test, w.value, further l i)

  pub begins_not : digit_read (get_or l i 0) ≡ None → field_read i (up_to tab (drop i l)) ≡ None
  unfolding field_read number
  begins_not p = rw (up_to_at tab l i inside) (go (eqb (get_or l i 0) tab))
    where
      go : (t : Bool) → field_read i (cond t [] (get_or l i 0 ∷ up_to tab (drop (i + 1) l))) ≡ None
      go true = refl
      go false = rw (no_digit (get_or l i 0) p)

  pub goes_on : (v d : ℕ) → digit_read (get_or l i 0) ≡ Some d → (v ≡ 0 → ⊥)
      → resumed v i (up_to tab (drop i l)) ≡ resumed (10 * v + d) (i + 1) (up_to tab (drop (i + 1) l))
  unfolding resumed number_from
  goes_on v d p h =
      let w = a_digit (get_or l i 0) d p in
      rw (up_to_at tab l i inside, w.no_tab, w.test, lt-ltb 0 v (omega arith), w.value, further l i)

  pub goes_on_not : (v : ℕ) → (get_or l i 0 ≡ tab → ⊥) → digit_read (get_or l i 0) ≡ None → resumed v i (up_to tab (drop i l)) ≡ None
  unfolding resumed number_from
  goes_on_not v p q = rw (up_to_at tab l i inside, ne_eqb (get_or l i 0) tab p, no_digit (get_or l i 0) q)

  -- nothing follows a leading zero
  pub after_zero : (v : ℕ) → (get_or l i 0 ≡ tab → ⊥) → v ≡ 0 → resumed v i (up_to tab (drop i l)) ≡ None
  unfolding resumed number_from
  after_zero v p q = rw (up_to_at tab l i inside, ne_eqb (get_or l i 0) tab p, q, and-false (is_digit (get_or l i 0)))

  pub ends_at_tab : (v : ℕ) → get_or l i 0 ≡ tab → v ≤ edge_limit → resumed v i (up_to tab (drop i l)) ≡ found v i
  ends_at_tab v p h = rw (up_to_at tab l i inside, eq-eqb (get_or l i 0) tab p) (ends v i h)

pub ends_at_end : (l : List ℕ) (i v : ℕ) → i ≡ length l → v ≤ edge_limit → resumed v i (up_to tab (drop i l)) ≡ found v (length l)
ends_at_end l i v out h = rw (out, up_to_end tab l (length l) (le_refl _)) (ends v (length l) h)

pub nothing_at_end : (l : List ℕ) (i : ℕ) → length l ≤ i → field_read i (up_to tab (drop i l)) ≡ None
unfolding field_read number
nothing_at_end l i out = rw (up_to_end tab l i out)
