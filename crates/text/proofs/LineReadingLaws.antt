-- What a line reads as, from its letter and its fields. Assumes nothing.
use Prim.Native.Nat.{ℕ, zero, suc, ◌+◌, ◌-◌, ◌≤◌, ◌<◌}
use mathlib.Core.Path.{◌≡◌, refl, sym, ap, ◌∙◌}
use mathlib.Core.Bool.{Bool, true, false, cond, ◌&&◌}
use mathlib.Core.List.{List, [], ◌∷◌}
use mathlib.Core.Option.{Option, none, some}
use native.Mathlib.Omega.{arith}
use borrow.Author.Tests.{eqb-true, eq-eqb, ne_eqb}
use lib.ListN.{length, get_or, take, drop}
use lib.Dec.{eqb, leb}
use Rattle.model.specs.Board.{edge_limit}
use Rattle.model.specs.Text.{Line, newline, tab, letter_e, number, numbers, line_of, and_then, in_front, parted_by, from_fields, line_from}
use Rattle.theory.proofs.TextLines.{made}
use Rattle.model.proofs.Contradiction.{zero_one}
use Rattle.std.specs.declared.option.Option as answer
use Rattle.std.specs.Prelude.{Some, None}
use Rattle.text.specs.declared.field.Field.{Field}
use Rattle.text.specs.declared.line.Line as reader
use Rattle.text.specs.declared.line.Line.TheVariants as variants
use Rattle.text.specs.Pieces.{up_to}
use Rattle.text.specs.FieldReadings.{limited, as_field, field_read}
use Rattle.text.specs.LineReadings.{as_parsed, small, limited_line, line_parsed, small_numbers, fields_parsed, number_parsed, as_read, line_read_at}
use Rattle.text.proofs.PieceLaws.{Parted, parted, pieces_at, one_piece_at, take_up_to}

-- where every field is a small number, the numbers are small, and the reverse
small_fields : (fs : List (List ℕ)) → small_numbers fs ≡ and_then (numbers fs) (λ ns. cond (small ns) (some ns) none)
unfolding numbers
small_fields [] = refl
small_fields (f ∷ fs) = go (number f) (numbers fs) (small_fields fs)
  where
    both : (n : ℕ) (ns : List ℕ) (x y : Bool)
        → and_then (cond x (some n) none) (λ n. and_then (cond y (some ns) none) (λ ns. some (n ∷ ns))) ≡ cond (x && y) (some (n ∷ ns)) none
    both n ns true true = refl
    both n ns true false = refl
    both n ns false y = refl

    neither : (x : Bool) (n : ℕ) → and_then (cond x (some n) none) (λ n. and_then none (λ ns. some (n ∷ ns))) ≡ none
    neither true n = refl
    neither false n = refl

    go : (o : Option ℕ) (os : Option (List ℕ)) → small_numbers fs ≡ and_then os (λ ns. cond (small ns) (some ns) none)
        → and_then (limited o) (λ n. and_then (small_numbers fs) (λ ns. some (n ∷ ns)))
        ≡ and_then (and_then o (λ n. and_then os (λ ns. some (n ∷ ns)))) (λ ns. cond (small ns) (some ns) none)
    go none os p = refl
    go (some n) none p = rw p (neither (leb n edge_limit) n)
    go (some n) (some ns) p = rw p (both n ns (leb n edge_limit) (small ns))

-- a line of small numbers, by its fields
pub by_fields : (letter : ℕ) (fs : List (List ℕ)) → line_parsed (and_then (numbers fs) (line_of letter)) ≡ fields_parsed letter fs
unfolding fields_parsed
by_fields letter fs =
    ap as_parsed (go (numbers fs) ∙ sym (ap (λ o. and_then o (line_of letter)) (small_fields fs)))
  where
    cut : (ns : List ℕ) (o : Option Line) → line_of letter ns ≡ o
        → limited_line o ≡ and_then (cond (small ns) (some ns) none) (line_of letter)
    cut ns none p = nothing (small ns)
      where
        nothing : (x : Bool) → none ≡ and_then (cond x (some ns) none) (line_of letter)
        nothing true = sym p
        nothing false = refl
    cut ns (some l) p = rw (made letter ns l p).numbers_are (same (small ns))
      where
        same : (x : Bool) → cond x (some l) none ≡ and_then (cond x (some ns) none) (line_of letter)
        same true = sym p
        same false = refl

    go : (o : Option (List ℕ))
        → limited_line (and_then o (line_of letter)) ≡ and_then (and_then o (λ ns. cond (small ns) (some ns) none)) (line_of letter)
    go none = refl
    go (some ns) = cut ns (line_of letter ns) refl

-- The first field's answer

pub record FieldIs (i : ℕ) (f : List ℕ) (w : Field) : Type 0 where
  pub value : limited (number f) ≡ some w.value
  pub end : i + length f ≡ w.end

pub a_field : (i : ℕ) (f : List ℕ) (w : Field) → field_read i f ≡ Some w → FieldIs i f w
unfolding field_read
a_field i f w p = go (limited (number f)) refl p
  where
    go : (o : Option ℕ) → limited (number f) ≡ o → as_field o (i + length f) ≡ Some w → FieldIs i f w
    go none q p = zero_one (cc)
    go (some k) q p =
        let same : ◌≡◌ {A = Field} (record { value = k; end = i + length f }) w = cc in
        record { value = q ∙ ap (λ (x : Field). some x.value) same; end = ap (λ (x : Field). x.end) same }

pub no_field : (i : ℕ) (f : List ℕ) → field_read i f ≡ None → limited (number f) ≡ none
unfolding field_read
no_field i f p = go (limited (number f)) refl p
  where
    go : (o : Option ℕ) → limited (number f) ≡ o → as_field o (i + length f) ≡ None → limited (number f) ≡ none
    go none q p = q
    go (some k) q p = zero_one (cc)

-- The fields of a line from a position on, by the answer about the first of them

module _ (l : List ℕ) (i : ℕ) where
  pub bad_field : field_read i (up_to tab (drop i l)) ≡ None → small_numbers (parted_by tab (drop i l)) ≡ none
  bad_field p = rw ((parted tab (drop i l)).are, no_field i (up_to tab (drop i l)) p)

  pub last_field : (w : Field) → field_read i (up_to tab (drop i l)) ≡ Some w → length l ≤ w.end
      → small_numbers (parted_by tab (drop i l)) ≡ some (w.value ∷ [])
  last_field w p h =
      let is = a_field i (up_to tab (drop i l)) w p in
      rw (one_piece_at tab l i w.end is.end h, is.value)

  pub field_before : (w : Field) → field_read i (up_to tab (drop i l)) ≡ Some w → w.end < length l
      → small_numbers (parted_by tab (drop i l)) ≡ and_then (small_numbers (parted_by tab (drop (w.end + 1) l))) (λ ns. some (w.value ∷ ns))
  field_before w p h =
      let is = a_field i (up_to tab (drop i l)) w p in
      rw (pieces_at tab l i w.end is.end h, is.value)

-- there is always one field more to read after a tab, so that these are too many
pub four_numbers : (a b m : ℕ) (l : List ℕ)
    → and_then (and_then (and_then (and_then (small_numbers (parted_by tab l)) (λ ns. some (m ∷ ns))) (λ ns. some (b ∷ ns))) (λ ns. some (a ∷ ns))) (line_of letter_e)
    ≡ none
four_numbers a b m l = rw (parted tab l).are (go (limited (number (up_to tab l))) (small_numbers (parted tab l).others))
  where
    go : (x : Option ℕ) (y : Option (List ℕ))
        → and_then (and_then (and_then (and_then (and_then x (λ n. and_then y (λ ns. some (n ∷ ns)))) (λ ns. some (m ∷ ns))) (λ ns. some (b ∷ ns))) (λ ns. some (a ∷ ns))) (line_of letter_e)
        ≡ none
    go none y = refl
    go (some n) none = refl
    go (some n) (some ns) = refl

pub two_numbers : (letter n : ℕ) (l : List ℕ) → (letter ≡ letter_e → ⊥)
    → and_then (and_then (small_numbers (parted_by tab l)) (λ ns. some (n ∷ ns))) (line_of letter) ≡ none
two_numbers letter n l other = rw (parted tab l).are (go (limited (number (up_to tab l))) (small_numbers (parted tab l).others))
  where
    none_of : (a b : ℕ) (ns : List ℕ) → line_of letter (a ∷ b ∷ ns) ≡ none
    none_of a b [] = refl
    none_of a b (m ∷ []) = rw (ne_eqb letter letter_e other)
    none_of a b (m ∷ k ∷ ns) = refl

    go : (x : Option ℕ) (y : Option (List ℕ))
        → and_then (and_then (and_then x (λ n. and_then y (λ ns. some (n ∷ ns)))) (λ ns. some (n ∷ ns))) (line_of letter) ≡ none
    go none y = refl
    go (some b) none = refl
    go (some b) (some ns) = none_of n b ns

-- An edge's line, field by field

module _ (l : List ℕ) where
  abbrev edge_parsed : answer.Option reader.Line
  edge_parsed = fields_parsed letter_e (parted_by tab (drop 2 l))

  pub bad_first : field_read 2 (up_to tab (drop 2 l)) ≡ None → edge_parsed ≡ None
  unfolding fields_parsed
  bad_first p = rw (bad_field l 2 p)

  module _ (a : Field) (p : field_read 2 (up_to tab (drop 2 l)) ≡ Some a) where
    pub one_field : length l ≤ a.end → edge_parsed ≡ None
    unfolding fields_parsed
    one_field h = rw (last_field l 2 a p h)

    module _ (more : a.end < length l) where
      pub bad_second : field_read (a.end + 1) (up_to tab (drop (a.end + 1) l)) ≡ None → edge_parsed ≡ None
      unfolding fields_parsed
      bad_second q = rw (field_before l 2 a p more, bad_field l (a.end + 1) q)

      module _ (b : Field) (q : field_read (a.end + 1) (up_to tab (drop (a.end + 1) l)) ≡ Some b) where
        pub two_fields : length l ≤ b.end → edge_parsed ≡ None
        unfolding fields_parsed
        two_fields h = rw (field_before l 2 a p more, last_field l (a.end + 1) b q h)

        module _ (yet_more : b.end < length l) where
          pub bad_third : field_read (b.end + 1) (up_to tab (drop (b.end + 1) l)) ≡ None → edge_parsed ≡ None
          unfolding fields_parsed
          bad_third r = rw (field_before l 2 a p more, field_before l (a.end + 1) b q yet_more, bad_field l (b.end + 1) r)

          module _ (m : Field) (r : field_read (b.end + 1) (up_to tab (drop (b.end + 1) l)) ≡ Some m) where
            pub fourth_field : m.end < length l → edge_parsed ≡ None
            unfolding fields_parsed
            fourth_field h =
                rw (field_before l 2 a p more, field_before l (a.end + 1) b q yet_more, field_before l (b.end + 1) m r h)
                (ap as_parsed (four_numbers a.value b.value m.value (drop (m.end + 1) l)))

            pub edge_fields : length l ≤ m.end
                → edge_parsed ≡ Some (variants.Edge (record { 0 = a.value }) (record { 0 = b.value }) m.value)
            unfolding fields_parsed
            edge_fields h = rw (field_before l 2 a p more, field_before l (a.end + 1) b q yet_more, last_field l (b.end + 1) m r h)

-- A whole line

pub too_short : (l : List ℕ) → length l < 2 → line_parsed (line_from l) ≡ None
unfolding line_from from_fields parted_by numbers
too_short [] h = refl
too_short (a ∷ []) h = go (eqb a tab)
  where
    go : (t : Bool) → line_parsed (from_fields (cond t ([] ∷ [] ∷ []) ((a ∷ []) ∷ []))) ≡ None
    go true = refl
    go false = refl
too_short (a ∷ b ∷ l) h = absurd (no_room h)
  where
    no_room : suc (suc (length l)) < 2 → ⊥
    no_room h = omega arith

pub no_tab : (l : List ℕ) → 2 ≤ length l → (get_or l 1 0 ≡ tab → ⊥) → line_parsed (line_from l) ≡ None
unfolding line_from from_fields parted_by
no_tab [] h q = absurd (no_line h)
  where
    no_line : 2 ≤ zero → ⊥
    no_line h = omega arith
no_tab (a ∷ []) h q = absurd (no_room h)
  where
    no_room : 2 ≤ suc zero → ⊥
    no_room h = omega arith
no_tab (a ∷ b ∷ l) h q = rw (ne_eqb b tab q) (go (eqb a tab) (parted tab l))
  where
    go : (t : Bool) → Parted tab l
        → line_parsed (from_fields (cond t ([] ∷ in_front b (parted_by tab l)) (in_front a (in_front b (parted_by tab l))))) ≡ None
    go true w = refl
    go false w = rw w.are

pub tabbed : (l : List ℕ) → 2 ≤ length l → get_or l 1 0 ≡ tab
    → line_parsed (line_from l) ≡ cond (eqb (get_or l 0 0) tab) None (fields_parsed (get_or l 0 0) (parted_by tab (drop 2 l)))
unfolding line_from from_fields parted_by
tabbed [] h q = absurd (no_line h)
  where
    no_line : 2 ≤ zero → ⊥
    no_line h = omega arith
tabbed (a ∷ []) h q = absurd (no_room h)
  where
    no_room : 2 ≤ suc zero → ⊥
    no_room h = omega arith
tabbed (a ∷ b ∷ l) h q = rw (eq-eqb b tab q) (go (eqb a tab))
  where
    go : (t : Bool)
        → line_parsed (from_fields (cond t ([] ∷ [] ∷ parted_by tab l) ((a ∷ []) ∷ parted_by tab l)))
        ≡ cond t None (fields_parsed a (parted_by tab l))
    go true = refl
    go false = by_fields a (parted_by tab l)

-- .. by the answer about its first field

module _ (l : List ℕ) where
  pub edge_letter : get_or l 0 0 ≡ letter_e
      → cond (eqb (get_or l 0 0) tab) None (fields_parsed (get_or l 0 0) (parted_by tab (drop 2 l)))
      ≡ fields_parsed letter_e (parted_by tab (drop 2 l))
  edge_letter p = rw p

  -- whatever the letter is
  either : (r : answer.Option reader.Line) → r ≡ None → cond (eqb (get_or l 0 0) tab) None r ≡ None
  either r p = go (eqb (get_or l 0 0) tab)
    where
      go : (t : Bool) → cond t None r ≡ None
      go true = refl
      go false = p

  pub first_bad : field_read 2 (up_to tab (drop 2 l)) ≡ None
      → cond (eqb (get_or l 0 0) tab) None (fields_parsed (get_or l 0 0) (parted_by tab (drop 2 l))) ≡ None
  unfolding fields_parsed
  first_bad p = either (fields_parsed (get_or l 0 0) (parted_by tab (drop 2 l))) (rw (bad_field l 2 p))

  pub second_field : (w : Field) → field_read 2 (up_to tab (drop 2 l)) ≡ Some w → w.end < length l → (get_or l 0 0 ≡ letter_e → ⊥)
      → cond (eqb (get_or l 0 0) tab) None (fields_parsed (get_or l 0 0) (parted_by tab (drop 2 l))) ≡ None
  unfolding fields_parsed
  second_field w p h other =
      either (fields_parsed (get_or l 0 0) (parted_by tab (drop 2 l)))
      (rw (field_before l 2 w p h) (ap as_parsed (two_numbers (get_or l 0 0) w.value (drop (w.end + 1) l) other)))

  pub only_field : (w : Field) → field_read 2 (up_to tab (drop 2 l)) ≡ Some w → length l ≤ w.end
      → cond (eqb (get_or l 0 0) tab) None (fields_parsed (get_or l 0 0) (parted_by tab (drop 2 l))) ≡ number_parsed (get_or l 0 0) w.value
  unfolding fields_parsed
  only_field w p h = rw (last_field l 2 w p h) (go (eqb (get_or l 0 0) tab) refl)
    where
      go : (t : Bool) → eqb (get_or l 0 0) tab ≡ t → cond t None (number_parsed (get_or l 0 0) w.value) ≡ number_parsed (get_or l 0 0) w.value
      go true q = rw (eqb-true (get_or l 0 0) tab q)
      go false q = refl

-- The line at a position of a text t, whose newline or whose end stands at a position

module _ (t : List ℕ) (at k end : ℕ) (ends : end ≡ at + length (up_to newline (drop at t))) where
  pub no_newline : length t ≤ end → line_read_at at k (parted_by newline (drop at t)) ≡ None
  unfolding line_read_at
  no_newline h = rw (one_piece_at newline t at end (sym ends) h)

  pub newline_at : end < length t
      → line_read_at at k (parted_by newline (drop at t)) ≡ as_read (line_parsed (line_from (take (end - at) (drop at t)))) (end + 1) (k + 1)
  unfolding line_read_at
  newline_at h =
      rw (pieces_at newline t at end (sym ends) h, (parted newline (drop (end + 1) t)).are, ← ends)
      (ap (λ x. as_read (line_parsed (line_from x)) (end + 1) (k + 1))
      (sym (take_up_to newline (drop at t)) ∙ ap (λ n. take n (drop at t)) {x = length (up_to newline (drop at t))} {y = end - at} (omega arith)))
