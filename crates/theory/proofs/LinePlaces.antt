-- Document 01, "line from 1": a text that is refused has a first malformed line, and the refusal's place is that line's number, one more
-- than the newlines before it; a text with such a line is refused there. Assumes nothing.
use Prim.Native.Nat.{ℕ, suc, ◌+◌}
use mathlib.Core.Path.{◌≡◌, refl, sym, ap, ◌∙◌}
use mathlib.Core.Logic.{◌≢◌, ◌⊎◌, inl, inr, ⊎_map}
use mathlib.Core.Bool.{Bool, true, false}
use mathlib.Core.List.{List, [], ◌∷◌, ◌++◌, append_assoc}
use mathlib.Core.Option.{Option, none, some}
use native.Mathlib.Numerals.{add-one}
use native.Mathlib.Omega.{arith}
use borrow.Author.Tests.{eqb-true, eqb-false, ne_eqb}
use lib.ListN.{length, get_or, take, drop, length-append, take-append-drop}
use lib.Seq.{length-take-le, take-append_seam, drop-append_seam, get_or-append_seam, append_snoc}
use lib.Dec.{eqb}
use Rattle.model.specs.declared.refusal.Refusal.{Refusal}
use Rattle.model.specs.declared.refusal.Refusal.TheVariants.{MalformedLine}
use Rattle.model.specs.Sums.{bit, count_up_to}
use Rattle.model.specs.Board.{Sheet}
use Rattle.model.specs.Refusals.{place_of}
use Rattle.model.specs.Text.{newline, Line, V_line, printed, parted_by, line_from, Read, complete, refused, or_malformed, first_line, begun, step, read_on, read_lines, read_text}
use Rattle.model.specs.LineNumbers.{newlines_before, line_number, LineBegins, first_line_of, IsText, FirstMalformed, FirstMalformedNumber}
use Rattle.model.proofs.CountLaws.{count_first}
use Rattle.theory.proofs.DecimalFields.{Without, nowhere, besides, parted_one, parted_first, NotEmpty, not_empty, parted_not_empty}
use Rattle.theory.proofs.TextLines.{line_without}
use Rattle.theory.proofs.TextReading.{refused_complete, Spells, spelt_on, reads_spelt}

-- The lines of a text

-- a text is one line without a newline, or a line with its newline and a text after it
data Lines : List ℕ → Type 0 where
  bare_line : {bs : List ℕ} → Without newline bs → Lines bs
  full_line : {bs cs : List ℕ} → Without newline bs → Lines cs → Lines (bs ++ newline ∷ cs)

in_front : {bs : List ℕ} (b : ℕ) → b ≢ newline → Lines bs → Lines (b ∷ bs)
in_front b h (bare_line w) = bare_line (besides h w)
in_front b h (full_line w later) = full_line (besides h w) later

lines : (text : List ℕ) → Lines text
lines [] = bare_line nowhere
lines (b ∷ bs) = go (lines bs) (eqb b newline) refl
  where
    go : Lines bs → (t : Bool) → eqb b newline ≡ t → Lines (b ∷ bs)
    go later true e = rw (eqb-true b newline e) (full_line nowhere later)
    go later false e = in_front b (eqb-false b newline e) later

-- the first line of each
first_bare : {bs : List ℕ} → Without newline bs → first_line_of bs ≡ bs
unfolding first_line_of
first_bare nowhere = refl
first_bare (besides {b = b} h w) = rw (ne_eqb b newline h, first_bare w)

first_full : {bs : List ℕ} → Without newline bs → (cs : List ℕ) → first_line_of (bs ++ newline ∷ cs) ≡ bs ++ newline ∷ []
unfolding first_line_of
first_full nowhere cs = refl
first_full (besides {b = b} h w) cs = rw (ne_eqb b newline h, first_full w cs)

-- Newlines

newlines_front : (b : ℕ) (bs : List ℕ) (n : ℕ) → newlines_before (b ∷ bs) (suc n) ≡ bit (eqb b newline) + newlines_before bs n
unfolding newlines_before
newlines_front b bs n = count_first n (λ i. eqb (get_or (b ∷ bs) i 0) newline)

-- a line with its newline holds one newline
line_newline : {bs : List ℕ} → Without newline bs → (cs rest : List ℕ)
    → newlines_before (bs ++ newline ∷ cs ++ rest) (length (bs ++ newline ∷ cs)) ≡ suc (newlines_before (cs ++ rest) (length cs))
line_newline nowhere cs rest = newlines_front newline (cs ++ rest) (length cs) ∙ omega arith
line_newline (besides {b = b} {bs = bs} h w) cs rest =
    newlines_front b (bs ++ newline ∷ cs ++ rest) (length (bs ++ newline ∷ cs))
    ∙ rw (ne_eqb b newline h) (omega (arith, line_newline w cs rest))

-- as many newlines as lines
printed_newlines : (ls : List Line) (rest : List ℕ) → newlines_before (printed ls ++ rest) (length (printed ls)) ≡ length ls
unfolding printed newlines_before count_up_to
printed_newlines [] rest = refl
printed_newlines (l ∷ ls) rest = line_newline (line_without l) (printed ls) rest ∙ ap suc (printed_newlines ls rest)

-- a text that reads has a newline for its `V` line and one for each line after it
spelt_newlines : {text : List ℕ} {Y : Sheet} (rest : List ℕ) (t : Spells text Y) → newlines_before (text ++ rest) (length text) ≡ suc (length t.lines)
spelt_newlines rest t = rw t.text_is (printed_newlines (V_line t.vertices ∷ t.lines) rest)

-- A first line with which no sheet is read ends the reading, whatever follows it

-- it doesn't come to a sheet
abbrev Unread : Read → Type 0
Unread r = (Y : Sheet) → r ≡ complete Y → ⊥

-- the short way to go on comes to no sheet; then the long way is refused, where that holds for each value to go on with
or_refused : {A : Type 0} (k : ℕ) (o : Option A) (short long : A → Read) → ((a : A) → Unread (short a) → long a ≡ refused (MalformedLine k))
    → Unread (or_malformed k o short) → or_malformed k o long ≡ refused (MalformedLine k)
or_refused k none short long later un = refl
or_refused k (some a) short long later un = later a un

-- a last line without a newline, and a line that others follow
on_bare : (X : Sheet) (last : Line) (k : ℕ) (bs : List ℕ) → Unread (read_on X last k (bs ∷ [])) → read_on X last k (bs ∷ []) ≡ refused (MalformedLine k)
unfolding read_on
on_bare X last k [] un = absurd (un X refl)
on_bare X last k (b ∷ bs) un = refl

on_full : (X : Sheet) (last : Line) (k : ℕ) (bs : List ℕ) {pieces : List (List ℕ)} → NotEmpty pieces
    → Unread (read_on X last k (bs ∷ parted_by newline [])) → read_on X last k (bs ∷ pieces) ≡ refused (MalformedLine k)
unfolding read_on parted_by
on_full X last k bs not_empty un =
    or_refused k (line_from bs) _ _ (λ l. or_refused k (step X last l) _ _ (λ Y none_read. absurd (none_read Y refl))) un

on_refused : (X : Sheet) (last : Line) (k : ℕ) {rest : List ℕ} → Lines rest
    → Unread (read_on X last k (parted_by newline (first_line_of rest))) → read_on X last k (parted_by newline rest) ≡ refused (MalformedLine k)
on_refused X last k (bare_line {bs = bs} w) un =
    rw (parted_one w) (on_bare X last k bs (rw (first_bare w, parted_one w) at un))
on_refused X last k (full_line {bs = bs} {cs = cs} w later) un =
    rw (parted_first cs w) (on_full X last k bs (parted_not_empty newline cs) (rw (first_full w cs, parted_first [] w) at un))

-- the same for line 1
lines_full : (bs : List ℕ) {pieces : List (List ℕ)} → NotEmpty pieces → Unread (read_lines (bs ∷ parted_by newline []))
    → read_lines (bs ∷ pieces) ≡ refused (MalformedLine 1)
unfolding read_lines read_on parted_by
lines_full bs not_empty un =
    or_refused 1 (line_from bs) _ _ (λ l. or_refused 1 (first_line l) _ _ (λ n none_read. absurd (none_read (begun n) refl))) un

text_refused : {text : List ℕ} → Lines text → Unread (read_text (first_line_of text)) → read_text text ≡ refused (MalformedLine 1)
unfolding read_text read_lines
text_refused (bare_line w) un = rw (parted_one w)
text_refused (full_line {bs = bs} {cs = cs} w later) un =
    rw (parted_first cs w) (lines_full bs (parted_not_empty newline cs) (rw (first_full w cs, parted_first [] w) at un))

-- A text with a first malformed line is refused there

-- lines that are a text, or none, and the line after them
refused_after : {before rest : List ℕ} → (before ≡ []) ⊎ IsText before → Lines rest → (IsText (before ++ first_line_of rest) → ⊥)
    → read_text (before ++ rest) ≡ refused (MalformedLine (line_number (before ++ rest) (length before)))
unfolding newlines_before count_up_to
refused_after (inl e) l un = rw e (text_refused l (λ Y r. un (rw e (record { sheet = Y; reading = r }))))
refused_after {before} {rest} (inr t) l un =
    let s = reads_spelt before t.sheet t.reading in
    let n : 2 + length s.lines ≡ line_number (before ++ rest) (length before) = omega (arith, spelt_newlines rest s) in
    spelt_on before rest s
    ∙ on_refused t.sheet s.final (2 + length s.lines) l (λ Y r. un (record { sheet = Y; reading = spelt_on before (first_line_of rest) s ∙ r }))
    ∙ ap (λ k. refused (MalformedLine k)) n

pub first_malformed_refused : (text : List ℕ) (at : ℕ) → FirstMalformed text at → read_text text ≡ refused (MalformedLine (line_number text at))
first_malformed_refused text at f =
    rw (take-append-drop at text, length-take-le at text f.inside) at
    (refused_after (⊎_map (ap (λ n. take n text)) (λ t. t) f.lines_before) (lines (drop at text)) f.with_this_line)

-- A text that is refused has a first malformed line

pub record SomeMalformed (text : List ℕ) : Type 0 where
  pub at : ℕ
  pub first : FirstMalformed text at

-- the line after `before`
here : (before rest : List ℕ) → LineBegins (before ++ rest) (length before) → (before ≡ []) ⊎ IsText before
    → (IsText (before ++ first_line_of rest) → ⊥) → SomeMalformed (before ++ rest)
here before rest b ok un =
    record {
      at = length before;
      first =
          record {
            inside = rw (length-append before rest) (omega arith);
            begins = b;
            lines_before = ⊎_map (ap length) (rw (take-append_seam before rest) (λ t. t)) ok;
            with_this_line = rw (take-append_seam before rest, drop-append_seam before rest) un;
          };
    }

-- a line begins after a newline
begins_after : (bs cs : List ℕ) → LineBegins (bs ++ newline ∷ [] ++ cs) (length (bs ++ newline ∷ []))
begins_after bs cs =
    rw (append_snoc bs newline cs, length-append bs (newline ∷ []) ∙ add-one (length bs)) (get_or-append_seam bs newline cs 0)

-- one line further on
moved : (before bs cs : List ℕ) → before ++ bs ++ newline ∷ [] ++ cs ≡ before ++ (bs ++ newline ∷ cs)
moved before bs cs = append_snoc (before ++ bs) newline cs ∙ append_assoc before bs (newline ∷ cs)

-- line after line: the lines so far with the next are a text, or that line is malformed
seek : (before : List ℕ) {rest : List ℕ} → Lines rest → LineBegins (before ++ rest) (length before) → (before ≡ []) ⊎ IsText before
    → (IsText (before ++ rest) → ⊥) → SomeMalformed (before ++ rest)
seek before (bare_line {bs = bs} w) b ok un = here before bs b ok (rw (first_bare w) un)
seek before (full_line {bs = bs} {cs = cs} w later) b ok un =
    let whole : IsText (before ++ bs ++ newline ∷ [] ++ cs) → ⊥ = rw (moved before bs cs) un in
    go
    (λ t. rw (moved before bs cs) at (seek (before ++ bs ++ newline ∷ []) later (begins_after (before ++ bs) cs) (inr t) whole))
    (read_text (before ++ bs ++ newline ∷ [])) refl
  where
    go : (IsText (before ++ bs ++ newline ∷ []) → SomeMalformed (before ++ (bs ++ newline ∷ cs)))
        → (r : Read) → read_text (before ++ bs ++ newline ∷ []) ≡ r → SomeMalformed (before ++ (bs ++ newline ∷ cs))
    go on (complete Y) e = on (record { sheet = Y; reading = e })
    go on (refused n) e =
        here before (bs ++ newline ∷ cs) b ok
        (rw (first_full w cs, ← append_assoc before bs (newline ∷ [])) (λ t. refused_complete (sym e ∙ t.reading)))

pub malformed_line : (text : List ℕ) → (IsText text → ⊥) → SomeMalformed text
malformed_line text un = seek [] (lines text) tt (inl refl) un

-- Number 13's place

-- a refusal is number 13 with the number of the first malformed line
refusal_is : {text : List ℕ} {n : Refusal} {at : ℕ} → read_text text ≡ refused n → FirstMalformed text at → n ≡ MalformedLine (line_number text at)
refusal_is {text} {n} {at} e f =
    let r : refused n ≡ refused (MalformedLine (line_number text at)) = sym e ∙ first_malformed_refused text at f in
    cc

-- a text that is refused doesn't read
refused_line : (text : List ℕ) (n : Refusal) → read_text text ≡ refused n → SomeMalformed text
refused_line text n e = malformed_line text (λ t. refused_complete (sym e ∙ t.reading))

-- reading has no other refusal
pub always_malformed : (text : List ℕ) (n : Refusal) → read_text text ≡ refused n → n ≡ MalformedLine (place_of n)
always_malformed text n e =
    let q = refusal_is e (refused_line text n e).first in
    q ∙ ap MalformedLine (sym (ap place_of q))

-- the place is that line's number
pub malformed_place : (text : List ℕ) (k : ℕ) → read_text text ≡ refused (MalformedLine k) → FirstMalformedNumber text k
malformed_place text k e =
    let m = refused_line text (MalformedLine k) e in
    record { at = m.at; first = m.first; numbered = ap place_of (refusal_is e m.first) }

-- the first malformed line has one number
pub one_number : (text : List ℕ) (i j : ℕ) → FirstMalformed text i → FirstMalformed text j → line_number text i ≡ line_number text j
one_number text i j f g = ap place_of (refusal_is (first_malformed_refused text i f) g)

-- in the empty text it begins at 0
pub empty_begins : (at : ℕ) → FirstMalformed [] at → at ≡ 0
empty_begins at f = omega (arith, f.inside)
