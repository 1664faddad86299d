-- Document 01, "Text", and document 02, K3 and K5: the one text of a sheet, and the reading of a text line by line.
-- A text is a list of bytes. Assumes nothing.
use Rattle.std.specs.Prelude.{ℕ, zero, suc, ◌+◌, ◌*◌, ◌-◌, ◌/◌, ◌%◌, Bool, true, false, cond, not, ◌&&◌, List, [], ◌∷◌, ◌++◌, map, set, replicate, eqb, leb, ltb}
use Rattle.std.proofs.Math.Option.{Option, none, some}
use Rattle.model.specs.declared.refusal.Refusal.{Refusal}
use Rattle.model.specs.declared.refusal.Refusal.TheVariants.{MalformedLine}
use Rattle.model.specs.Sums.{values, ones, members}
use Rattle.model.specs.Board.{Board, board_of, without_open, Sheet, sheet_of, edges, first_end, second_end, mark, is_open, vertex_limit, edge_limit}

-- the bytes that part lines and fields, and that of the digit 0
abbrev pub newline : ℕ
newline = 10

abbrev pub tab : ℕ
tab = 9

abbrev pub digit_zero : ℕ
digit_zero = 48

-- The five kinds of line, by their letters: `V` has the number of vertices, `E` the ends and the mark of an edge, `O` an open vertex, `S` a
-- vertex of the syndrome, `X` an edge that is lost.
pub data Line : Type 0 where
  V_line : ℕ → Line
  E_line : ℕ → ℕ → ℕ → Line
  O_line : ℕ → Line
  S_line : ℕ → Line
  X_line : ℕ → Line

-- a line's letter, as a byte, and its numbers
abbrev pub letter_v : ℕ
letter_v = 86

abbrev pub letter_e : ℕ
letter_e = 69

abbrev pub letter_o : ℕ
letter_o = 79

abbrev pub letter_s : ℕ
letter_s = 83

abbrev pub letter_x : ℕ
letter_x = 88

abbrev pub letter_of : Line → ℕ
letter_of (V_line n) = letter_v
letter_of (E_line a b m) = letter_e
letter_of (O_line v) = letter_o
letter_of (S_line v) = letter_s
letter_of (X_line e) = letter_x

abbrev pub numbers_of : Line → List ℕ
numbers_of (V_line n) = n ∷ []
numbers_of (E_line a b m) = a ∷ b ∷ m ∷ []
numbers_of (O_line v) = v ∷ []
numbers_of (S_line v) = v ∷ []
numbers_of (X_line e) = e ∷ []

-- Writing

-- No number has a leading zero: before the last digit stand the digits of the rest, and nothing where the rest is 0.
abbrev pub before : ℕ → (ℕ → List ℕ) → List ℕ
before zero digits = []
before (suc n) digits = digits (suc n)

-- the digits of n in base ten, of which there are at most k + 1
unfoldable pub decimal_up_to : ℕ → ℕ → List ℕ
decimal_up_to zero n = (digit_zero + n % 10) ∷ []
decimal_up_to (suc k) n = before (n / 10) (decimal_up_to k) ++ ((digit_zero + n % 10) ∷ [])

unfoldable pub decimal : ℕ → List ℕ
decimal n = decimal_up_to n n

-- a field for each number, each with one tab in front
unfoldable pub fields_of : List ℕ → List ℕ
fields_of [] = []
fields_of (n ∷ ns) = tab ∷ decimal n ++ fields_of ns

unfoldable pub bytes_of : Line → List ℕ
bytes_of l = letter_of l ∷ fields_of (numbers_of l)

-- the bytes of each line with a newline after them, the last line too
unfoldable pub printed : List Line → List ℕ
printed [] = []
printed (l ∷ ls) = bytes_of l ++ newline ∷ printed ls

abbrev pub edge_line : Board → ℕ → Line
edge_line B e = E_line (first_end B e) (second_end B e) (mark B e)

-- The lines of a sheet: one `V` line, then the edges as `E` lines by their numbers, then the open vertices as `O` lines, the syndrome as
-- `S` lines and the loss as `X` lines, each rising.
unfoldable pub lines_of : Sheet → List Line
lines_of sheet =
    let B = sheet.board in
    V_line B.vertices
    ∷ values (edges B) (edge_line B)
    ++ map O_line (members B.vertices (is_open B))
    ++ map S_line (members B.vertices (ones sheet.syndrome))
    ++ map X_line (members (edges B) (ones sheet.loss))

-- The text of a sheet. It and `read_text` are inverse to each other between valid sheets and texts that read (theory, `read_written` and
-- `Written-Read`), of any length; the two calls add the limit of number 12 (`TextOutcomes`).
unfoldable pub text_of : Sheet → List ℕ
text_of sheet = printed (lines_of sheet)

-- Reading one line

-- the pieces between the bytes p of a list; n such bytes part it into n + 1 pieces
abbrev pub in_front : ℕ → List (List ℕ) → List (List ℕ)
in_front b [] = (b ∷ []) ∷ []
in_front b (piece ∷ pieces) = (b ∷ piece) ∷ pieces

unfoldable pub parted_by : ℕ → List ℕ → List (List ℕ)
parted_by p [] = [] ∷ []
parted_by p (b ∷ bs) = cond (eqb b p) ([] ∷ parted_by p bs) (in_front b (parted_by p bs))

abbrev pub is_digit : ℕ → Bool
is_digit b = leb digit_zero b && ltb b (digit_zero + 10)

-- the number whose first digits made n; no digit may follow a leading zero
unfoldable pub number_from : ℕ → List ℕ → Option ℕ
number_from n [] = some n
number_from n (b ∷ bs) = cond (is_digit b && ltb 0 n) (number_from (10 * n + (b - digit_zero)) bs) none

-- a field's number, where the field is one
unfoldable pub number : List ℕ → Option ℕ
number [] = none
number (b ∷ bs) = cond (is_digit b) (number_from (b - digit_zero) bs) none

abbrev pub and_then : {A : Type 0} {B : Type 0} → Option A → (A → Option B) → Option B
and_then none f = none
and_then (some a) f = f a

-- the numbers of a line's fields, where every field is one
unfoldable pub numbers : List (List ℕ) → Option (List ℕ)
numbers [] = some []
numbers (f ∷ fs) = and_then (number f) (λ n. and_then (numbers fs) (λ ns. some (n ∷ ns)))

-- the line with a letter and these numbers: none may be missing, and none too many
abbrev pub line_of : ℕ → List ℕ → Option Line
line_of letter [] = none
line_of letter (n ∷ []) =
    cond (eqb letter letter_v) (some (V_line n))
    (cond (eqb letter letter_o) (some (O_line n))
    (cond (eqb letter letter_s) (some (S_line n))
    (cond (eqb letter letter_x) (some (X_line n)) none)))
line_of letter (a ∷ b ∷ []) = none
line_of letter (a ∷ b ∷ m ∷ []) = cond (eqb letter letter_e) (some (E_line a b m)) none
line_of letter (a ∷ b ∷ m ∷ n ∷ ns) = none

-- a line from its fields, the first of which is one letter
unfoldable pub from_fields : List (List ℕ) → Option Line
from_fields [] = none
from_fields ([] ∷ fs) = none
from_fields ((letter ∷ []) ∷ fs) = and_then (numbers fs) (line_of letter)
from_fields ((letter ∷ b ∷ bs) ∷ fs) = none

-- the line that these bytes, without their newline, are
unfoldable pub line_from : List ℕ → Option Line
line_from bytes = from_fields (parted_by tab bytes)

-- Reading line by line

-- what reading comes to: a sheet, or the refusal that ends it
pub data Read : Type 0 where
  complete : Sheet → Read
  refused : Refusal → Read

-- At the first malformed line reading stops: number 13, and its place is the number k of that line, counted from 1.
abbrev pub or_malformed : {A : Type 0} → ℕ → Option A → (A → Read) → Read
or_malformed k none go = refused (MalformedLine k)
or_malformed k (some a) go = go a

-- The first line and no other is a `V` line (`step`), with 1 to 1,024 vertices. The sheet then has no edge as yet, no open vertex, and an
-- empty syndrome.
abbrev pub first_line : Line → Option ℕ
first_line (V_line n) = cond (leb 1 n && leb n vertex_limit) (some n) none
first_line (E_line a b m) = none
first_line (O_line v) = none
first_line (S_line v) = none
first_line (X_line e) = none

abbrev pub begun : ℕ → Sheet
begun n = sheet_of (without_open n [] []) (replicate n 0) []

-- `E` lines follow the `V` line or one another, at most 4,096 of them; equal ones are parallel edges. The ends are two vertices, or one
-- vertex twice (a loop edge), and the mark is at most 3.
abbrev pub edge_may_follow : Line → Bool
edge_may_follow (V_line n) = true
edge_may_follow (E_line a b m) = true
edge_may_follow (O_line v) = false
edge_may_follow (S_line v) = false
edge_may_follow (X_line e) = false

abbrev pub edge_in_range : Board → ℕ → ℕ → ℕ → Bool
edge_in_range B a b m =
    ltb (edges B) edge_limit && ltb a B.vertices && ltb b B.vertices && leb m 3

abbrev pub with_edge : Sheet → ℕ → ℕ → ℕ → Sheet
with_edge sheet a b m =
    let B = sheet.board in
    sheet_of (board_of B.vertices (B.ends ++ (a ∷ b ∷ [])) (B.marks ++ (m ∷ [])) B.opened) sheet.syndrome (sheet.loss ++ (0 ∷ []))

-- An `O` line may follow the `V` line, an `E` line or another `O` line. Its vertex is above that of an `O` line right before it, so none is
-- named twice.
abbrev pub open_may_follow : Line → ℕ → Bool
open_may_follow (V_line n) v = true
open_may_follow (E_line a b m) v = true
open_may_follow (O_line u) v = ltb u v
open_may_follow (S_line u) v = false
open_may_follow (X_line e) v = false

abbrev pub with_open : Sheet → ℕ → Sheet
with_open sheet v =
    let B = sheet.board in
    sheet_of (board_of B.vertices B.ends B.marks (set B.opened v 1)) sheet.syndrome sheet.loss

-- An `S` line may follow any line but an `X` line. Its vertex is not open, and above that of an `S` line right before it, so none is named
-- twice.
abbrev pub syndrome_may_follow : Line → ℕ → Bool
syndrome_may_follow (V_line n) v = true
syndrome_may_follow (E_line a b m) v = true
syndrome_may_follow (O_line u) v = true
syndrome_may_follow (S_line u) v = ltb u v
syndrome_may_follow (X_line e) v = false

abbrev pub may_be_lit : Board → ℕ → Bool
may_be_lit B v = ltb v B.vertices && not (is_open B v)

abbrev pub with_syndrome : Sheet → ℕ → Sheet
with_syndrome sheet v = sheet_of sheet.board (set sheet.syndrome v 1) sheet.loss

-- An `X` line may follow any line. Its edge is above that of an `X` line right before it, so none is named twice.
abbrev pub loss_may_follow : Line → ℕ → Bool
loss_may_follow (V_line n) e = true
loss_may_follow (E_line a b m) e = true
loss_may_follow (O_line v) e = true
loss_may_follow (S_line v) e = true
loss_may_follow (X_line d) e = ltb d e

abbrev pub with_loss : Sheet → ℕ → Sheet
with_loss sheet e = sheet_of sheet.board sheet.syndrome (set sheet.loss e 1)

-- the sheet with one line more, where that line may follow the last one and its fields are in range
unfoldable pub step : Sheet → Line → Line → Option Sheet
step sheet last (V_line n) = none
step sheet last (E_line a b m) =
    cond (edge_may_follow last && edge_in_range sheet.board a b m) (some (with_edge sheet a b m)) none
step sheet last (O_line v) =
    cond (open_may_follow last v && ltb v sheet.board.vertices) (some (with_open sheet v)) none
step sheet last (S_line v) =
    cond (syndrome_may_follow last v && may_be_lit sheet.board v) (some (with_syndrome sheet v)) none
step sheet last (X_line e) =
    cond (loss_may_follow last e && ltb e (edges sheet.board)) (some (with_loss sheet e)) none

-- The lines from the k-th on, as the pieces between newlines: nothing may follow the last newline, so a last line without one is malformed.
unfoldable pub read_on : Sheet → Line → ℕ → List (List ℕ) → Read
read_on sheet last k [] = complete sheet
read_on sheet last k ([] ∷ []) = complete sheet
read_on sheet last k ((b ∷ bs) ∷ []) = refused (MalformedLine k)
read_on sheet last k (line ∷ next ∷ rest) =
    or_malformed k (line_from line) (λ l.
    or_malformed k (step sheet last l) (λ more. read_on more l (suc k) (next ∷ rest)))

-- All lines; empty text is malformed in line 1.
unfoldable pub read_lines : List (List ℕ) → Read
read_lines [] = refused (MalformedLine 1)
read_lines (line ∷ []) = refused (MalformedLine 1)
read_lines (line ∷ next ∷ rest) =
    or_malformed 1 (line_from line) (λ l.
    or_malformed 1 (first_line l) (λ n. read_on (begun n) (V_line n) 2 (next ∷ rest)))

unfoldable pub read_text : List ℕ → Read
read_text text = read_lines (parted_by newline text)
