-- The lines of a report as the bytes that are put, and how many they are at most. Assumes nothing.
use Prim.Native.Nat.{ℕ, zero, suc, ◌^◌, ◌≤◌, ◌<◌}
use mathlib.Core.Path.{◌≡◌, refl, sym, ap, ap₂, ◌∙◌}
use mathlib.Core.Bool.{Bool, true, false, cond}
use mathlib.Core.List.{List, [], ◌∷◌, ◌++◌, append_assoc, append-nil}
use mathlib.Core.Option.{Option, none, some}
use native.Mathlib.Nat.{zero-add}
use native.Mathlib.Omega.{arith}
use lib.ListN.{length, drop, length-append}
use lib.Seq.{sets-eq}
use Rattle.model.specs.declared.refusal.Refusal.{Refusal}
use Rattle.model.specs.Sums.{Set, members}
use Rattle.model.specs.Board.{Board, Valid}
use Rattle.model.specs.Distance.{fewest}
use Rattle.model.specs.Refusals.{number_of, place_of}
use Rattle.model.specs.Text.{newline, tab, decimal, fields_of}
use Rattle.model.specs.Report.{letter_c, letter_d, letter_n, dash, report_line, edge_lines, distance_line, refusal_line, InFront}
use Rattle.theory.proofs.AnswerBounds.{fewest_bound}
use Rattle.text.specs.Printing.{Puts, field_bytes, number_bytes, place_bytes, listed_bytes}
use Rattle.text.proofs.DecimalLaws.{nines, digits}
use Rattle.text.proofs.PrintLaws.{one_number}
use Rattle.text.proofs.PutLaws.{length_number}

-- a line of one number
pub line_bytes : (letter n : ℕ) → report_line letter (n ∷ []) ≡ number_bytes letter n
unfolding report_line
line_bytes letter n = rw (one_number n)

-- a refusal's line
pub refusal_bytes : (n : Refusal) → refusal_line n ≡ letter_n ∷ [] ++ field_bytes (number_of n) ++ field_bytes (place_of n) ++ newline ∷ []
unfolding refusal_line report_line fields_of
refusal_bytes n = ap (λ l. letter_n ∷ tab ∷ (decimal (number_of n) ++ (tab ∷ l) ++ (newline ∷ []))) (append-nil (decimal (place_of n)))

-- the distance's line
pub dash_bytes : distance_line none ≡ letter_d ∷ tab ∷ dash ∷ newline ∷ []
unfolding distance_line
dash_bytes = refl

pub distance_bytes : (d : ℕ) → distance_line (some d) ≡ number_bytes letter_d d
unfolding distance_line
distance_bytes d = line_bytes letter_d d

-- the correction's lines
edges_append : (xs ys : List ℕ) → edge_lines (xs ++ ys) ≡ edge_lines xs ++ edge_lines ys
unfolding edge_lines
edges_append [] ys = refl
edges_append (x ∷ xs) ys = rw (edges_append xs ys) (sym (append_assoc (report_line letter_c (x ∷ [])) (edge_lines xs) (edge_lines ys)))

pub edges_listed : (D : Set) (k : ℕ) → edge_lines (members k D) ≡ listed_bytes letter_c D k
unfolding edge_lines members listed_bytes
edges_listed D zero = refl
edges_listed D (suc k) = edges_append (members k D) (cond (D k) (k ∷ []) []) ∙ ap₂ ◌++◌ (edges_listed D k) (go (D k))
  where
    go : (t : Bool) → edge_lines (cond t (k ∷ []) []) ≡ place_bytes letter_c k t
    go true = append-nil (report_line letter_c (k ∷ [])) ∙ line_bytes letter_c k
    go false = refl

-- a refusal's number has at most three digits, and its place at most twenty
pub number_digits : (n : ℕ) → n < 2 ^ 8 → length (decimal n) ≤ 3
number_digits n h = (digits 2).few n (omega arith)

pub place_digits : (n : ℕ) → n < 2 ^ 64 → length (decimal n) ≤ 20
place_digits n h = (digits 19).few n (omega arith)

-- how long a refusal's line is
pub refusal_short : (n : Refusal) → number_of n ≤ nines 2 → place_of n ≤ nines 19 → length (refusal_line n) ≤ 27
refusal_short n h k =
    let number = (digits 2).few (number_of n) h in
    let place = (digits 19).few (place_of n) k in
    rw (refusal_bytes n) (simp length-append (omega arith))

-- how long the line of a number of at most four digits is, and that of the distance
pub number_short : (letter n : ℕ) → n ≤ 9999 → length (number_bytes letter n) ≤ 7
number_short letter n h = omega (arith, length_number letter n, (digits 3).few n h)

pub distance_short : (B : Board) → Valid B → length (distance_line (fewest B)) ≤ 7
distance_short B w = go (fewest B) refl
  where
    go : (o : Option ℕ) → fewest B ≡ o → length (distance_line o) ≤ 7
    go none p = rw dash_bytes (omega arith)
    go (some d) p = rw (distance_bytes d) (number_short letter_d d (omega (arith, fewest_bound B d p, w.inside.edges_limited)))

-- what is put at the begin of a buffer that has room for it stands in front
pub fronts : {bytes out out' : List ℕ} {r : ℕ} → Puts bytes out 0 r out' → length bytes ≤ length out → InFront bytes out r out'
fronts {bytes} {out} w fit =
    record {
      count = w.position ∙ zero-add (length bytes);
      fits = fit;
      written = w.put ∙ sets-eq bytes out 0 (omega arith) ∙ ap (λ k. bytes ++ drop k out) (zero-add (length bytes));
    }

-- what was put in front can be taken from there
pub within : {bytes out out' : List ℕ} {r : ℕ} → InFront bytes out r out' → r ≤ length out'
within {bytes} {out} w = rw (w.written, w.count, length-append) (omega arith)
