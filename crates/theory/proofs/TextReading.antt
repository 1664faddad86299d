-- Reading a text and following its lines: a text reads as a sheet exactly where it is the print of a `V` line and of lines that lead
-- from the bare vertices to that sheet. Assumes nothing.
use Prim.Native.Nat.{ℕ, suc, ◌+◌, ◌≤◌}
use mathlib.Core.Path.{◌≡◌, refl, sym, ap, ap₂, subst, ◌∙◌}
use mathlib.Core.Bool.{true, ◌&&◌, false≢true}
use mathlib.Core.List.{List, [], ◌∷◌, ◌++◌, append-nil, append_assoc}
use mathlib.Core.Option.{Option, none, some, none-ne-some, some-injective}
use native.Mathlib.Omega.{arith}
use borrow.Author.Tests.{leb-true, le-leb}
use lib.ListN.{length}
use lib.Dec.{leb}
use Rattle.model.specs.declared.refusal.Refusal.{Refusal}
use Rattle.model.specs.Board.{Sheet, vertex_limit}
use Rattle.model.specs.Text.{newline, Line, V_line, E_line, O_line, S_line, X_line, bytes_of, printed, parted_by, line_from, Read, complete, refused, or_malformed, first_line, begun, edge_may_follow, open_may_follow, syndrome_may_follow, loss_may_follow, step, read_on, read_lines, read_text}
use Rattle.model.proofs.Xor.{and_left, and_right}
use Rattle.model.proofs.Contradiction.{zero_one}
use Rattle.theory.proofs.Options.{passed}
use Rattle.theory.proofs.DecimalFields.{NotEmpty, not_empty, parted_not_empty, parted_first, joined, joined_parted}
use Rattle.theory.proofs.TextLines.{line_without, line_read, read_line}

-- where an edge may follow, so may any open vertex; where an open vertex may follow, so may any syndrome vertex; and where a syndrome
-- vertex may follow, so may any lost edge
pub edge_then_open : (last : Line) (v : ℕ) → edge_may_follow last ≡ true → open_may_follow last v ≡ true
edge_then_open (V_line n) v p = refl
edge_then_open (E_line a b m) v p = refl
edge_then_open (O_line u) v p = absurd (false≢true p)
edge_then_open (S_line u) v p = absurd (false≢true p)
edge_then_open (X_line e) v p = absurd (false≢true p)

pub open_then_syndrome : (last : Line) (v u : ℕ) → open_may_follow last v ≡ true → syndrome_may_follow last u ≡ true
open_then_syndrome (V_line n) v u p = refl
open_then_syndrome (E_line a b m) v u p = refl
open_then_syndrome (O_line w) v u p = refl
open_then_syndrome (S_line w) v u p = absurd (false≢true p)
open_then_syndrome (X_line e) v u p = absurd (false≢true p)

pub syndrome_then_loss : (last : Line) (v e : ℕ) → syndrome_may_follow last v ≡ true → loss_may_follow last e ≡ true
syndrome_then_loss (V_line n) v e p = refl
syndrome_then_loss (E_line a b m) v e p = refl
syndrome_then_loss (O_line u) v e p = refl
syndrome_then_loss (S_line u) v e p = refl
syndrome_then_loss (X_line d) v e p = absurd (false≢true p)

-- The lines, each of which may follow the one before, lead from the sheet X after the line `last` to the sheet Y after the line `final`.
pub data Leads : Sheet → Line → List Line → Sheet → Line → Type 0 where
  there : {X : Sheet} {last : Line} → Leads X last [] X last
  onward : {X Y Z : Sheet} {last l final : Line} {ls : List Line} → step X last l ≡ some Y → Leads Y l ls Z final
      → Leads X last (l ∷ ls) Z final

pub leads_append : {X Y Z : Sheet} {k l m : Line} {ls ls' : List Line} → Leads X k ls Y l → Leads Y l ls' Z m
    → Leads X k (ls ++ ls') Z m
leads_append there r = r
leads_append (onward p q) r = onward p (leads_append q r)

-- Printed lines are read

parted_line : (l : Line) (ls : List Line) (rest : List ℕ) → parted_by newline (printed (l ∷ ls) ++ rest) ≡ bytes_of l ∷ parted_by newline (printed ls ++ rest)
unfolding printed
parted_line l ls rest =
    ap (parted_by newline) (append_assoc (bytes_of l) (newline ∷ printed ls) rest) ∙ parted_first (printed ls ++ rest) (line_without l)

-- one line, which is not the last piece
read_one : (X : Sheet) (last l : Line) {Y : Sheet} {pieces : List (List ℕ)} (k : ℕ) → NotEmpty pieces → step X last l ≡ some Y
    → read_on X last k (bytes_of l ∷ pieces) ≡ read_on Y l (suc k) pieces
unfolding read_on
read_one X last l k not_empty p = rw (line_read l, p)

-- after lines that lead from X to Y the rest is read on from Y, that many lines further on
leads_on : {X Y : Sheet} {last final : Line} {ls : List Line} (k : ℕ) (rest : List ℕ) → Leads X last ls Y final
    → read_on X last k (parted_by newline (printed ls ++ rest)) ≡ read_on Y final (k + length ls) (parted_by newline rest)
unfolding printed
leads_on {X} {last} k rest there = ap (λ j. read_on X last j (parted_by newline rest)) {x = k} {y = k + 0} (omega arith)
leads_on {X} {Y} {last} {final} k rest (onward {l = l} {ls = ls} p r) =
    ap (read_on X last k) (parted_line l ls rest)
    ∙ read_one X last l k (parted_not_empty newline (printed ls ++ rest)) p
    ∙ leads_on (suc k) rest r
    ∙ ap (λ j. read_on Y final j (parted_by newline rest)) {x = suc k + length ls} {y = k + suc (length ls)} (omega arith)

-- What reads is what is printed

pub complete_is : {X Y : Sheet} → complete X ≡ complete Y → X ≡ Y
complete_is p = cc

pub refused_complete : {A : Type 0} {n : Refusal} {X : Sheet} → refused n ≡ complete X → A
refused_complete p = zero_one (cc)

-- what was read before the rest
record Earlier {A : Type 0} (o : Option A) (go : A → Read) (Y : Sheet) : Type 0 where
  value : A
  given : o ≡ some value
  rest : go value ≡ complete Y

earlier : {A : Type 0} (k : ℕ) (o : Option A) (go : A → Read) {Y : Sheet} → or_malformed k o go ≡ complete Y → Earlier o go Y
earlier k none go p = refused_complete p
earlier k (some a) go p = record { value = a; given = refl; rest = p }

-- the lines of what is left to read
pub record Rest (X : Sheet) (last : Line) (pieces : List (List ℕ)) (Y : Sheet) : Type 0 where
  pub lines : List Line
  pub final : Line
  pub lead : Leads X last lines Y final
  pub text : joined newline pieces ≡ printed lines

-- nothing is left
done : (X : Sheet) (last : Line) (pieces : List (List ℕ)) (Y : Sheet) → joined newline pieces ≡ [] → X ≡ Y → Rest X last pieces Y
unfolding printed
done X last pieces Y q p = record { lines = []; final = last; lead = subst (λ Z. Leads X last [] Z last) p there; text = q }

pub read_leads : (X : Sheet) (last : Line) (k : ℕ) (pieces : List (List ℕ)) (Y : Sheet) → read_on X last k pieces ≡ complete Y
    → Rest X last pieces Y
unfolding read_on joined printed
read_leads X last k [] Y p = done X last [] Y refl (complete_is p)
read_leads X last k ([] ∷ []) Y p = done X last ([] ∷ []) Y refl (complete_is p)
read_leads X last k ((b ∷ bs) ∷ []) Y p = refused_complete p
read_leads X last k (line ∷ next ∷ rest) Y p =
    let f = earlier k (line_from line) _ p in
    let s = earlier k (step X last f.value) _ f.rest in
    let r = read_leads s.value f.value (suc k) (next ∷ rest) Y s.rest in
    record {
      lines = f.value ∷ r.lines;
      final = r.final;
      lead = onward s.given r.lead;
      text = ap₂ (λ bs cs. bs ++ newline ∷ cs) (read_line line f.value f.given) r.text;
    }

-- The whole text

-- a text is that of some vertices, 1 to 1,024, and of lines that lead to Y
pub record Spells (text : List ℕ) (Y : Sheet) : Type 0 where
  pub vertices : ℕ
  pub some_vertex : 1 ≤ vertices
  pub vertices_limited : vertices ≤ vertex_limit
  pub lines : List Line
  pub final : Line
  pub lead : Leads (begun vertices) (V_line vertices) lines Y final
  pub text_is : text ≡ printed (V_line vertices ∷ lines)

read_first : (n : ℕ) {pieces : List (List ℕ)} → 1 ≤ n → n ≤ vertex_limit → NotEmpty pieces
    → read_lines (bytes_of (V_line n) ∷ pieces) ≡ read_on (begun n) (V_line n) 2 pieces
unfolding read_lines
read_first n h l not_empty = rw (line_read (V_line n), le-leb 1 n h, le-leb n vertex_limit l)

-- after a text that reads as Y the rest is read on from Y
pub spelt_on : (text : List ℕ) {Y : Sheet} (rest : List ℕ) (t : Spells text Y)
    → read_text (text ++ rest) ≡ read_on Y t.final (2 + length t.lines) (parted_by newline rest)
unfolding read_text
spelt_on text rest t =
    ap (λ bs. read_lines (parted_by newline (bs ++ rest))) t.text_is
    ∙ ap read_lines (parted_line (V_line t.vertices) t.lines rest)
    ∙ read_first t.vertices t.some_vertex t.vertices_limited (parted_not_empty newline (printed t.lines ++ rest))
    ∙ leads_on 2 rest t.lead

pub spelt_reads : (text : List ℕ) (Y : Sheet) → Spells text Y → read_text text ≡ complete Y
unfolding read_on parted_by
spelt_reads text Y t = ap read_text (sym (append-nil text)) ∙ spelt_on text [] t

-- the `V` line of a text that reads
pub record First (l : Line) (n : ℕ) : Type 0 where
  pub is : l ≡ V_line n
  pub some_vertex : 1 ≤ n
  pub vertices_limited : n ≤ vertex_limit

pub first_vertices : (l : Line) (n : ℕ) → first_line l ≡ some n → First l n
first_vertices (V_line n) m p =
    let w = passed (leb 1 n && leb n vertex_limit) (some n) p in
    let e : n ≡ m = some-injective _ _ w.kept in
    let low : 1 ≤ n = leb-true 1 n (and_left (leb 1 n) (leb n vertex_limit) w.test) in
    let high : n ≤ vertex_limit = leb-true n vertex_limit (and_right (leb 1 n) (leb n vertex_limit) w.test) in
    record { is = ap V_line e; some_vertex = omega arith; vertices_limited = omega arith }
first_vertices (E_line a b m) n p = absurd (none-ne-some _ p)
first_vertices (O_line v) n p = absurd (none-ne-some _ p)
first_vertices (S_line v) n p = absurd (none-ne-some _ p)
first_vertices (X_line e) n p = absurd (none-ne-some _ p)

lines_spell : (pieces : List (List ℕ)) (Y : Sheet) → read_lines pieces ≡ complete Y → Spells (joined newline pieces) Y
unfolding read_lines joined printed
lines_spell [] Y p = refused_complete p
lines_spell (line ∷ []) Y p = refused_complete p
lines_spell (line ∷ next ∷ rest) Y p =
    let f = earlier 1 (line_from line) _ p in
    let n = earlier 1 (first_line f.value) _ f.rest in
    let v = first_vertices f.value n.value n.given in
    let r = read_leads (begun n.value) (V_line n.value) 2 (next ∷ rest) Y n.rest in
    record {
      vertices = n.value;
      some_vertex = v.some_vertex;
      vertices_limited = v.vertices_limited;
      lines = r.lines;
      final = r.final;
      lead = r.lead;
      text_is = ap₂ (λ bs cs. bs ++ newline ∷ cs) (read_line line f.value f.given ∙ ap bytes_of v.is) r.text;
    }

pub reads_spelt : (text : List ℕ) (Y : Sheet) → read_text text ≡ complete Y → Spells text Y
unfolding read_text
reads_spelt text Y p =
    subst (λ bs. Spells bs Y) (joined_parted newline text) (lines_spell (parted_by newline text) Y p)
