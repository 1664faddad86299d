-- Document 01, "Text": reading and writing undo each other wherever the text is within the limit of number 12. Said of the outcomes of
-- the two calls: what `write` wrote, `read` reads back to the same entries, and what `read` read, `write` writes back to the same text.
-- Assumes nothing.
use Prim.Native.Nat.{ℕ, ◌*◌, ◌≤◌}
use mathlib.Core.Path.{◌≡◌, refl, sym, ap, ap₂, subst, ◌∙◌}
use mathlib.Core.Bool.{true}
use mathlib.Core.List.{List}
use mathlib.Core.Option.{none, some}
use borrow.Author.Tests.{leb-true, le-leb}
use lib.ListN.{length, take, drop}
use lib.Seq.{take_at}
use Rattle.model.specs.declared.answers.Counts.{Counts}
use Rattle.model.specs.declared.refusal.Refusal.{Refusal}
use Rattle.model.specs.declared.refusal.Refusal.TheVariants.{TextLength, TextBuffer}
use Rattle.model.specs.Board.{board_of, edges, Sheet, sheet_of, ValidSheet, vertex_limit, edge_limit}
use Rattle.model.specs.Refusals.{Test, refusal_of, sheet_rules}
use Rattle.model.specs.Outcomes.{answer}
use Rattle.model.specs.Text.{Read, complete, refused, text_of, read_text}
use Rattle.model.specs.TextOutcomes.{text_limit, over, Buffers, read_rules, read_refusal, read_outcome, counts, filled, Reads, write_refusal, write_answer, written_or, Writes}
use Rattle.model.proofs.Contradiction.{zero_one}
use Rattle.theory.proofs.RoundTrip.{read_written, written_read}
use Rattle.model.proofs.RuleLists.{unless_passes}
use Rattle.board.proofs.Failures.{neither_fails, each_passes}
use Rattle.board.proofs.Validity.{sheet_passes, passes_sheet}
use Rattle.text.specs.Scratch.{Sized}
use Rattle.text.proofs.ReadOutcome.{sized_fits, by_lines}
use Rattle.text.proofs.WriteOutcome.{text_rules, write_tests}
use Rattle.model.specs.Answers.{Reading, Written, counts_with}
use Rattle.std.specs.Prelude.{Ok, Err}

-- The sheet that is in the reader's buffers: as many entries of each as the counts say.
abbrev pub sheet_in : ℕ → ℕ → Buffers → Sheet
sheet_in n m b =
    sheet_of (board_of n (take (2 * m) b.ends) (take m b.marks) (take n b.opened)) (take n b.syndrome) (take m b.loss)

-- Read back: both counts are those of X, and its entries stand in front in each buffer, which leaves X in them.
pub record ReadBack (X : Sheet) (old : Buffers) (r : Reading) (new : Buffers) : Type 0 where
  pub both_counts : r ≡ counts_with X.board.vertices (edges X.board)
  pub buffers_back : new ≡ filled (complete X) old
  pub sheet_back : sheet_in X.board.vertices (edges X.board) new ≡ X

-- Written back: the byte count is the text's, and the text stands in front in the buffer.
pub record WrittenBack (text buffer : List ℕ) (r : Written) (buffer' : List ℕ) : Type 0 where
  pub byte_count : r ≡ Ok (length text)
  pub text_back : buffer' ≡ over text buffer

-- Writing

bytes_or_refused : {A : Type 0} {n : ℕ} {f : Refusal} → Ok n ≡ Err f → A
bytes_or_refused p = zero_one (cc)

-- what passes every test of the writer
pub record Passed (X : Sheet) (buffer : List ℕ) : Type 0 where
  pub valid : ValidSheet X
  pub within : length (text_of X) ≤ text_limit
  pub room : length (text_of X) ≤ length buffer

pub write_passed : (X : Sheet) (buffer : List ℕ) → write_refusal X buffer ≡ none → Passed X buffer
write_passed X buffer p =
    let t = neither_fails (refusal_of (sheet_rules X true)) _ (sym (write_tests X buffer) ∙ p) in
    let e = each_passes (text_rules X buffer) t.1 in
    record {
      valid = (sheet_passes X true t.0).sheet;
      within = leb-true _ _ (unless_passes _ TextLength e.0);
      room = leb-true _ _ (unless_passes _ TextBuffer e.1.0);
    }

passed_write : (X : Sheet) (buffer : List ℕ) → Passed X buffer → write_refusal X buffer ≡ none
passed_write X buffer w =
    write_tests X buffer
    ∙ rw (
      passes_sheet X true (record { sheet = w.valid; fit = refl }),
      le-leb (length (text_of X)) text_limit w.within,
      le-leb (length (text_of X)) (length buffer) w.room,
    )

-- A valid sheet whose text is within the limit and fits the buffer is written.
pub valid_written :
    (X : Sheet) (buffer : List ℕ) {r : Written} {buffer' : List ℕ} →
    ValidSheet X →
    length (text_of X) ≤ text_limit →
    length (text_of X) ≤ length buffer →
    Writes X buffer r buffer' →
    WrittenBack (text_of X) buffer r buffer'
unfolding write_answer
valid_written X buffer v within room w =
    let none-fails = passed_write X buffer (record { valid = v; within = within; room = room }) in
    let answers = w.result ∙ ap (λ t. answer t Err (Ok (length (text_of X)))) none-fails in
    record { byte_count = answers; text_back = w.text_written ∙ ap (λ a. written_or a (over (text_of X) buffer) buffer) answers }

-- A byte count is answered only where every test passes, and it is the text's.
record WroteText (X : Sheet) (buffer : List ℕ) (n : ℕ) (buffer' : List ℕ) : Type 0 where
  passed : Passed X buffer
  count : n ≡ length (text_of X)
  front : buffer' ≡ over (text_of X) buffer

wrote_text : (X : Sheet) (buffer : List ℕ) (n : ℕ) (buffer' : List ℕ) → Writes X buffer (Ok n) buffer'
    → WroteText X buffer n buffer'
unfolding write_answer
wrote_text X buffer n buffer' w = go (write_refusal X buffer) refl w.result
  where
    go : (t : Test) → write_refusal X buffer ≡ t
        → Ok n ≡ answer t Err (Ok (length (text_of X))) → WroteText X buffer n buffer'
    go none e p = record { passed = write_passed X buffer e; count = cc; front = w.text_written }
    go (some f) e p = bytes_or_refused p

-- Reading

-- the entries in front of each buffer, cut to the counts, are the sheet
sheet_in_lem : (X : Sheet) (old : Buffers) → ValidSheet X → sheet_in X.board.vertices (edges X.board) (filled (complete X) old) ≡ X
sheet_in_lem X old v =
    let B = X.board in
    rw (
      take_at B.ends (drop (length B.ends) old.ends) (2 * edges B) v.board.inside.two_ends,
      take_at B.marks (drop (edges B) old.marks) (edges B) refl,
      take_at B.opened (drop (length B.opened) old.opened) B.vertices v.board.open_bytes.count,
      take_at X.syndrome (drop (length X.syndrome) old.syndrome) B.vertices v.syndrome.count,
      take_at X.loss (drop (length X.loss) old.loss) (edges B) v.loss.count,
    )

-- a reading that comes to X leaves X
read_back : (X : Sheet) (text : List ℕ) (old : Buffers) {r : Reading} {new : Buffers} → ValidSheet X → read_outcome text old ≡ complete X
    → Reads text old r new → ReadBack X old r new
read_back X text old v p w =
    let back = w.buffers ∙ ap (λ o. filled o old) p in
    record { both_counts = w.result ∙ ap counts p; buffers_back = back; sheet_back = rw back (sheet_in_lem X old v) }

-- What was written is read back: a byte count is answered only for a valid sheet whose text is within the limit.
pub write_then_read :
    {X : Sheet} {buffer buffer' : List ℕ} {n : ℕ} {old new : Buffers} {r : Reading} →
    Writes X buffer (Ok n) buffer' →
    Sized old →
    Reads (take n buffer') old r new →
    ReadBack X old r new
write_then_read {X} {buffer} {buffer'} {n} {old} writes long reads =
    let t = wrote_text X buffer n buffer' writes in
    let front = ap (take n) t.front ∙ take_at (text_of X) (drop (length (text_of X)) buffer) n (sym t.count) in
    let within : length (take n buffer') ≤ text_limit = rw front t.passed.within in
    let lines = by_lines (take n buffer') old (sized_fits old long) within in
    read_back X (take n buffer') old t.passed.valid (lines ∙ ap read_text front ∙ read_written X t.passed.valid) reads

-- Both at once: a valid sheet whose text is within the limit, written into a buffer with room for it and read again, is back.
pub sheet_round_trip :
    (X : Sheet) {buffer buffer' : List ℕ} {old new : Buffers} {w : Written} {r : Reading} →
    ValidSheet X →
    length (text_of X) ≤ text_limit →
    length (text_of X) ≤ length buffer →
    Writes X buffer w buffer' →
    Sized old →
    Reads (take (length (text_of X)) buffer') old r new →
    ReadBack X old r new
sheet_round_trip X {buffer} {buffer'} v within room writes long reads =
    let b = valid_written X buffer v within room writes in
    write_then_read (subst (λ a. Writes X buffer a buffer') b.byte_count writes) long reads

-- Counts are answered only where every test passes, and the text reads as some sheet.
record ReadSheet (text : List ℕ) (old : Buffers) : Type 0 where
  sheet : Sheet
  within : length text ≤ text_limit
  reads : read_text text ≡ complete sheet
  outcome : read_outcome text old ≡ complete sheet

counts_or_refused : {A : Type 0} {n m : ℕ} {f : Refusal} → counts_with n m ≡ Err f → A
counts_or_refused p = zero_one (cc)

pub read_within : (text : List ℕ) (old : Buffers) → read_refusal text old ≡ none → length text ≤ text_limit
unfolding read_refusal
read_within text old p = leb-true _ _ (unless_passes _ TextLength (each_passes (read_rules text old) p).1.0)

read_sheet : (text : List ℕ) (old : Buffers) (n m : ℕ) → counts_with n m ≡ counts (read_outcome text old) → ReadSheet text old
unfolding read_outcome
read_sheet text old n m p = tests (read_refusal text old) refl p
  where
    lines : (o : Read) → read_refusal text old ≡ none → read_text text ≡ o → counts_with n m ≡ counts o → ReadSheet text old
    lines (complete Y) e q c =
        record {
          sheet = Y;
          within = read_within text old e;
          reads = q;
          outcome = ap (λ t. answer t refused (read_text text)) e ∙ q;
        }
    lines (refused f) e q c = counts_or_refused c

    tests : (t : Test) → read_refusal text old ≡ t → counts_with n m ≡ counts (answer t refused (read_text text)) → ReadSheet text old
    tests none e c = lines (read_text text) e refl c
    tests (some f) e c = counts_or_refused c

same_record : {x y : Counts} → counts_with x.vertices x.edges ≡ counts_with y.vertices y.edges → x ≡ y
same_record p = cc

same_counts : {n m k l : ℕ} → counts_with n m ≡ counts_with k l → (n ≡ k) × (m ≡ l)
same_counts p = let same = same_record p in (ap (λ c. c.vertices) same, ap (λ c. c.edges) same)

-- What the reader leaves: its text is the one that was read, and is within the limit.
pub record Left (text : List ℕ) (X : Sheet) : Type 0 where
  pub valid : ValidSheet X
  pub text_of_lem : text_of X ≡ text
  pub within : length text ≤ text_limit

pub read_leaves :
    {text : List ℕ} {old new : Buffers} {n m : ℕ} →
    Reads text old (counts_with n m) new →
    Left text (sheet_in n m new)
read_leaves {text} {old} {new} {n} {m} reads =
    let s = read_sheet text old n m reads.result in
    let X = s.sheet in
    let w = written_read text X s.reads in
    let b = read_back X text old w.valid s.outcome reads in
    let same = same_counts b.both_counts in
    subst (Left text) (sym b.sheet_back ∙ ap₂ (λ i j. sheet_in i j new) (sym same.0) (sym same.1))
    record { valid = w.valid; text_of_lem = w.text_of_lem; within = s.within }

-- Both counts are within the limits.
pub read_counts :
    {text : List ℕ} {old new : Buffers} {n m : ℕ} →
    Reads text old (counts_with n m) new →
    (n ≤ vertex_limit) × (m ≤ edge_limit)
read_counts {text} {old} {n = n} {m = m} reads =
    let s = read_sheet text old n m reads.result in
    let inside = (written_read text s.sheet s.reads).valid.board.inside in
    let same = same_counts (reads.result ∙ ap counts s.outcome) in
    (rw same.0 inside.vertices_limited, rw same.1 inside.edges_limited)

-- What was read is written back: counts are answered only for a text within the limit.
pub read_then_write :
    {text buffer buffer' : List ℕ} {old new : Buffers} {n m : ℕ} {r : Written} →
    Reads text old (counts_with n m) new →
    length text ≤ length buffer →
    Writes (sheet_in n m new) buffer r buffer' →
    WrittenBack text buffer r buffer'
read_then_write {buffer = buffer} {buffer'} {r = r} reads room writes =
    let x = read_leaves reads in
    subst (λ t. WrittenBack t buffer r buffer') x.text_of_lem
    (valid_written _ buffer x.valid (rw x.text_of_lem x.within) (rw x.text_of_lem room) writes)
