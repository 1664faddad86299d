-- Document 01, "Text" and "How far contracts go", 1: the outcome of reading and of writing a text, that is, what the call answers and what
-- every lent buffer holds when it is over, also where it refuses.
-- Assumes nothing.
use Rattle.std.specs.Prelude.{ℕ, ◌*◌, ◌≡◌, true, ◌&&◌, List, [], ◌∷◌, ◌++◌, length, drop, leb, Ok, Err}
use Rattle.model.specs.declared.refusal.Refusal.TheVariants.{TextLength, TextBuffer}
use Rattle.model.specs.Board.{Sheet, edges, vertex_limit, edge_limit}
use Rattle.model.specs.Refusals.{Rule, whole, Test, refusal_of, sized, length_rule, sheet_rules}
use Rattle.model.specs.Outcomes.{answer}
use Rattle.model.specs.Text.{Read, complete, refused, text_of, read_text}
use Rattle.model.specs.Answers.{Reading, Written, counts_with}

-- Rule 12, of the reader and the writer: the text has at most 65,536 bytes.
abbrev pub text_limit : ℕ
text_limit = 65536

abbrev pub text_rule : List ℕ → Rule
text_rule text = whole (leb (length text) text_limit) TextLength

-- Rule 14: the writer's buffer has room for the whole text.
abbrev pub text_buffer_rule : List ℕ → List ℕ → Rule
text_buffer_rule text buffer = whole (leb (length text) (length buffer)) TextBuffer

-- the entries put in front, and those past them unchanged
abbrev pub over : List ℕ → List ℕ → List ℕ
over new old = new ++ drop (length new) old

-- The reader fills five lent buffers.
pub record Buffers : Type 0 where
  pub ends : List ℕ
  pub marks : List ℕ
  pub opened : List ℕ
  pub syndrome : List ℕ
  pub loss : List ℕ

-- what is lent, slice by slice, as one value
abbrev pub buffers_of : List ℕ → List ℕ → List ℕ → List ℕ → List ℕ → Buffers
buffers_of ends marks opened syndrome loss = record { ends = ends; marks = marks; opened = opened; syndrome = syndrome; loss = loss }

-- They have room for the largest board, whatever the text: 8,192 places for ends, 4,096 for marks, 1,024 for open bytes, 1,024 for the
-- syndrome and 4,096 for the loss. Any other length, also a larger one, is 3.
unfoldable pub read_rules : List ℕ → Buffers → List Rule
read_rules text old =
    length_rule
    (sized old.ends (2 * edge_limit)
    && sized old.marks edge_limit
    && sized old.opened vertex_limit
    && sized old.syndrome vertex_limit
    && sized old.loss edge_limit)
    ∷ text_rule text
    ∷ []

unfoldable pub read_refusal : List ℕ → Buffers → Test
unfolding read_rules
read_refusal text old = refusal_of (read_rules text old)

-- then the lines are read, the first malformed one being 13
unfoldable pub read_outcome : List ℕ → Buffers → Read
read_outcome text old = answer (read_refusal text old) refused (read_text text)

-- The reader answers with the numbers of vertices and of edges ..
abbrev pub counts : Read → Reading
counts (complete sheet) = counts_with sheet.board.vertices (edges sheet.board)
counts (refused n) = Err n

-- .. and puts what it read in front in each buffer. Entries behind that keep their values; after a refusal, 13 included, all entries do.
abbrev pub filled : Read → Buffers → Buffers
filled (complete sheet) old =
    record {
      ends = over sheet.board.ends old.ends;
      marks = over sheet.board.marks old.marks;
      opened = over sheet.board.opened old.opened;
      syndrome = over sheet.syndrome old.syndrome;
      loss = over sheet.loss old.loss;
    }
filled (refused n) old = old

pub record Reads (text : List ℕ) (old : Buffers) (r : Reading) (new : Buffers) : Type 0 where
  pub result : r ≡ counts (read_outcome text old)
  pub buffers : new ≡ filled (read_outcome text old) old

-- The writer is lent a sheet and a buffer.
unfoldable pub write_rules : Sheet → List ℕ → List Rule
unfolding sheet_rules
write_rules sheet buffer = sheet_rules sheet true ++ (text_rule (text_of sheet) ∷ text_buffer_rule (text_of sheet) buffer ∷ [])

unfoldable pub write_refusal : Sheet → List ℕ → Test
unfolding write_rules
write_refusal sheet buffer = refusal_of (write_rules sheet buffer)

-- It answers with the length of the text, in bytes ..
unfoldable pub write_answer : Sheet → List ℕ → Written
write_answer sheet buffer = answer (write_refusal sheet buffer) Err (Ok (length (text_of sheet)))

-- .. and puts the text in front in the buffer. Bytes behind that keep their values; after a refusal all bytes do.
abbrev pub written_or : {A : Type 0} → Written → A → A → A
written_or (Ok n) new old = new
written_or (Err n) new old = old

pub record Writes (sheet : Sheet) (buffer : List ℕ) (r : Written) (buffer' : List ℕ) : Type 0 where
  pub result : r ≡ write_answer sheet buffer
  pub text_written : buffer' ≡ written_or r (over (text_of sheet) buffer) buffer
