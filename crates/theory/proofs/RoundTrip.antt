-- Document 01, "Text": the text of a valid sheet reads as that sheet, and a text that reads as a sheet is that sheet's text, so that a sheet
-- has one text. Assumes nothing.
use Prim.Native.Nat.{ℕ}
use mathlib.Core.Path.{◌≡◌, sym, ap, ◌∙◌}
use mathlib.Core.List.{List, ◌++◌}
use Rattle.model.specs.Board.{Sheet, ValidSheet}
use Rattle.model.specs.Text.{printed, text_of, complete, read_text}
use Rattle.theory.proofs.TextReading.{complete_is, spelt_reads, reads_spelt}
use Rattle.theory.proofs.ReadStages.{begun_stage, begun_lines, leads_completes}
use Rattle.theory.proofs.WrittenLines.{written}

-- what is written is read
pub read_written : (X : Sheet) → ValidSheet X → read_text (text_of X) ≡ complete X
unfolding text_of
read_written X w =
    let t = written X w in
    spelt_reads (text_of X) X
    record {
      vertices = X.board.vertices;
      some_vertex = w.board.some_vertex;
      vertices_limited = w.board.inside.vertices_limited;
      lines = t.lines;
      final = t.final;
      lead = t.lead;
      text_is = ap printed t.all_lines;
    }

-- what is read is written so: the sheet is valid, and this is its text
pub record WrittenSo (text : List ℕ) (X : Sheet) : Type 0 where
  pub valid : ValidSheet X
  pub text_of_lem : text_of X ≡ text

pub written_read : (text : List ℕ) (X : Sheet) → read_text text ≡ complete X → WrittenSo text X
unfolding text_of
written_read text X p =
    let t = reads_spelt text X p in
    let c = leads_completes (begun_stage t.vertices t.some_vertex t.vertices_limited) t.lead in
    record {
      valid = c.valid;
      text_of_lem =
          ap printed c.lines
          ∙ ap (λ ls. printed (ls ++ t.lines)) (begun_lines t.vertices)
          ∙ sym t.text_is;
    }

-- two valid sheets with one text are one
pub one_sheet : (X Y : Sheet) → ValidSheet X → ValidSheet Y → text_of X ≡ text_of Y → X ≡ Y
one_sheet X Y v w p = complete_is (sym (read_written X v) ∙ ap read_text p ∙ read_written Y w)
