-- What reading a text answers, as its report: a refusal's line, or the report of the sheet that stands in the buffers. Assumes nothing.
use Prim.Native.Nat.{ℕ, ◌≤◌, ◌<◌}
use mathlib.Core.Path.{◌≡◌, refl, sym, ap, ◌∙◌}
use mathlib.Core.Bool.{Bool, true, false}
use mathlib.Core.List.{List}
use borrow.Author.Tests.{leb-true, leb-false, le-leb, lt-leb}
use lib.ListN.{length}
use lib.Dec.{leb}
use Rattle.model.specs.declared.refusal.Refusal.{Refusal}
use Rattle.model.specs.declared.refusal.Refusal.TheVariants.{TextLength}
use Rattle.model.specs.Board.{vertex_limit, edge_limit, ValidSheet}
use Rattle.model.specs.Text.{Read, complete, refused, read_text}
use Rattle.model.specs.TextOutcomes.{text_limit, Buffers, counts, Reads}
use Rattle.model.specs.Report.{refusal_line, sheet_report, read_report, report_of}
use Rattle.model.proofs.Contradiction.{zero_one}
use Rattle.theory.proofs.RoundTrip.{read_written}
use Rattle.text.specs.Scratch.{Sized}
use Rattle.text.proofs.ReadOutcome.{sized_fits, too_long, by_lines}
use Rattle.text.proofs.TextCalls.{sheet_in, read_leaves, read_counts}
use Rattle.model.specs.Answers.{counts_with}
use Rattle.std.specs.Prelude.{Err}

-- a text within the limit is read; a longer one is number 12
report_short : (text : List ℕ) → length text ≤ text_limit → report_of text ≡ read_report (read_text text)
unfolding report_of
report_short text h = rw (le-leb (length text) text_limit h)

report_long : (text : List ℕ) → text_limit < length text → report_of text ≡ refusal_line TextLength
unfolding report_of
report_long text h = rw (lt-leb (length text) text_limit h)

-- a refusal is that of the text
pub refused_reads : {text : List ℕ} {old new : Buffers} {n : Refusal} → Sized old → Reads text old (Err n) new → refusal_line n ≡ report_of text
refused_reads {text} {old} {n = n} long w = go (leb (length text) text_limit) refl
  where
    -- the lines of a text within the limit decide what the call answers
    lines : length text ≤ text_limit → (o : Read) → read_text text ≡ o → refusal_line n ≡ report_of text
    lines h o q = of_lines o q (w.result ∙ ap counts (by_lines text old (sized_fits old long) h ∙ q))
      where
        of_lines : (o : Read) → read_text text ≡ o → Err n ≡ counts o → refusal_line n ≡ report_of text
        of_lines (complete X) q c = zero_one (cc)
        of_lines (refused k) q c = let same : n ≡ k = cc in ap refusal_line same ∙ sym (report_short text h ∙ ap read_report q)

    go : (t : Bool) → leb (length text) text_limit ≡ t → refusal_line n ≡ report_of text
    go true q = lines (leb-true (length text) text_limit q) (read_text text) refl
    go false q =
        let h = leb-false (length text) text_limit q in
        let c : Err n ≡ Err TextLength = w.result ∙ sym (too_long text old (sized_fits old long) h).result in
        let same : n ≡ TextLength = cc in
        ap refusal_line same ∙ sym (report_long text h)

-- Both counts came back: a valid sheet stands in front in the buffers, and its report is the text's.
pub record SheetRead (text : List ℕ) (n k : ℕ) (new : Buffers) : Type 0 where
  pub valid : ValidSheet (sheet_in n k new)
  pub report_is : sheet_report (sheet_in n k new) ≡ report_of text
  pub few_vertices : n ≤ vertex_limit
  pub few_edges : k ≤ edge_limit

pub counts_read : {text : List ℕ} {old new : Buffers} {n k : ℕ} → Reads text old (counts_with n k) new → SheetRead text n k new
counts_read {text} {new = new} {n = n} {k} reads =
    let left = read_leaves reads in
    let few = read_counts reads in
    let lines = ap read_text (sym left.text_of_lem) ∙ read_written (sheet_in n k new) left.valid in
    record {
      valid = left.valid;
      report_is = sym (report_short text left.within ∙ ap read_report lines);
      few_vertices = few.0;
      few_edges = few.1;
    }
