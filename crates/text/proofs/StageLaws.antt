-- How the reading of a text stands before a line and after it, by the sheet so far. Assumes nothing.
use Prim.Native.Nat.{ℕ, ◌≤◌, ◌<◌}
use mathlib.Core.Path.{◌≡◌, sym, ap, ◌∙◌}
use mathlib.Core.Bool.{cond}
use mathlib.Core.List.{List}
use lib.ListN.{length}
use Rattle.std.specs.declared.option.Option as answer
use Rattle.std.specs.Borrow.{Bor}
use Rattle.std.specs.Prelude.{Err, Some, None}
use Rattle.model.specs.declared.refusal.Refusal.TheVariants.{MalformedLine}
use Rattle.model.specs.Text.{refused, read_text}
use Rattle.model.specs.TextOutcomes.{Buffers}
use Rattle.model.specs.LineNumbers.{line_number}
use Rattle.text.specs.declared.line.LineRead.{LineRead}
use Rattle.text.specs.declared.order.Sofar.{Sofar}
use Rattle.text.specs.declared.reader.Lines.{Lines}
use Rattle.text.specs.LineReadings.{ReadsLine}
use Rattle.text.specs.LineReader.{AtStart, MovedOn}
use Rattle.text.specs.Order.{meant}
use Rattle.text.specs.Scratch.{Sized, Clear, stored, ReadsInto}
use Rattle.text.specs.Stages.{begun_with, Within, Takes}
use Rattle.text.proofs.NumberLaws.{first_number}
use Rattle.text.proofs.ReadLaws.{LineIs, line_is, no_line, no_first, first_malformed}
use Rattle.text.proofs.BeginLaws.{is_begun, not_begun}
use Rattle.text.proofs.TakeLaws.{is_taken, not_taken, stores}
use Rattle.text.proofs.ProgressLaws as progress
use Rattle.text.proofs.ProgressLaws.{Progress, into_refused, begins, ends_malformed, ends_out_of_place, goes_further}
use Rattle.model.specs.Answers.{counts_with}

-- the reading before the line that begins at a position, or at the text's end: a sheet that the arrays hold
pub record Reached (t : List ℕ) (b : Buffers) (at k : ℕ) (s : Sofar) : Type 0 where
  pub numbered : k ≡ line_number t at
  pub progress : Progress t b s.vertices at k s.last s.edges

-- The first line, by what its calls ensure: read at the reader's start, and a sheet begun with it

module _
    {text : Bor (List ℕ)}
    {b : Buffers}
    {lines : Lines}
    {r : answer.Option LineRead}
    (start : AtStart text lines)
    (sized : Sized b)
    (reads : ReadsLine lines.text.now lines.at lines.number r)
  where
    one : lines.number ≡ 1
    one = start.numbered ∙ ap (line_number lines.text.now) start.at_is ∙ first_number lines.text.now

    at_zero : ReadsLine text.now 0 1 r
    at_zero = rw (start.text_is, start.at_is, one) at reads

    refused_first : read_text text.now ≡ refused (MalformedLine 1) → ReadsInto text.now (Err (MalformedLine lines.number)) b
    refused_first p = into_refused text.now b (MalformedLine lines.number) (p ∙ ap (λ i. refused (MalformedLine i)) (sym one)) sized

    pub first_unread : r ≡ None → ReadsInto text.now (Err (MalformedLine lines.number)) b
    first_unread is =
        let line = rw is at at_zero in
        refused_first (first_malformed text.now (no_line text.now 0 1 (sym line.line_read)))

    module _ {x : LineRead} {o : answer.Option Sofar} (is : r ≡ Some x) (begins_with : o ≡ begun_with x.line) where
      first_read : ReadsLine text.now 0 1 (Some x)
      first_read = rw is at at_zero

      first_line : LineIs text.now 0 1 x.line x.next x.number
      first_line = line_is text.now 0 1 x (sym first_read.line_read)

      pub first_unbegun : o ≡ None → ReadsInto text.now (Err (MalformedLine lines.number)) b
      first_unbegun none =
          refused_first (no_first text.now x.line x.next x.number first_line (not_begun x.line (sym none ∙ begins_with)))

      pub first_begun : {s : Sofar} {lines' : Lines} → o ≡ Some s → Clear b → MovedOn lines x.next x.number lines'
          → Reached text.now b lines'.at lines'.number s
      first_begun {s} some-sheet clear moved =
          let begun = is_begun x.line s (sym some-sheet ∙ begins_with) in
          rw (moved.at_is, moved.number_is)
          (record {
            numbered = first_read.next_numbered;
            progress = rw (begun.no_edge, begun.last_is) (begins text.now b x.line x.next x.number s.vertices first_line begun.first sized clear);
          })

-- A later line

module _ {t : List ℕ} {b : Buffers} {at k : ℕ} {s : Sofar} (w : Reached t b at k s) where
  pub within : Within s
  within = progress.within t b s.vertices at k s.last s.edges w.progress

  pub finished : length t ≤ at → ReadsInto t (counts_with s.vertices s.edges) b
  finished h = progress.finished t b s.vertices at k s.last s.edges w.progress h

  -- one turn of the reading, by what its calls ensure: the line read at the reader's position, taken, and the reader moved on
  module _ {t' : List ℕ} {r : answer.Option LineRead} (text_is : t' ≡ t) (inside : at < length t) (reads : ReadsLine t' at k r) where
    of_text : ReadsLine t at k r
    of_text = rw (← text_is) reads

    pub turn_unread : r ≡ None → ReadsInto t (Err (MalformedLine k)) b
    turn_unread is =
        let line = rw is at of_text in
        into_refused t b (MalformedLine k)
        (ends_malformed t b s.vertices at k s.last s.edges w.progress inside (no_line t at k (sym line.line_read)))
        w.progress.holds.sized

    module _ {x : LineRead} (is : r ≡ Some x) where
      line : ReadsLine t at k (Some x)
      line = rw is at of_text

      this_line : LineIs t at k x.line x.next x.number
      this_line = line_is t at k x (sym line.line_read)

      pub turn_further : {lines lines' : Lines} → MovedOn lines x.next x.number lines' → at < lines'.at
      turn_further moved = rw moved.at_is this_line.further

      module _ {b' : Buffers} {o : answer.Option Sofar} (takes : Takes s x.line b o b') where
        -- a line that is not taken changes nothing
        pub turn_untaken : o ≡ None → ReadsInto t (Err (MalformedLine k)) b'
        turn_untaken none =
            let misplaced = not_taken s x.line b (sym none ∙ takes.result) in
            let unchanged : b' ≡ b = takes.arrays ∙ ap (λ t. cond t (stored s.edges (meant x.line) b) b) misplaced in
            into_refused t b' (MalformedLine k)
            (ends_out_of_place t b s.vertices at k s.last s.edges w.progress x.line x.next x.number this_line misplaced)
            (rw unchanged w.progress.holds.sized)

        pub turn_moved : {s' : Sofar} {lines lines' : Lines} → o ≡ Some s' → MovedOn lines x.next x.number lines'
            → Reached t b' lines'.at lines'.number s'
        turn_moved {s'} sheet moved =
            let takes' = rw sheet at takes in
            let more = is_taken s x.line b s' takes'.result in
            rw (moved.at_is, moved.number_is)
            (record {
              numbered = line.next_numbered;
              progress =
                  rw (more.vertices_stay, more.last_is)
                  (goes_further t b s.vertices at k s.last s.edges w.progress x.line x.next x.number this_line s'.edges b' more.may_stand_lem
                  (stores s x.line b b' s' takes'));
            })
