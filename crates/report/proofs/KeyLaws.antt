-- What decoding and the distance answer of a valid sheet, as its report. Assumes nothing.
use Prim.Native.Nat.{ℕ, ◌+◌, ◌*◌, ◌≤◌}
use mathlib.Core.Path.{◌≡◌, refl, sym, ap, ap₂, ◌∙◌}
use mathlib.Core.List.{List, ◌++◌}
use mathlib.Core.Option.{Option, none, some}
use native.Mathlib.Omega.{arith}
use lib.ListN.{length, length-append}
use Rattle.model.specs.declared.answers.Key.{Key}
use Rattle.model.specs.declared.refusal.Refusal.{Refusal}
use Rattle.model.specs.Sums.{bit, ones, bytes}
use Rattle.model.specs.Board.{Board, Sheet, Valid, edges}
use Rattle.model.specs.Winding.{size}
use Rattle.model.specs.Growth.{weighted}
use Rattle.model.specs.Decoding.{smallest_odd, growths, corrected}
use Rattle.model.specs.Distance.{fewest}
use Rattle.model.specs.Refusals.{none_at}
use Rattle.model.specs.Outcomes.{key_or_none, Decodes, distance_of, distance_answer}
use Rattle.model.specs.Report.{letter_g, letter_c, edge_lines, distance_line, refusal_line, key_report, sheet_report}
use Rattle.model.proofs.Contradiction.{zero_one}
use Rattle.model.proofs.ListLaws.{length_values, ones_bytes}
use Rattle.theory.proofs.MarkedBytes.{members_cong}
use Rattle.theory.proofs.AnswerBounds.{count_limit}
use Rattle.theory.proofs.Decodings.{passed_answer, none_answer, key_answer}
use Rattle.board.proofs.Calls.{passes_decode, passes_distance}
use Rattle.text.specs.Printing.{number_bytes, listed_bytes}
use Rattle.text.proofs.PrintLaws.{listed_short}
use Rattle.report.specs.ReportLines.{fewest_in, key_lines, Keyed, Decodable}
use Rattle.report.proofs.ReportLineLaws.{line_bytes, edges_listed, number_short, distance_short}
use Rattle.model.specs.Answers.{Decoded, Distance, key_with}
use Rattle.std.specs.Prelude.{Ok, Err}

-- the distance of a valid board is no refusal
no_refusal : (B : Board) (shown : List ℕ) → Valid B → length shown ≡ edges B → distance_answer B shown ≡ distance_of (fewest B)
unfolding distance_answer
no_refusal B shown w long = rw (passes_distance B shown (record { board = w; shown_long = long }))

pub measured : (B : Board) (shown : List ℕ) (r : Distance) → Valid B → length shown ≡ edges B → r ≡ distance_answer B shown
    → fewest_in r ≡ fewest B
measured B shown r w long p = ap fewest_in (p ∙ no_refusal B shown w long) ∙ go (fewest B)
  where
    go : (o : Option ℕ) → fewest_in (distance_of o) ≡ o
    go none = refl
    go (some d) = refl

-- there is room for the lines of a key, one after the other, and so for all of them
module _ (B : Board) (growths : ℕ) (correction shown out : List ℕ) (w : Keyed B growths correction shown out) where
  abbrev lines : List ℕ
  lines = listed_bytes letter_c (ones correction) (length correction)

  pub key_room : length (number_bytes letter_g growths) + length lines + length (distance_line (fewest B)) ≤ length out
  key_room =
      let limit = w.board.inside.edges_limited in
      let first = number_short letter_g growths (omega (arith, w.few_growths, limit)) in
      let second = listed_short letter_c (ones correction) (length correction) (omega (arith, w.correction_long, limit)) in
      omega (arith, first, second, distance_short B w.board, w.correction_long, limit, w.room.long)

  pub key_short : length (key_lines B growths correction) ≤ length out
  key_short =
      omega (
        arith,
        key_room,
        length-append (number_bytes letter_g growths ++ lines) (distance_line (fewest B)),
        length-append (number_bytes letter_g growths) lines,
      )

-- The report where some part is odd, and where none is

odd_report : (X : Sheet) (v : ℕ) → smallest_odd X.board (ones X.syndrome) ≡ some v → sheet_report X ≡ refusal_line (none_at v)
unfolding sheet_report
odd_report X v p = rw p

even_report : (X : Sheet) → smallest_odd X.board (ones X.syndrome) ≡ none → sheet_report X ≡ key_report X
unfolding sheet_report
even_report X p = rw p

-- the key's lines from the bytes of its correction
key_lines_lem : (X : Sheet) → key_lines X.board (growths X) (bytes (edges X.board) (corrected X)) ≡ key_report X
unfolding key_report
key_lines_lem X =
    ap (λ l. l ++ distance_line (fewest X.board))
    (ap₂ ◌++◌ (sym (line_bytes letter_g (growths X)))
    (rw (length_values m (λ e. bit (corrected X e)))
    (sym (edges_listed (ones (bytes m (corrected X))) m)
    ∙ ap edge_lines (members_cong m (ones (bytes m (corrected X))) (corrected X) (ones_bytes m (corrected X))))))
  where
    m : ℕ
    m = edges X.board

-- the answer decides the key
same_key : {x y : Key} → key_with x.growths x.edges ≡ key_with y.growths y.edges → x ≡ y
same_key p = cc

-- What a key comes to: so many growths at most, and the sheet's report.
pub record KeyGiven (X : Sheet) (g : ℕ) (correction' : List ℕ) : Type 0 where
  pub limit : g ≤ 2 * edges X.board
  pub report_is : key_lines X.board g correction' ≡ sheet_report X

module _ {X : Sheet} {support correction support' correction' out : List ℕ} (lent : Decodable X support correction out) where
  result : {r : Decoded} → Decodes X support correction r support' correction' → r ≡ key_or_none X
  result d =
      d.result
      ∙ passed_answer X support correction
      (passes_decode X support correction
      (record { sheet = lent.sheet; support_long = lent.support_long; correction_long = lent.correction_long }))

  -- decoding refuses: the line of number 10
  pub refused_report : {n : Refusal} → Decodes X support correction (Err n) support' correction' → refusal_line n ≡ sheet_report X
  refused_report {n} d = go (smallest_odd X.board (ones X.syndrome)) refl
    where
      go : (o : Option ℕ) → smallest_odd X.board (ones X.syndrome) ≡ o → refusal_line n ≡ sheet_report X
      go (some v) p =
          let q : Err n ≡ Err (none_at v) = result d ∙ none_answer X v p in
          let same : n ≡ none_at v = cc in
          ap refusal_line same ∙ sym (odd_report X v p)
      go none p = let q : Err n ≡ key_with (growths X) (size X.board (corrected X)) = result d ∙ key_answer X p in zero_one (cc)

  -- decoding gives a key, and has written its correction
  pub key_given : {k : Key} → Decodes X support correction (Ok k) support' correction' → KeyGiven X k.growths correction'
  key_given {k} d = go (smallest_odd X.board (ones X.syndrome)) refl
    where
      go : (o : Option ℕ) → smallest_odd X.board (ones X.syndrome) ≡ o → KeyGiven X k.growths correction'
      go (some v) p = let q : Ok k ≡ Err (none_at v) = result d ∙ none_answer X v p in zero_one (cc)
      go none p =
          let same : k.growths ≡ growths X = ap (λ x. x.growths) (same_key (result d ∙ key_answer X p)) in
          record {
            limit = rw same (count_limit weighted X);
            report_is = ap₂ (key_lines X.board) same d.correction_bytes ∙ key_lines_lem X ∙ sym (even_report X p);
          }
