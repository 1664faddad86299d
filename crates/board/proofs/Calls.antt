-- A call that none of its tests refuses is lent what is valid, with buffers of the right lengths; and the reverse.
-- Assumes nothing.
use Prim.Native.Nat.{ℕ, ◌≤◌}
use mathlib.Core.Path.{◌≡◌, sym, ◌∙◌}
use mathlib.Core.Bool.{Bool, ◌&&◌}
use mathlib.Core.List.{List, ◌∷◌}
use mathlib.Core.Option.{none}
use native.Mathlib.Omega.{arith}
use lib.ListN.{length}
use Rattle.std.proofs.lemmas.Bool.{and_from}
use Rattle.model.specs.Sums.{or_else}
use Rattle.model.specs.Board.{Board, Sheet, Valid, ValidBytes, ValidSheet, edges, edge_limit}
use Rattle.model.specs.Refusals.{refusal_of, edges_of, sized, plain_rules, open_rules, handed_rule, decode_refusal, verdict_refusal, distance_refusal}
use Rattle.model.proofs.Xor.{and_left, and_right}
use Rattle.model.proofs.RuleLists.{refusal_append}
use Rattle.board.proofs.Failures.{neither_fails, each_passes, passes_each}
use Rattle.board.proofs.Passing.{bytes_say, say_bytes}
use Rattle.board.proofs.Validity.{plain_passes, passes_plain, plain_open, valid_plain, valid_open, sheet_passes, passes_sheet, whole_passes, passes_whole, long_enough, enough_long}

-- Decoding: a valid sheet and two buffers with a byte for each edge.
pub record ForDecoding (X : Sheet) (support correction : List ℕ) : Type 0 where
  pub sheet : ValidSheet X
  pub support_long : length support ≡ edges X.board
  pub correction_long : length correction ≡ edges X.board

pub decode_passes : (X : Sheet) (support correction : List ℕ) → decode_refusal X support correction ≡ none → ForDecoding X support correction
unfolding decode_refusal
decode_passes X support correction p =
    let m = edges_of X.board.ends in
    let w = sheet_passes X (sized support m && sized correction m) p in
    record {
      sheet = w.sheet;
      support_long = long_enough X.board support w.sheet.board.inside (and_left (sized support m) (sized correction m) w.fit);
      correction_long = long_enough X.board correction w.sheet.board.inside (and_right (sized support m) (sized correction m) w.fit);
    }

pub passes_decode : (X : Sheet) (support correction : List ℕ) → ForDecoding X support correction → decode_refusal X support correction ≡ none
unfolding decode_refusal
passes_decode X support correction w =
    let v = w.sheet.board.inside in
    passes_sheet X _
    (record {
      sheet = w.sheet;
      fit = and_from _ _ (enough_long X.board support v w.support_long) (enough_long X.board correction v w.correction_long);
    })

-- The verdict: a valid sheet and a handed-in set.
pub record ForVerdict (X : Sheet) (handed : List ℕ) : Type 0 where
  pub sheet : ValidSheet X
  pub bytes : ValidBytes (edges X.board) handed

-- the handed-in set has its length
abbrev pub handed_sized : Sheet → List ℕ → Bool
handed_sized X handed = sized handed (edges_of X.board.ends)

-- its tests: those of the sheet up to 8, then 9 and those of the open bytes
pub verdict_tests : (X : Sheet) (handed : List ℕ)
    → verdict_refusal X handed ≡ or_else (refusal_of (plain_rules X (handed_sized X handed))) (refusal_of (handed_rule handed ∷ open_rules X))
unfolding verdict_refusal
verdict_tests X handed = refusal_append (plain_rules X (handed_sized X handed)) (handed_rule handed ∷ open_rules X)

-- what the tests up to 8 allow the test 9 to index
pub handed_allowed : (X : Sheet) (handed : List ℕ) → refusal_of (plain_rules X (handed_sized X handed)) ≡ none → length handed ≤ edge_limit
handed_allowed X handed p =
    let w = plain_passes X (handed_sized X handed) p in
    omega (arith, long_enough X.board handed w.board.inside w.fit, w.board.inside.edges_limited)

pub verdict_passes : (X : Sheet) (handed : List ℕ) → verdict_refusal X handed ≡ none → ForVerdict X handed
verdict_passes X handed p =
    let t = neither_fails (refusal_of (plain_rules X (handed_sized X handed))) _ (sym (verdict_tests X handed) ∙ p) in
    let w = plain_passes X (handed_sized X handed) t.0 in
    let e = each_passes (handed_rule handed ∷ open_rules X) t.1 in
    record {
      sheet = plain_open X _ w (passes_each (open_rules X) e.1);
      bytes = bytes_say _ handed _ (long_enough X.board handed w.board.inside w.fit) e.0;
    }

pub passes_verdict : (X : Sheet) (handed : List ℕ) → ForVerdict X handed → verdict_refusal X handed ≡ none
passes_verdict X handed w =
    let long = enough_long X.board handed w.sheet.board.inside w.bytes.count in
    verdict_tests X handed
    ∙ rw (passes_plain X _ (valid_plain X _ w.sheet long))
    (passes_each (handed_rule handed ∷ open_rules X) (say_bytes _ handed _ w.bytes, each_passes (open_rules X) (valid_open X w.sheet)))

-- The distance: a valid board and a buffer with a byte for each edge.
pub record ForDistance (B : Board) (shown : List ℕ) : Type 0 where
  pub board : Valid B
  pub shown_long : length shown ≡ edges B

pub distance_passes : (B : Board) (shown : List ℕ) → distance_refusal B shown ≡ none → ForDistance B shown
unfolding distance_refusal
distance_passes B shown p =
    let w = whole_passes B (sized shown (edges_of B.ends)) p in
    record { board = w.board; shown_long = long_enough B shown w.board.inside w.fit }

pub passes_distance : (B : Board) (shown : List ℕ) → ForDistance B shown → distance_refusal B shown ≡ none
unfolding distance_refusal
passes_distance B shown w =
    passes_whole B (sized shown (edges_of B.ends))
    (record { board = w.board; fit = enough_long B shown w.board.inside w.shown_long })
