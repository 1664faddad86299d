-- A board or a sheet that none of its tests refuses is valid, and the buffers beside it have their lengths; and the reverse.
-- Assumes nothing.
use Prim.Native.Nat.{ℕ, ◌*◌, ◌≤◌}
use mathlib.Core.Path.{◌≡◌, sym, ◌∙◌}
use mathlib.Core.Bool.{Bool, true, ◌&&◌}
use mathlib.Core.List.{List, [], ◌∷◌}
use mathlib.Core.Option.{none}
use native.Mathlib.Omega.{arith}
use borrow.Author.Tests.{eqb-true, eq-eqb}
use lib.ListN.{length}
use Rattle.std.proofs.lemmas.Bool.{and_from}
use Rattle.model.specs.Sums.{or_else}
use Rattle.model.specs.Board.{Board, Sheet, Inside, Valid, ValidBytes, ValidSheet, edges, vertex_limit, edge_limit}
use Rattle.model.specs.Refusals.{Rule, refusal_of, edges_of, sized, board_sized, count_rules, edge_rules, board_rules, byte_rules, bytes_sized, plain_rules, open_rule, open_rules, sheet_rules, whole_rules}
use Rattle.model.proofs.Xor.{and_left, and_right}
use Rattle.model.proofs.RuleLists.{refusal_append}
use Rattle.board.proofs.Failures.{neither_fails, each_passes, passes_each}
use Rattle.board.proofs.Passing.{Counted, counts_say, say_counts, Ranged, valid_ranged, ranged_valid, edges_say, say_edges, bytes_say, say_bytes, open_say, say_open}

-- A board lent with other buffers: it is valid but perhaps for its open bytes, and each of those has its length.
pub record Boarded (B : Board) (others : Bool) : Type 0 where
  pub board : Ranged B
  pub fit : others ≡ true

counted : (B : Board) (fit : Bool) → Ranged B → fit ≡ true → Counted B.vertices B.ends fit
counted B fit v p =
    record {
      some_vertex = v.some_vertex;
      vertices_limited = v.inside.vertices_limited;
      even = omega (arith, v.inside.two_ends);
      end_limit = omega (arith, v.inside.two_ends, v.inside.edges_limited);
      others = p;
    }

-- a valid board has half as many marks as ends
pub marks_long : (B : Board) → Inside B → length B.marks ≡ edges_of B.ends
marks_long B w = omega (arith, w.two_ends)

-- the counts of a board, with the lengths of its marks and open bytes among them
abbrev pub board_counts : Board → Bool → List Rule
board_counts B others = count_rules B.vertices B.ends (board_sized B && others)

-- a board's tests are those of the counts, and then those of the edges
pub board_tests : (B : Board) (others : Bool) → refusal_of (board_rules B others) ≡ or_else (refusal_of (board_counts B others)) (refusal_of (edge_rules B))
unfolding board_rules
board_tests B others = refusal_append (board_counts B others) (edge_rules B)

-- what the tests of the counts say
counts_passed : (B : Board) (others : Bool) → refusal_of (board_counts B others) ≡ none
    → Counted B.vertices B.ends (board_sized B && others)
counts_passed B others p = counts_say B.vertices B.ends _ (each_passes (board_counts B others) p)

-- .. and what they allow the tests of the edges to index
pub counts_allow : (B : Board) (others : Bool) → refusal_of (board_counts B others) ≡ none
    → (length B.ends ≤ 2 * edge_limit) × (length B.marks ≡ edges_of B.ends)
counts_allow B others p =
    let k = counts_passed B others p in
    (k.end_limit, eqb-true _ _ (and_left (sized B.marks (edges_of B.ends)) _ (and_left (board_sized B) others k.others)))

pub board_passes : (B : Board) (others : Bool) → refusal_of (board_rules B others) ≡ none → Boarded B others
board_passes B others p =
    let t = neither_fails (refusal_of (board_counts B others)) _ (sym (board_tests B others) ∙ p) in
    let k = counts_passed B others t.0 in
    record {
      board = edges_say B _ k (and_left (board_sized B) others k.others) (each_passes (edge_rules B) t.1);
      fit = and_right (board_sized B) others k.others;
    }

pub passes_board : (B : Board) (others : Bool) → Boarded B others → refusal_of (board_rules B others) ≡ none
passes_board B others w =
    let sizes : board_sized B ≡ true = and_from _ _ (eq-eqb _ _ (marks_long B w.board.inside)) (eq-eqb _ _ w.board.open_long) in
    let fits = and_from _ _ sizes w.fit in
    board_tests B others
    ∙ rw (passes_each (board_counts B others) (say_counts B.vertices B.ends _ (counted B _ w.board fits)))
    (passes_each (edge_rules B) (say_edges B w.board))

-- A board with its open bytes, lent with other buffers: it is valid, and each of those has its length.
pub record Whole (B : Board) (others : Bool) : Type 0 where
  pub board : Valid B
  pub fit : others ≡ true

-- its tests: those of the board, then that of the open bytes
pub whole_tests : (B : Board) (others : Bool)
    → refusal_of (whole_rules B others) ≡ or_else (refusal_of (board_rules B others)) (refusal_of (open_rule B.opened ∷ []))
whole_tests B others = refusal_append (board_rules B others) (open_rule B.opened ∷ [])

-- what the board's tests allow the test 16 to index
pub open_allowed : (B : Board) (others : Bool) → refusal_of (board_rules B others) ≡ none → length B.opened ≤ vertex_limit
open_allowed B others p =
    let w = board_passes B others p in
    omega (arith, w.board.open_long, w.board.inside.vertices_limited)

pub whole_passes : (B : Board) (others : Bool) → refusal_of (whole_rules B others) ≡ none → Whole B others
whole_passes B others p =
    let t = neither_fails (refusal_of (board_rules B others)) _ (sym (whole_tests B others) ∙ p) in
    let w = board_passes B others t.0 in
    let e = each_passes (open_rule B.opened ∷ []) t.1 in
    record { board = ranged_valid B w.board (bytes_say _ B.opened _ w.board.open_long e.0); fit = w.fit }

pub passes_whole : (B : Board) (others : Bool) → Whole B others → refusal_of (whole_rules B others) ≡ none
passes_whole B others w =
    whole_tests B others
    ∙ rw (passes_board B others (record { board = valid_ranged B w.board; fit = w.fit }))
    (passes_each (open_rule B.opened ∷ []) (say_bytes _ B.opened _ w.board.open_bytes, tt))

-- a buffer has a byte for each edge of a valid board exactly where it is half as long as the ends
pub long_enough : (B : Board) (l : List ℕ) → Inside B → sized l (edges_of B.ends) ≡ true → length l ≡ edges B
long_enough B l v p = eqb-true _ _ p ∙ sym (marks_long B v)

pub enough_long : (B : Board) (l : List ℕ) → Inside B → length l ≡ edges B → sized l (edges_of B.ends) ≡ true
enough_long B l v p = eq-eqb _ _ (p ∙ marks_long B v)

-- A sheet lent with other buffers: it is valid but perhaps for its open bytes, and each of those has its length.
pub record Plained (X : Sheet) (others : Bool) : Type 0 where
  pub board : Ranged X.board
  pub syndrome : ValidBytes X.board.vertices X.syndrome
  pub loss : ValidBytes (edges X.board) X.loss
  pub fit : others ≡ true

-- a sheet's tests up to 8 are its board's, with its bytes' lengths among the others, and then those of the bytes
pub plain_tests : (X : Sheet) (others : Bool) → refusal_of (plain_rules X others)
    ≡ or_else (refusal_of (board_rules X.board (bytes_sized X && others))) (refusal_of (byte_rules X.syndrome X.loss))
unfolding plain_rules
plain_tests X others = refusal_append (board_rules X.board (bytes_sized X && others)) (byte_rules X.syndrome X.loss)

-- the bytes of a sheet have their lengths
record LongBytes (X : Sheet) : Type 0 where
  syndrome : length X.syndrome ≡ X.board.vertices
  loss : length X.loss ≡ edges X.board

long_bytes : (X : Sheet) → Inside X.board → bytes_sized X ≡ true → LongBytes X
long_bytes X w p =
    let lit = sized X.syndrome X.board.vertices in
    let lost = sized X.loss (edges_of X.board.ends) in
    record { syndrome = eqb-true _ _ (and_left lit lost p); loss = long_enough X.board X.loss w (and_right lit lost p) }

-- what the board's check allows the bytes' tests to index
pub board_allows : (X : Sheet) (others : Bool) → refusal_of (board_rules X.board (bytes_sized X && others)) ≡ none
    → (length X.syndrome ≤ vertex_limit) × (length X.loss ≤ edge_limit)
board_allows X others p =
    let w = board_passes X.board (bytes_sized X && others) p in
    let long = long_bytes X w.board.inside (and_left (bytes_sized X) others w.fit) in
    (omega (arith, long.syndrome, w.board.inside.vertices_limited), omega (arith, long.loss, w.board.inside.edges_limited))

pub plain_passes : (X : Sheet) (others : Bool) → refusal_of (plain_rules X others) ≡ none → Plained X others
plain_passes X others p =
    let t = neither_fails (refusal_of (board_rules X.board (bytes_sized X && others))) _ (sym (plain_tests X others) ∙ p) in
    let w = board_passes X.board (bytes_sized X && others) t.0 in
    let e = each_passes (byte_rules X.syndrome X.loss) t.1 in
    let long = long_bytes X w.board.inside (and_left (bytes_sized X) others w.fit) in
    record {
      board = w.board;
      syndrome = bytes_say _ X.syndrome _ long.syndrome e.0;
      loss = bytes_say _ X.loss _ long.loss e.1.0;
      fit = and_right (bytes_sized X) others w.fit;
    }

pub passes_plain : (X : Sheet) (others : Bool) → Plained X others → refusal_of (plain_rules X others) ≡ none
passes_plain X others w =
    let lit : sized X.syndrome X.board.vertices ≡ true = eq-eqb _ _ w.syndrome.count in
    let lost = enough_long X.board X.loss w.board.inside w.loss.count in
    plain_tests X others
    ∙ rw (passes_board X.board (bytes_sized X && others) (record { board = w.board; fit = and_from _ _ (and_from _ _ lit lost) w.fit }))
    (passes_each (byte_rules X.syndrome X.loss) (
      say_bytes _ X.syndrome _ w.syndrome,
      (say_bytes _ X.loss _ w.loss, tt),
    ))

-- A valid sheet lent with other buffers, each of which has its length.
pub record Sheeted (X : Sheet) (others : Bool) : Type 0 where
  pub sheet : ValidSheet X
  pub fit : others ≡ true

-- a sheet's tests are those up to 8, and then those of the open bytes
pub sheet_tests : (X : Sheet) (others : Bool) → refusal_of (sheet_rules X others)
    ≡ or_else (refusal_of (plain_rules X others)) (refusal_of (open_rules X))
unfolding sheet_rules
sheet_tests X others = refusal_append (plain_rules X others) (open_rules X)

-- what the tests up to 8 allow those of the open bytes to index
pub plain_allows : (X : Sheet) (others : Bool) → Plained X others
    → (length X.board.opened ≤ vertex_limit) × (length X.syndrome ≡ length X.board.opened)
plain_allows X others w = (
  omega (arith, w.board.open_long, w.board.inside.vertices_limited),
  w.syndrome.count ∙ sym w.board.open_long,
)

-- what passes the tests up to 8 and those of the open bytes is valid, and the reverse
pub plain_open : (X : Sheet) (others : Bool) → Plained X others → refusal_of (open_rules X) ≡ none → ValidSheet X
plain_open X others w p =
    let o = open_say X w.board.open_long (each_passes (open_rules X) p) in
    record { board = ranged_valid X.board w.board o.0; syndrome = w.syndrome; loss = w.loss; unlit = o.1 }

pub valid_plain : (X : Sheet) (others : Bool) → ValidSheet X → others ≡ true → Plained X others
valid_plain X others v p =
    record { board = valid_ranged X.board v.board; syndrome = v.syndrome; loss = v.loss; fit = p }

pub valid_open : (X : Sheet) → ValidSheet X → refusal_of (open_rules X) ≡ none
valid_open X v = passes_each (open_rules X) (say_open X v.board.open_bytes v.unlit)

pub sheet_passes : (X : Sheet) (others : Bool) → refusal_of (sheet_rules X others) ≡ none → Sheeted X others
sheet_passes X others p =
    let t = neither_fails (refusal_of (plain_rules X others)) _ (sym (sheet_tests X others) ∙ p) in
    let w = plain_passes X others t.0 in
    record { sheet = plain_open X others w t.1; fit = w.fit }

pub passes_sheet : (X : Sheet) (others : Bool) → Sheeted X others → refusal_of (sheet_rules X others) ≡ none
passes_sheet X others w =
    sheet_tests X others ∙ rw (passes_plain X others (valid_plain X others w.sheet w.fit)) (valid_open X w.sheet)
