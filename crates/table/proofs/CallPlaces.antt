-- The places of each call's refusals. A test that goes through places stands after those of the counts, so it goes through few.
-- Assumes nothing.
use Prim.Native.Nat.{ℕ, ◌+◌, ◌*◌, ◌%◌, ◌^◌, ◌≤◌, ◌<◌}
use mathlib.Core.Path.{◌≡◌}
use mathlib.Core.Bool.{Bool, true, ◌&&◌, ◌||◌}
use mathlib.Core.List.{List, [], ◌∷◌}
use native.Mathlib.Omega.{arith}
use lib.ListN.{length}
use lib.Dec.{eqb, leb}
use Rattle.model.specs.declared.refusal.Refusal.TheVariants.{VertexCount, EndCount, BufferLength, EndRange, MarkRange, SyndromeByte, LossByte, HandedByte, TorusSide, TextLength, TextBuffer, RoundCount, OpenByte, LitOpen, PlanarSide, PastLast, GameEdges, PositionByte, MoveCount, TrapEdges}
use Rattle.model.specs.declared.answers.Player.TheVariants.{Winder, Blocker}
use Rattle.model.specs.Sums.{ones}
use Rattle.model.specs.Board.{Board, Sheet, edges, vertex_limit, edge_limit}
use Rattle.model.specs.Decoding.{smallest_odd}
use Rattle.model.specs.Refusals.{Test, tested, refusal_of, sized, edges_of, outside, above, lit_open, board_sized, count_rules, edge_rules, board_rules, byte_rules, plain_rules, open_rule, open_rules, sheet_rules, side_rule, planar_side_rule, length_rule, handed_rule, syndrome_rule, decode_refusal, verdict_refusal, distance_refusal, torus_refusal, planar_refusal, stack_sized, layer_rules, stack_refusal, loss_rule, faces_sized, faces_refusal, game_limit, game_refusal, odd_part_test, none_at, whole_rules, trap_limit, trap_refusal}
use Rattle.model.specs.Game.{held_count}
use Rattle.model.specs.Torus.{least_side, largest_side}
use Rattle.model.specs.Planar.{least_planar, largest_planar, planar_vertices, planar_edges}
use Rattle.model.specs.Stack.{stack_vertices}
use Rattle.model.specs.Text.{text_of}
use Rattle.model.specs.TextOutcomes.{Buffers, text_limit, text_rule, read_refusal, write_refusal}
use Rattle.model.specs.Words.{word_count, past_last, unpacked_sheet}
use Rattle.model.specs.WordRefusals.{word_rule, word_rules, words_sized, item_rules, pack_refusal, unpack_refusal, lit_refusal, decode_packed_refusal}
use Rattle.model.proofs.Places.{PlaceBelow, EachBelow, wider, unless_below, at_below, first_below, else_below, rules_below}
use Rattle.model.proofs.RuleLists.{unless_passes, refusal_append}
use Rattle.theory.proofs.SmallestOdd.{smallest_odd_exactly}
use Rattle.board.proofs.Validity.{board_tests, counts_allow, plain_tests, board_allows, whole_tests, open_allowed, sheet_tests, plain_passes, plain_allows}
use Rattle.board.proofs.Calls.{verdict_tests, handed_allowed}
use Rattle.board.proofs.Failures.{neither_fails, each_passes}
use Rattle.stack.proofs.LayerTests.{passed_layers}
use Rattle.stack.proofs.StackTests.{stack_tests, readings_long}
use Rattle.torus.proofs.SideRefused.{passed_within}
use Rattle.faces.proofs.FaceTests.{bytes_allowed, handed_allowed as handed-few}
use Rattle.packed.proofs.WordTests.{items_say, items_allow, pack_tests, unpack_tests, lit_counts, lit_tests, lit_counts_say, before_open_tests, packed_tests}
use Rattle.packed.proofs.Screening.{board_fits}
use Rattle.game.proofs.GameTests.{play_rules, game_tests, position_allowed}
use Rattle.trap.proofs.TrapTests.{setting_rules, trap_tests, loss_allowed}
use Rattle.text.proofs.ReadOutcome.{fit}
use Rattle.text.proofs.WriteOutcome.{text_rules, write_tests}

-- there is no place, or it is that of an edge or of a vertex
abbrev pub Small : Test → Type 0
Small t = PlaceBelow edge_limit t

-- the 56 bits of a place have room for it
pub roomy : {t : Test} → Small t → PlaceBelow (2 ^ 56) t
roomy w = wider (omega arith) w

-- Parts of lists

counts_small : (vertices : ℕ) (ends : List ℕ) (fit : Bool) → Small (refusal_of (count_rules vertices ends fit))
counts_small vertices ends fit =
    rules_below (count_rules vertices ends fit) (
      unless_below (leb 1 vertices && leb vertices vertex_limit) VertexCount (omega arith),
      (
        unless_below (eqb (length ends % 2) 0 && leb (length ends) (2 * edge_limit)) EndCount (omega arith),
        (unless_below fit BufferLength (omega arith), tt),
      ),
    )

edges_small : (B : Board) → (length B.ends ≤ 2 * edge_limit) × (edges B ≡ edges_of B.ends) → Small (refusal_of (edge_rules B))
edges_small B h =
    let few : edges B ≤ edge_limit = omega (arith, h.0, h.1) in
    rules_below (edge_rules B) (
      first_below (edges B) (outside B) (λ e. EndRange (record { 0 = e })) (λ e l. omega arith),
      (first_below (edges B) (above 3 B.marks) (λ e. MarkRange (record { 0 = e })) (λ e l. omega arith), tt),
    )

bytes_small : (syndrome loss : List ℕ) → (length syndrome ≤ vertex_limit) × (length loss ≤ edge_limit)
    → Small (refusal_of (byte_rules syndrome loss))
bytes_small syndrome loss h =
    let lit = h.0 in
    let lost = h.1 in
    rules_below (byte_rules syndrome loss) (
      first_below (length syndrome) (above 1 syndrome) (λ v. SyndromeByte (record { 0 = v })) (λ v l. omega arith),
      (first_below (length loss) (above 1 loss) (λ e. LossByte (record { 0 = e })) (λ e l. omega arith), tt),
    )

open_byte_small : (opened : List ℕ) → length opened ≤ vertex_limit → Small (tested (open_rule opened))
open_byte_small opened h = first_below (length opened) (above 1 opened) (λ v. OpenByte (record { 0 = v })) (λ v l. omega arith)

open_small : (X : Sheet) → length X.board.opened ≤ vertex_limit → EachBelow edge_limit (open_rules X)
open_small X h = (
  open_byte_small X.board.opened h,
  (first_below (length X.board.opened) (lit_open X.board.opened X.syndrome) (λ v. LitOpen (record { 0 = v })) (λ v l. omega arith), tt),
)

-- Lists that the calls share

board_small : (B : Board) (others : Bool) → Small (refusal_of (board_rules B others))
board_small B others =
    let fits = board_sized B && others in
    rw (board_tests B others)
    (else_below _ _ (counts_small B.vertices B.ends fits) (λ p. edges_small B (counts_allow B others p)))

whole_small : (B : Board) (others : Bool) → Small (refusal_of (whole_rules B others))
whole_small B others =
    rw (whole_tests B others)
    (else_below _ _ (board_small B others) (λ p. rules_below (open_rule B.opened ∷ []) (open_byte_small B.opened (open_allowed B others p), tt)))

plain_small : (X : Sheet) (others : Bool) → Small (refusal_of (plain_rules X others))
plain_small X others =
    rw (plain_tests X others)
    (else_below _ _ (board_small _ _) (λ p. bytes_small X.syndrome X.loss (board_allows X others p)))

sheet_small : (X : Sheet) (others : Bool) → Small (refusal_of (sheet_rules X others))
sheet_small X others =
    rw (sheet_tests X others)
    (else_below _ _ (plain_small X others) (λ p. rules_below (open_rules X) (open_small X (plain_allows X others (plain_passes X others p)).0)))

-- The calls

pub decode_small : (X : Sheet) (support correction : List ℕ) → Small (decode_refusal X support correction)
unfolding decode_refusal
decode_small X support correction = sheet_small X _

pub verdict_small : (X : Sheet) (handed : List ℕ) → Small (verdict_refusal X handed)
verdict_small X handed =
    rw (verdict_tests X handed)
    (else_below _ _ (plain_small X _) (λ p.
    let few = handed_allowed X handed p in
    rules_below (handed_rule handed ∷ open_rules X) (
      first_below (length handed) (above 1 handed) (λ e. HandedByte (record { 0 = e })) (λ e l. omega arith),
      open_small X (plain_allows X _ (plain_passes X _ p)).0,
    )))

-- number 10's vertex is one of the board's
pub odd_small : (X : Sheet) → X.board.vertices ≤ vertex_limit → Small (odd_part_test X)
odd_small X h =
    at_below (smallest_odd X.board (ones X.syndrome)) none_at
    (λ v p. omega (arith, ((smallest_odd_exactly X.board (ones X.syndrome) v).0 p).less))

pub distance_small : (B : Board) (shown : List ℕ) → Small (distance_refusal B shown)
unfolding distance_refusal
distance_small B shown = whole_small B _

pub game_small : (B : Board) (position : List ℕ) → Small (game_refusal B position)
game_small B position =
    rw (game_tests B position)
    (else_below _ _ (whole_small B _) (λ p.
    let few = position_allowed B position p in
    let level = eqb (held_count Winder position) (held_count Blocker position) in
    let ahead = eqb (held_count Winder position) (held_count Blocker position + 1) in
    rules_below (play_rules B position) (
      unless_below (leb (edges B) game_limit) GameEdges (omega arith),
      (
        first_below (length position) (above 2 position) (λ e. PositionByte (record { 0 = e })) (λ e l. omega arith),
        (unless_below (level || ahead) MoveCount (omega arith), tt),
      ),
    )))

pub trap_small : (B : Board) (loss set : List ℕ) → Small (trap_refusal B loss set)
trap_small B loss set =
    rw (trap_tests B loss set)
    (else_below _ _ (board_small B _) (λ p.
    let few = loss_allowed B loss set p in
    rules_below (setting_rules B loss) (
      first_below (length loss) (above 1 loss) (λ e. LossByte (record { 0 = e })) (λ e l. omega arith),
      (open_byte_small B.opened (open_allowed B _ p), (unless_below (leb (edges B) trap_limit) TrapEdges (omega arith), tt)),
    )))

-- a side is the only place that isn't bounded by a test
pub torus_side : (side : ℕ) (ends marks : List ℕ) → side < 2 ^ 32 → PlaceBelow (2 ^ 56) (torus_refusal side ends marks)
unfolding torus_refusal
torus_side side ends marks h =
    let fits = sized ends (4 * (side * side)) && sized marks (2 * (side * side)) in
    rules_below (side_rule side ∷ length_rule fits ∷ []) (
      unless_below (leb least_side side && leb side largest_side) (TorusSide side) (omega arith),
      (unless_below fits BufferLength (omega arith), tt),
    )

pub planar_side : (side : ℕ) (ends marks opened : List ℕ) → side < 2 ^ 32 → PlaceBelow (2 ^ 56) (planar_refusal side ends marks opened)
unfolding planar_refusal
planar_side side ends marks opened h =
    let fits = sized ends (2 * planar_edges side) && sized marks (planar_edges side) && sized opened (planar_vertices side) in
    rules_below (planar_side_rule side ∷ length_rule fits ∷ []) (
      unless_below (leb least_planar side && leb side largest_planar) (PlanarSide side) (omega arith),
      (unless_below fits BufferLength (omega arith), tt),
    )

-- of a stack the side too; a reading byte is one of few, once the lengths have passed
readings_small : (readings : List ℕ) → length readings ≤ vertex_limit → PlaceBelow (2 ^ 56) (refusal_of (syndrome_rule readings ∷ []))
readings_small readings h =
    rules_below (syndrome_rule readings ∷ []) (
      first_below (length readings) (above 1 readings) (λ v. SyndromeByte (record { 0 = v })) (λ v l. omega arith),
      tt,
    )

pub stack_side : (side rounds : ℕ) (readings ends marks syndrome : List ℕ) → side < 2 ^ 32
    → PlaceBelow (2 ^ 56) (stack_refusal side rounds readings ends marks syndrome)
stack_side side rounds readings ends marks syndrome h =
    let fits = stack_sized side rounds readings ends marks syndrome in
    rw (stack_tests side rounds readings ends marks syndrome, refusal_append (length_rule fits ∷ []) (syndrome_rule readings ∷ []))
    (else_below _ _
    (rules_below (layer_rules side rounds) (
      unless_below (leb least_side side && leb side largest_side) (TorusSide side) (omega arith),
      (unless_below (leb 1 rounds && leb (stack_vertices side rounds) vertex_limit) RoundCount (omega arith), tt),
    ))
    (λ p. else_below _ _
    (rules_below (length_rule fits ∷ []) (unless_below fits BufferLength (omega arith), tt))
    (λ q.
    let fit = unless_passes fits BufferLength (each_passes (length_rule fits ∷ []) q).0 in
    let few = (passed_layers side rounds p).vertices_limited in
    readings_small readings (omega (arith, readings_long side rounds readings ends marks syndrome fit)))))

-- of the verdict with faces the side too; a byte is one of few, once the lengths have passed
pub faces_side : (side : ℕ) (syndrome loss handed faces : List ℕ) → side < 2 ^ 32
    → PlaceBelow (2 ^ 56) (faces_refusal side syndrome loss handed faces)
unfolding faces_refusal
faces_side side syndrome loss handed faces h =
    let fits = faces_sized side syndrome loss handed faces in
    let front = side_rule side ∷ length_rule fits ∷ [] in
    rw (refusal_append front (syndrome_rule syndrome ∷ loss_rule loss ∷ handed_rule handed ∷ []))
    (else_below _ _
    (rules_below front (
      unless_below (leb least_side side && leb side largest_side) (TorusSide side) (omega arith),
      (unless_below fits BufferLength (omega arith), tt),
    ))
    (λ p.
    let e = each_passes front p in
    let within = passed_within side e.0 in
    let fit = unless_passes fits BufferLength e.1.0 in
    let few = bytes_allowed side syndrome loss handed faces fit within in
    let few-handed = handed-few side syndrome loss handed faces fit within in
    rules_below (syndrome_rule syndrome ∷ loss_rule loss ∷ handed_rule handed ∷ []) (
      first_below (length syndrome) (above 1 syndrome) (λ v. SyndromeByte (record { 0 = v })) (λ v l. omega (arith, few.0)),
      (
        first_below (length loss) (above 1 loss) (λ e. LossByte (record { 0 = e })) (λ e l. omega (arith, few.1)),
        (first_below (length handed) (above 1 handed) (λ e. HandedByte (record { 0 = e })) (λ e l. omega (arith, few-handed)), tt),
      ),
    )))

pub read_small : (text : List ℕ) (old : Buffers) → Small (read_refusal text old)
unfolding read_refusal
read_small text old =
    rules_below (length_rule (fit old) ∷ text_rule text ∷ []) (
      unless_below (fit old) BufferLength (omega arith),
      (unless_below (leb (length text) text_limit) TextLength (omega arith), tt),
    )

pub write_small : (X : Sheet) (buffer : List ℕ) → Small (write_refusal X buffer)
write_small X buffer =
    rw (write_tests X buffer)
    (else_below _ _ (sheet_small X true) (λ p.
    rules_below (text_rules X buffer) (
      unless_below (leb (length (text_of X)) text_limit) TextLength (omega arith),
      (unless_below (leb (length (text_of X)) (length buffer)) TextBuffer (omega arith), tt),
    )))

-- of packed sheets; a word is one of few, once the lengths have passed
word_small : (n : ℕ) (words : List ℕ) → length words ≤ edge_limit → Small (tested (word_rule n words))
unfolding word_rule
word_small n words h = first_below (length words) (past_last n words) (λ w. PastLast (record { 0 = w })) (λ w l. omega arith)

words_small : (n m : ℕ) (syndrome loss : List ℕ) → length syndrome ≤ edge_limit → length loss ≤ edge_limit
    → Small (refusal_of (word_rules n syndrome m loss))
unfolding word_rules
words_small n m syndrome loss h k =
    rules_below (word_rules n syndrome m loss) (word_small n syndrome h, (word_small m loss k, tt))

items_small : (n m : ℕ) (syndrome loss syndromeWords lossWords : List ℕ)
    → Small (refusal_of (item_rules n m syndrome loss syndromeWords lossWords))
items_small n m syndrome loss syndromeWords lossWords =
    let fits = (sized syndrome n && sized loss m) && words_sized n m syndromeWords lossWords in
    rules_below (item_rules n m syndrome loss syndromeWords lossWords) (
      unless_below (leb 1 n && leb n vertex_limit) VertexCount (omega arith),
      (unless_below (leb m edge_limit) EndCount (omega arith), (unless_below fits BufferLength (omega arith), tt)),
    )

pub pack_small : (n m : ℕ) (syndrome loss syndromeWords lossWords : List ℕ) → Small (pack_refusal n m syndrome loss syndromeWords lossWords)
pack_small n m syndrome loss syndromeWords lossWords =
    rw (pack_tests n m syndrome loss syndromeWords lossWords)
    (else_below _ _ (items_small n m syndrome loss syndromeWords lossWords) (λ p.
    bytes_small syndrome loss (items_allow n m syndrome loss syndromeWords lossWords p)))

pub unpack_small : (n m : ℕ) (syndromeWords lossWords syndrome loss : List ℕ)
    → Small (unpack_refusal n m syndromeWords lossWords syndrome loss)
unpack_small n m syndromeWords lossWords syndrome loss =
    rw (unpack_tests n m syndrome loss syndromeWords lossWords)
    (else_below _ _ (items_small n m syndrome loss syndromeWords lossWords) (λ p.
    let k = items_say n m syndrome loss syndromeWords lossWords p in
    words_small n m syndromeWords lossWords (omega arith) (omega arith)))

pub lit_small : (n : ℕ) (words : List ℕ) (others : Bool) → Small (lit_refusal n words others)
lit_small n words others =
    let fits = sized words (word_count n) && others in
    rw (lit_tests n words others)
    (else_below _ _
    (rules_below (lit_counts n words others) (
      unless_below (leb 1 n && leb n vertex_limit) VertexCount (omega arith),
      (unless_below fits BufferLength (omega arith), tt),
    ))
    (λ p.
    let k = lit_counts_say n words others p in
    rules_below (word_rule n words ∷ []) (word_small n words (omega arith), tt)))

pub decode_packed_small : (B : Board) (syndrome loss support correction : List ℕ)
    → Small (decode_packed_refusal B syndrome loss support correction)
unfolding unpacked_sheet
decode_packed_small B syndrome loss support correction =
    let X = unpacked_sheet B syndrome loss in
    rw (packed_tests B syndrome loss support correction, before_open_tests B syndrome loss support correction)
    (else_below _ _
    (else_below _ _ (board_small B _) (λ p.
    let k = board_fits B syndrome loss support correction p in
    words_small B.vertices (edges_of B.ends) syndrome loss (omega arith) (omega arith)))
    (λ p. rules_below (open_rules X) (open_small X (open_allowed B _ (neither_fails _ _ p).0))))
