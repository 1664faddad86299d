-- Document 01, "Numbers and places", and document 02, K1, K3, K5, K7, K9, K11 and K12: the number and the place of each refusal, and the rules
-- of each call in the order of their tests; those of calls on packed sheets stand in `WordRefusals`, those of the text in `TextOutcomes`.
-- No refusal has number 5, which was that of equal ends. Assumes nothing.
use Rattle.std.specs.Prelude.{ℕ, ◌+◌, ◌*◌, ◌/◌, ◌%◌, Bool, cond, ◌&&◌, ◌||◌, List, [], ◌∷◌, ◌++◌, map, length, get_or, eqb, leb, ltb}
use Rattle.std.proofs.Math.Option.{Option, none, some}
use Rattle.model.specs.declared.refusal.Refusal.{Refusal}
use Rattle.model.specs.declared.refusal.Refusal.TheVariants.{VertexCount, EndCount, BufferLength, EndRange, MarkRange, SyndromeByte, LossByte, HandedByte, NoCorrection, TorusSide, TextLength, MalformedLine, TextBuffer, RoundCount, OpenByte, LitOpen, PlanarSide, PastLast, GameEdges, PositionByte, MoveCount, TrapEdges}
use Rattle.model.specs.declared.answers.Player.TheVariants.{Winder, Blocker}
use Rattle.model.specs.Sums.{Set, ones, first_up_to}
use Rattle.model.specs.Board.{Board, Sheet, edges, first_end, second_end, vertex_limit, edge_limit}
use Rattle.model.specs.Decoding.{smallest_odd}
use Rattle.model.specs.Torus.{least_side, largest_side}
use Rattle.model.specs.Planar.{least_planar, largest_planar, planar_vertices, planar_edges}
use Rattle.model.specs.Stack.{stack_vertices, stack_edges}
use Rattle.model.specs.Game.{held_count}

-- the number of each refusal
abbrev pub number_of : Refusal → ℕ
number_of VertexCount = 1
number_of EndCount = 2
number_of BufferLength = 3
number_of (EndRange e) = 4
number_of (MarkRange e) = 6
number_of (SyndromeByte v) = 7
number_of (LossByte e) = 8
number_of (HandedByte e) = 9
number_of (NoCorrection v) = 10
number_of (TorusSide side) = 11
number_of TextLength = 12
number_of (MalformedLine line) = 13
number_of TextBuffer = 14
number_of RoundCount = 15
number_of (OpenByte v) = 16
number_of (LitOpen v) = 17
number_of (PlanarSide side) = 18
number_of (PastLast w) = 19
number_of GameEdges = 20
number_of (PositionByte e) = 21
number_of MoveCount = 22
number_of TrapEdges = 23

-- its place: an edge, a vertex, the side, a line or a word; where the table of document 01 has place 0, 0
abbrev pub place_of : Refusal → ℕ
place_of VertexCount = 0
place_of EndCount = 0
place_of BufferLength = 0
place_of (EndRange e) = e.0
place_of (MarkRange e) = e.0
place_of (SyndromeByte v) = v.0
place_of (LossByte e) = e.0
place_of (HandedByte e) = e.0
place_of (NoCorrection v) = v.0
place_of (TorusSide side) = side
place_of TextLength = 0
place_of (MalformedLine line) = line
place_of TextBuffer = 0
place_of RoundCount = 0
place_of (OpenByte v) = v.0
place_of (LitOpen v) = v.0
place_of (PlanarSide side) = side
place_of (PastLast w) = w.0
place_of GameEdges = 0
place_of (PositionByte e) = e.0
place_of MoveCount = 0
place_of TrapEdges = 0

-- A rule is kept or not as a whole, or broken at some of n places; each way to break it has its refusal.
pub data Rule : Type 0 where
  whole : Bool → Refusal → Rule
  each : ℕ → Set → (ℕ → Refusal) → Rule

-- A test passes (none) or fails with its refusal.
abbrev pub Test : Type 0
Test = Option Refusal

-- fails unless the rule is kept
abbrev pub unless : Bool → Refusal → Test
unless ok n = cond ok none (some n)

-- fails at the first place below n that breaks the rule
abbrev pub refused_at : Option ℕ → (ℕ → Refusal) → Test
refused_at none at = none
refused_at (some i) at = some (at i)

abbrev pub first_place : ℕ → Set → (ℕ → Refusal) → Test
first_place n broken at = refused_at (first_up_to n broken) at

-- the test of a rule: where several places break it, the first is refused
abbrev pub tested : Rule → Test
tested (whole kept r) = unless kept r
tested (each n broken at) = first_place n broken at

-- The rules of a call are tested in the order of its list, and the first test that fails decides. Where the list has the rules in the order
-- of their numbers, that is the smallest number of a broken rule, with the smallest place that breaks it (`Precedence`).
abbrev pub first_failure : List Test → Test
first_failure [] = none
first_failure (some n ∷ tests) = some n
first_failure (none ∷ tests) = first_failure tests

abbrev pub refusal_of : List Rule → Test
refusal_of rules = first_failure (map tested rules)

-- Rule 1: there are 1 to 1,024 vertices.
abbrev pub vertex_count_rule : ℕ → Rule
vertex_count_rule n = whole (leb 1 n && leb n vertex_limit) VertexCount

-- Rule 2, of a board that is given: its ends are even in number, and at most 8,192.
abbrev pub end_count_rule : List ℕ → Rule
end_count_rule ends = whole (eqb (length ends % 2) 0 && leb (length ends) (2 * edge_limit)) EndCount

-- Rule 3: every other buffer that is lent has its length.
abbrev pub sized : {A : Type 0} → List A → ℕ → Bool
sized l n = eqb (length l) n

abbrev pub length_rule : Bool → Rule
length_rule ok = whole ok BufferLength

-- Rule 4: both ends of an edge are below the vertex count.
abbrev pub outside : Board → Set
outside B e = leb B.vertices (first_end B e) || leb B.vertices (second_end B e)

abbrev pub end_range_rule : Board → Rule
end_range_rule B = each (edges B) (outside B) (λ e. EndRange (record { 0 = e }))

-- Rule 6: a mark is at most 3. Rules 7, 8 and 9: a byte of the syndrome, of the loss, of the handed-in set is at most 1.
abbrev pub above : ℕ → List ℕ → Set
above limit l i = ltb limit (get_or l i 0)

abbrev pub mark_rule : Board → Rule
mark_rule B = each (edges B) (above 3 B.marks) (λ e. MarkRange (record { 0 = e }))

abbrev pub syndrome_rule : List ℕ → Rule
syndrome_rule l = each (length l) (above 1 l) (λ v. SyndromeByte (record { 0 = v }))

abbrev pub loss_rule : List ℕ → Rule
loss_rule l = each (length l) (above 1 l) (λ e. LossByte (record { 0 = e }))

abbrev pub handed_rule : List ℕ → Rule
handed_rule l = each (length l) (above 1 l) (λ e. HandedByte (record { 0 = e }))

-- Rule 16: an open byte is at most 1. Rule 17: no open vertex is lit.
abbrev pub open_rule : List ℕ → Rule
open_rule l = each (length l) (above 1 l) (λ v. OpenByte (record { 0 = v }))

abbrev pub lit_open : List ℕ → List ℕ → Set
lit_open opened syndrome v = ones opened v && ones syndrome v

abbrev pub lit_open_rule : List ℕ → List ℕ → Rule
lit_open_rule opened syndrome = each (length opened) (lit_open opened syndrome) (λ v. LitOpen (record { 0 = v }))

-- Number 10, a test and no rule of a list: some part of the whole board is odd; the place is the smallest vertex of all odd parts.
abbrev pub none_at : ℕ → Refusal
none_at v = NoCorrection (record { 0 = v })

abbrev pub odd_part_test : Sheet → Test
odd_part_test X = refused_at (smallest_odd X.board (ones X.syndrome)) none_at

-- Rule 11: a torus has side 1 to 32; the place is the side that was asked for.
abbrev pub side_rule : ℕ → Rule
side_rule L = whole (leb least_side L && leb L largest_side) (TorusSide L)

-- Rule 18: a planar board has side 2 to 31; the place is the side that was asked for.
abbrev pub planar_side_rule : ℕ → Rule
planar_side_rule L = whole (leb least_planar L && leb L largest_planar) (PlanarSide L)

-- Rule 15: a stack has at least one round, and at most 1,024 vertices in all.
abbrev pub rounds_rule : ℕ → ℕ → Rule
rounds_rule L R = whole (leb 1 R && leb (stack_vertices L R) vertex_limit) RoundCount

-- Rule 20: a game is played on at most 10 edges. Rule 21: a position byte is at most 2. Rule 22: Winder has as many edges as Blocker, or
-- one more.
abbrev pub game_limit : ℕ
game_limit = 10

abbrev pub game_edges_rule : Board → Rule
game_edges_rule B = whole (leb (edges B) game_limit) GameEdges

abbrev pub position_rule : List ℕ → Rule
position_rule p = each (length p) (above 2 p) (λ e. PositionByte (record { 0 = e }))

abbrev pub move_rule : List ℕ → Rule
move_rule p = whole (eqb (held_count Winder p) (held_count Blocker p) || eqb (held_count Winder p) (held_count Blocker p + 1)) MoveCount

-- Rule 23: a trap is set on at most 16 edges.
abbrev pub trap_limit : ℕ
trap_limit = 16

abbrev pub trap_edges_rule : Board → Rule
trap_edges_rule B = whole (leb (edges B) trap_limit) TrapEdges

-- how many edges the ends stand for: what the other lengths are held to
abbrev pub edges_of : List ℕ → ℕ
edges_of ends = length ends / 2

-- What calls share, in the order of the tests. The counts, where `fit` says that every other lent buffer has its length: 1 to 3 ..
abbrev pub count_rules : ℕ → List ℕ → Bool → List Rule
count_rules vertices ends fit = vertex_count_rule vertices ∷ end_count_rule ends ∷ length_rule fit ∷ []

-- .. then the edges: 4 and 6
abbrev pub edge_rules : Board → List Rule
edge_rules B = end_range_rule B ∷ mark_rule B ∷ []

-- there is a mark for each edge and an open byte for each vertex
abbrev pub board_sized : Board → Bool
board_sized B = sized B.marks (edges_of B.ends) && sized B.opened B.vertices

-- a board but for its open bytes; `others` says that each buffer lent beside it has its length
unfoldable pub board_rules : Board → Bool → List Rule
board_rules B others = count_rules B.vertices B.ends (board_sized B && others) ++ edge_rules B

-- a board with its open bytes: 1 to 4, 6 and 16
abbrev pub whole_rules : Board → Bool → List Rule
whole_rules B others = board_rules B others ++ (open_rule B.opened ∷ [])

-- then the bytes of a sheet: 7 and 8
abbrev pub byte_rules : List ℕ → List ℕ → List Rule
byte_rules syndrome loss = syndrome_rule syndrome ∷ loss_rule loss ∷ []

-- the syndrome has a byte for each vertex, the loss one for each edge
abbrev pub bytes_sized : Sheet → Bool
bytes_sized X = sized X.syndrome X.board.vertices && sized X.loss (edges_of X.board.ends)

-- a sheet but for its open bytes; `others` says that each buffer lent beside it has its length
unfoldable pub plain_rules : Sheet → Bool → List Rule
unfolding board_rules
plain_rules X others = board_rules X.board (bytes_sized X && others) ++ byte_rules X.syndrome X.loss

-- the open bytes of a sheet come after its other bytes and those handed in: 16 and 17
abbrev pub open_rules : Sheet → List Rule
open_rules X = open_rule X.board.opened ∷ lit_open_rule X.board.opened X.syndrome ∷ []

-- a sheet with its open bytes
unfoldable pub sheet_rules : Sheet → Bool → List Rule
unfolding plain_rules
sheet_rules X others = plain_rules X others ++ open_rules X

-- Each call's list covers all that it is lent. Decoding and the verdict test for number 10 as well, once all rules of their lists are
-- kept: it asks for the parts of a board that keeps the rules. Decoding is lent a sheet and two buffers to fill.
unfoldable pub decode_rules : Sheet → List ℕ → List ℕ → List Rule
unfolding sheet_rules
decode_rules X support correction =
    let m = edges_of X.board.ends in
    sheet_rules X (sized support m && sized correction m)

unfoldable pub decode_refusal : Sheet → List ℕ → List ℕ → Test
unfolding decode_rules
decode_refusal X support correction = refusal_of (decode_rules X support correction)

-- The verdict is lent a sheet and a handed-in set.
unfoldable pub verdict_rules : Sheet → List ℕ → List Rule
unfolding plain_rules
verdict_rules X handed = plain_rules X (sized handed (edges_of X.board.ends)) ++ (handed_rule handed ∷ open_rules X)

unfoldable pub verdict_refusal : Sheet → List ℕ → Test
unfolding verdict_rules
verdict_refusal X handed = refusal_of (verdict_rules X handed)

-- The distance is lent a board and a buffer for the loop shown.
unfoldable pub distance_rules : Board → List ℕ → List Rule
unfolding board_rules
distance_rules B shown = whole_rules B (sized shown (edges_of B.ends))

unfoldable pub distance_refusal : Board → List ℕ → Test
unfolding distance_rules
distance_refusal B shown = refusal_of (distance_rules B shown)

-- The game is lent a board and a position, which has a byte for each edge.
unfoldable pub game_rules : Board → List ℕ → List Rule
unfolding board_rules
game_rules B position =
    whole_rules B (sized position (edges_of B.ends)) ++ (game_edges_rule B ∷ position_rule position ∷ move_rule position ∷ [])

unfoldable pub game_refusal : Board → List ℕ → Test
unfolding game_rules
game_refusal B position = refusal_of (game_rules B position)

-- The search for a trap is lent a board with its losses, and a buffer for the set. The losses come before the open bytes, as on a sheet.
unfoldable pub trap_rules : Board → List ℕ → List ℕ → List Rule
unfolding board_rules
trap_rules B loss set =
    let m = edges_of B.ends in
    board_rules B (sized loss m && sized set m) ++ (loss_rule loss ∷ open_rule B.opened ∷ trap_edges_rule B ∷ [])

unfoldable pub trap_refusal : Board → List ℕ → List ℕ → Test
unfolding trap_rules
trap_refusal B loss set = refusal_of (trap_rules B loss set)

-- The torus builder is lent buffers for 4L² ends and 2L² marks. A side that breaks rule 11 is refused first, whatever the lengths; any
-- other length is then 3, also of the ends, which are to be filled and not given.
unfoldable pub torus_rules : ℕ → List ℕ → List ℕ → List Rule
torus_rules L ends marks =
    side_rule L
    ∷ length_rule (sized ends (4 * (L * L)) && sized marks (2 * (L * L)))
    ∷ []

unfoldable pub torus_refusal : ℕ → List ℕ → List ℕ → Test
unfolding torus_rules
torus_refusal L ends marks = refusal_of (torus_rules L ends marks)

-- The planar builder likewise, with buffers for all ends, marks and open bytes.
unfoldable pub planar_rules : ℕ → List ℕ → List ℕ → List ℕ → List Rule
planar_rules L ends marks opened =
    planar_side_rule L
    ∷ length_rule (sized ends (2 * planar_edges L) && sized marks (planar_edges L) && sized opened (planar_vertices L))
    ∷ []

unfoldable pub planar_refusal : ℕ → List ℕ → List ℕ → List ℕ → Test
unfolding planar_rules
planar_refusal L ends marks opened = refusal_of (planar_rules L ends marks opened)

-- readings and syndrome have a byte for each stacked vertex; all edges of the stack have two ends and a mark
abbrev pub stack_sized : ℕ → ℕ → List ℕ → List ℕ → List ℕ → List ℕ → Bool
stack_sized L R readings ends marks syndrome =
    (sized readings (stack_vertices L R) && sized syndrome (stack_vertices L R))
    && (sized ends (2 * stack_edges L R) && sized marks (stack_edges L R))

-- The stack's builder is lent a reading byte for each stacked vertex, and buffers for all ends, marks and syndrome bytes. The side comes
-- first, then the rounds, and the lengths are held to both; a reading byte above 1 is number 7, its place the stacked vertex.
abbrev pub layer_rules : ℕ → ℕ → List Rule
layer_rules L R = side_rule L ∷ rounds_rule L R ∷ []

abbrev pub reading_rules : ℕ → ℕ → List ℕ → List ℕ → List ℕ → List ℕ → List Rule
reading_rules L R readings ends marks syndrome = length_rule (stack_sized L R readings ends marks syndrome) ∷ syndrome_rule readings ∷ []

unfoldable pub stack_rules : ℕ → ℕ → List ℕ → List ℕ → List ℕ → List ℕ → List Rule
stack_rules L R readings ends marks syndrome = layer_rules L R ++ reading_rules L R readings ends marks syndrome

unfoldable pub stack_refusal : ℕ → ℕ → List ℕ → List ℕ → List ℕ → List ℕ → Test
unfolding stack_rules
stack_refusal L R readings ends marks syndrome = refusal_of (stack_rules L R readings ends marks syndrome)

-- a byte for each of the L² vertices and faces, and for each of the 2L² edges
abbrev pub faces_sized : ℕ → List ℕ → List ℕ → List ℕ → List ℕ → Bool
faces_sized L syndrome loss handed faces =
    (sized syndrome (L * L) && sized faces (L * L)) && (sized loss (2 * (L * L)) && sized handed (2 * (L * L)))

-- The verdict with faces is lent a side in the place of a board, syndrome, loss and a handed-in set for that torus, and a buffer for a byte
-- of each face. The side comes first, and the lengths are held to it. It tests for number 10 as the verdict does.
abbrev pub torus_byte_rules : ℕ → List ℕ → List ℕ → List ℕ → List ℕ → List Rule
torus_byte_rules L syndrome loss handed faces =
    length_rule (faces_sized L syndrome loss handed faces) ∷ (byte_rules syndrome loss ++ (handed_rule handed ∷ []))

unfoldable pub faces_rules : ℕ → List ℕ → List ℕ → List ℕ → List ℕ → List Rule
faces_rules L syndrome loss handed faces = side_rule L ∷ torus_byte_rules L syndrome loss handed faces

unfoldable pub faces_refusal : ℕ → List ℕ → List ℕ → List ℕ → List ℕ → Test
unfolding faces_rules
faces_refusal L syndrome loss handed faces = refusal_of (faces_rules L syndrome loss handed faces)
