-- Document 01, "Marked sheets": m1 to m9 as theorems about the definitions, and document 02, K2: the vertices that number 10 shows, K3:
-- loop edges, and K5: open sides. Gathered as one list, each proved by computation.
-- Assumes nothing.
use Rattle.std.specs.Prelude.{ℕ, ◌+◌, ◌*◌, ◌≡◌, refl, true, false, ◌||◌, List, [], ◌∷◌, length, replicate, eqb, Err}
use Rattle.std.proofs.Math.Option.{none, some}
use Rattle.model.specs.Sums.{Set, odd_up_to, count_up_to, some_up_to, first_up_to, values, ones, bytes, members}
use Rattle.model.specs.Board.{Board, board_of, without_open, Sheet, edges}
use Rattle.model.specs.Syndrome.{odd_end, syndrome}
use Rattle.model.specs.Winding.{closed, crossings, winds, together}
use Rattle.model.specs.Components.{labels_up_to, labels}
use Rattle.model.specs.Growth.{start, full, clusters, oddly_lit, holds_open, odd, exposed, boundary, choice_up_to, choice, swell, grow, weighted, grow_from, grown}
use Rattle.model.specs.Rounds.{all_odd}
use Rattle.model.specs.Forest.{taken_up_to, forest}
use Rattle.model.specs.Correction.{odd_side, spanned, odd_ends, correction}
use Rattle.model.specs.Decoding.{parts, in_odd_part, smallest_odd, grown_by, peeled, supports, corrected, round_supports, round_corrected}
use Rattle.model.specs.Demand3.{lost_edges, kept_edges}
use Rattle.model.specs.Distance.{fewest_from, fewest_where, fewest}
use Rattle.model.specs.Torus.{torus_ends, torus_marks, torus}
use Rattle.model.specs.Planar.{planar_ends, planar_marks, planar_opens, planar}
use Rattle.model.specs.Refusals.{none_at, decode_refusal}
use Rattle.model.specs.Outcomes.{key_or_none, decode_answer}
use Rattle.model.specs.RoundsOutcomes.{rounds_or_none, rounds_answer}
use Rattle.model.specs.Answers.{key_with, rounds_with}

-- the set of the numbers on a list
unfoldable pub set_of : List ℕ → Set
set_of [] i = false
set_of (x ∷ xs) i = eqb i x || set_of xs i

-- a board with the syndrome vertices and lost edges on two lists
unfoldable pub sheet : Board → List ℕ → List ℕ → Sheet
unfolding set_of
sheet B lit lost = record { board = B; syndrome = bytes B.vertices (set_of lit); loss = bytes (edges B) (set_of lost) }

-- a buffer to be filled, for a sheet's edges
abbrev pub blank : Sheet → List ℕ
blank X = replicate (edges X.board) 0

-- Ring: the board of the text example.
abbrev pub ring : Board
ring = without_open 4 (0 ∷ 1 ∷ 1 ∷ 2 ∷ 2 ∷ 3 ∷ 3 ∷ 0 ∷ []) (0 ∷ 0 ∷ 0 ∷ 1 ∷ [])

-- P: vertices 0 to 3, edges 0-1, 1-2, 2-3, marks 0.
abbrev pub path : Board
path = without_open 4 (0 ∷ 1 ∷ 1 ∷ 2 ∷ 2 ∷ 3 ∷ []) (0 ∷ 0 ∷ 0 ∷ [])

-- m8: two vertices, edges 0-1 with marks 0 and 1.
abbrev pub pair : Board
pair = without_open 2 (0 ∷ 1 ∷ 0 ∷ 1 ∷ []) (0 ∷ 1 ∷ [])

-- m9: one vertex, no edge.
abbrev pub point : Board
point = without_open 1 [] []

-- K2: vertex 0 alone, and the edges 2-1 and 4-3, marks 0.
abbrev pub two_edges : Board
two_edges = without_open 5 (2 ∷ 1 ∷ 4 ∷ 3 ∷ []) (0 ∷ 0 ∷ [])

-- K3: the edge 0-1, mark 0, between a loop edge at 0, mark 1, and one at 1, mark 2.
abbrev pub looped : Board
looped = without_open 2 (0 ∷ 0 ∷ 0 ∷ 1 ∷ 1 ∷ 1 ∷ []) (1 ∷ 0 ∷ 2 ∷ [])

-- K3: the torus of side 1, entry by entry
abbrev pub side_one : Board
side_one = without_open 1 (0 ∷ 0 ∷ 0 ∷ 0 ∷ []) (1 ∷ 2 ∷ [])

-- K5: the planar board of side 2, entry by entry: rows 0 1 2 and 3 4 5, of which 0, 2, 3 and 5 are open
abbrev pub side_two : Board
side_two =
    board_of 6 (0 ∷ 1 ∷ 1 ∷ 2 ∷ 3 ∷ 4 ∷ 4 ∷ 5 ∷ 1 ∷ 4 ∷ []) (1 ∷ 0 ∷ 1 ∷ 0 ∷ 0 ∷ []) (1 ∷ 0 ∷ 1 ∷ 1 ∷ 0 ∷ 1 ∷ [])

-- K5: the edges 2-1 and 4-3, marks 0, of which vertices 2 and 4 are open, and vertex 0 alone
abbrev pub two_open : Board
two_open = board_of 5 (2 ∷ 1 ∷ 4 ∷ 3 ∷ []) (0 ∷ 0 ∷ []) (0 ∷ 0 ∷ 1 ∷ 0 ∷ 1 ∷ [])

-- the table answers with this many growths and this correction
pub record Keyed (X : Sheet) (steps : ℕ) (edges : List ℕ) : Type 0 where
  pub answers : decode_answer X (blank X) (blank X) ≡ key_with steps (length edges)
  pub corrects : members (length X.board.marks) (corrected X) ≡ edges

-- these edges end full
abbrev pub EndFull : Sheet → List ℕ → Type 0
EndFull X e = members (edges X.board) (full (supports X)) ≡ e

-- in rounds: this many of them, this correction, and these supports
pub record RoundsKeyed (X : Sheet) (count : ℕ) (edges support : List ℕ) : Type 0 where
  pub answers : rounds_answer X (blank X) (blank X) ≡ rounds_with count (length edges)
  pub corrects : members (length X.board.marks) (round_corrected X) ≡ edges
  pub supports : round_supports X ≡ support

-- the table answers 10 and shows the vertex v
abbrev pub NoKey : Sheet → ℕ → Type 0
NoKey X v = decode_answer X (blank X) (blank X) ≡ Err (none_at v)

-- E has the syndrome put
abbrev pub Fits : Sheet → List ℕ → Type 0
Fits X E = members X.board.vertices (syndrome X.board (set_of E)) ≡ members X.board.vertices (ones X.syndrome)

-- t + 2s of the set E
abbrev pub weight : Sheet → List ℕ → ℕ
weight X E = lost_edges X.board (ones X.loss) + 2 * kept_edges X.board (ones X.loss) (set_of E)

-- m1 Ring, {0,3}: 2 growths, correction {3}
abbrev pub m1 : Sheet
m1 = sheet ring (0 ∷ 3 ∷ []) []

-- m2 Ring, lost 0, 1, 2, {0,3}: 0 growths, {0,1,2}; E = {0,1,2} has t + 2s = 3, below 4
abbrev pub m2 : Sheet
m2 = sheet ring (0 ∷ 3 ∷ []) (0 ∷ 1 ∷ 2 ∷ [])

-- m3 Ring, all lost, {0,3}: {0,1,2}; E = {3} has 4, and winds with it
abbrev pub m3 : Sheet
m3 = sheet ring (0 ∷ 3 ∷ []) (0 ∷ 1 ∷ 2 ∷ 3 ∷ [])

-- m4 P, {0,3}: 6 growths, {0,1,2}
abbrev pub m4 : Sheet
m4 = sheet path (0 ∷ 3 ∷ []) []

-- m5 P, {0,1,2}: 10, vertex 0
abbrev pub m5 : Sheet
m5 = sheet path (0 ∷ 1 ∷ 2 ∷ []) []

-- m6 T, {0,1}: 2 growths, full 0, 1, 4, 13, correction {0}
abbrev pub m6 : Sheet
m6 = sheet (torus 3) (0 ∷ 1 ∷ []) []

-- m7 T, {0,4}: 4 growths, full 0, 1, 3, 4, 6, 8, 9, 13, correction {0,3}
abbrev pub m7 : Sheet
m7 = sheet (torus 3) (0 ∷ 4 ∷ []) []

-- m8 two vertices, edges 0-1 with marks 0 and 1, {0,1}: 2 growths, {0}; distance 2
abbrev pub m8 : Sheet
m8 = sheet pair (0 ∷ 1 ∷ []) []

-- m9 one vertex, no edge: {} gives 0 growths, {0} gives 10, vertex 0; distance none
abbrev pub m9 : Sheet
m9 = sheet point [] []

abbrev pub m9_lit : Sheet
m9_lit = sheet point (0 ∷ []) []

-- K2, {2,4}: both edges are odd parts, and 10 shows vertex 1: not vertex 0, whose part is even, not 2, which is lit and the largest of its
-- part, and not 3, the smallest of the other odd part
abbrev pub two_odd : Sheet
two_odd = sheet two_edges (2 ∷ 4 ∷ []) []

-- K3, {0,1}, lost 2: vertex 0 grows twice, after which its own loop edge and the edge 0-1 are full; the correction is {1}. The set
-- {0,1,2} has the same syndrome, and t + 2s = 5: both of its loop edges count, the lost one in t, the other in s.
abbrev pub loops : Sheet
loops = sheet looped (0 ∷ 1 ∷ []) (2 ∷ [])

-- K5, planar of side 2, {1}: two growths of vertex 1 fill its three edges, and the cluster then holds the open vertices 0 and 2; the
-- smaller one is its other odd end, so the correction is {0}. The set {1} has the same syndrome, and winds with it from side to side.
abbrev pub one_lit : Sheet
one_lit = sheet side_two (1 ∷ []) []

-- K5, planar of side 2, {1,4}, lost 0 and 1: the cluster of 0, 1 and 2 holds an open vertex and never grows. Vertex 4 does, twice, and then
-- all is one cluster with two syndrome vertices, to which no open vertex is added.
abbrev pub open_lost : Sheet
open_lost = sheet side_two (1 ∷ 4 ∷ []) (0 ∷ 1 ∷ [])

-- K5, {0,3}: the part of vertex 3 is oddly lit but holds the open vertex 4; vertex 0 alone is an odd part
abbrev pub open_part : Sheet
open_part = sheet two_open (0 ∷ 3 ∷ []) []

pub record MarkedSheets : Type 0 where
  pub m1_key : Keyed m1 2 (3 ∷ [])
  pub ring_distance : fewest ring ≡ some 4
  pub m2_key : Keyed m2 0 (0 ∷ 1 ∷ 2 ∷ [])
  pub m2_fits : Fits m2 (0 ∷ 1 ∷ 2 ∷ [])
  pub m2_weight : weight m2 (0 ∷ 1 ∷ 2 ∷ []) ≡ 3
  pub m3_key : Keyed m3 0 (0 ∷ 1 ∷ 2 ∷ [])
  pub m3_fits : Fits m3 (3 ∷ [])
  pub m3_weight : weight m3 (3 ∷ []) ≡ 4
  pub m3_winds : winds ring (together (set_of (3 ∷ [])) (corrected m3)) ≡ true
  pub m4_key : Keyed m4 6 (0 ∷ 1 ∷ 2 ∷ [])
  pub m5_none : NoKey m5 0
  pub m6_key : Keyed m6 2 (0 ∷ [])
  pub m6_full : EndFull m6 (0 ∷ 1 ∷ 4 ∷ 13 ∷ [])
  pub m7_key : Keyed m7 4 (0 ∷ 3 ∷ [])
  pub m7_full : EndFull m7 (0 ∷ 1 ∷ 3 ∷ 4 ∷ 6 ∷ 8 ∷ 9 ∷ 13 ∷ [])
  pub m8_key : Keyed m8 2 (0 ∷ [])
  pub m8_distance : fewest pair ≡ some 2
  pub m9_key : Keyed m9 0 []
  pub m9_none : NoKey m9_lit 0
  pub m9_distance : fewest point ≡ none
  pub two_odd_none : NoKey two_odd 1
  pub loops_key : Keyed loops 2 (1 ∷ [])
  pub loops_full : EndFull loops (0 ∷ 1 ∷ 2 ∷ [])
  pub loops_fits : Fits loops (0 ∷ 1 ∷ 2 ∷ [])
  pub loops_weight : weight loops (0 ∷ 1 ∷ 2 ∷ []) ≡ 5
  pub loops_gain : grow looped (0 ∷ 0 ∷ 2 ∷ []) (0 ∷ 1 ∷ []) 0 ≡ 2 ∷ 1 ∷ 2 ∷ []
  pub loops_distance : fewest looped ≡ some 1
  pub m1_rounds : RoundsKeyed m1 1 (3 ∷ []) (1 ∷ 0 ∷ 1 ∷ 2 ∷ [])
  pub m4_rounds : RoundsKeyed m4 3 (0 ∷ 1 ∷ 2 ∷ []) (2 ∷ 2 ∷ 2 ∷ [])
  pub m5_rounds : rounds_answer m5 (blank m5) (blank m5) ≡ Err (none_at 0)
  pub m9_rounds : RoundsKeyed m9 0 [] []
  pub loops_rounds : RoundsKeyed loops 1 (1 ∷ []) (2 ∷ 2 ∷ 2 ∷ [])
  pub side_one_lem : torus 1 ≡ side_one
  pub side_one_key : Keyed (sheet side_one [] []) 0 []
  pub side_one_none : NoKey (sheet side_one (0 ∷ []) []) 0
  pub side_one_distance : fewest side_one ≡ some 1
  pub side_two_lem : planar 2 ≡ side_two
  pub one_lit_key : Keyed one_lit 2 (0 ∷ [])
  pub one_lit_full : EndFull one_lit (0 ∷ 1 ∷ 4 ∷ [])
  pub one_lit_fits : Fits one_lit (1 ∷ [])
  pub one_lit_winds : winds side_two (together (set_of (1 ∷ [])) (corrected one_lit)) ≡ true
  pub one_lit_rounds : RoundsKeyed one_lit 2 (0 ∷ []) (2 ∷ 2 ∷ 0 ∷ 0 ∷ 2 ∷ [])
  pub open_lost_key : Keyed open_lost 2 (4 ∷ [])
  pub open_lost_full : EndFull open_lost (0 ∷ 1 ∷ 2 ∷ 3 ∷ 4 ∷ [])
  pub open_part_none : NoKey open_part 0
  pub side_two_distance : fewest side_two ≡ some 2

pub marked_sheets : MarkedSheets
unfolding members set_of sheet odd_up_to count_up_to some_up_to first_up_to values odd_end syndrome closed crossings winds labels_up_to labels start clusters oddly_lit holds_open odd exposed boundary choice_up_to choice swell weighted all_odd grow_from grown taken_up_to forest odd_side spanned odd_ends correction parts in_odd_part smallest_odd grown_by peeled fewest_from fewest_where fewest torus_ends torus_marks torus planar_ends planar_marks planar_opens planar decode_refusal key_or_none decode_answer rounds_or_none rounds_answer
marked_sheets =
    record {
      m1_key = record { answers = refl; corrects = refl };
      ring_distance = refl;
      m2_key = record { answers = refl; corrects = refl };
      m2_fits = refl;
      m2_weight = refl;
      m3_key = record { answers = refl; corrects = refl };
      m3_fits = refl;
      m3_weight = refl;
      m3_winds = refl;
      m4_key = record { answers = refl; corrects = refl };
      m5_none = refl;
      m6_key = record { answers = refl; corrects = refl };
      m6_full = refl;
      m7_key = record { answers = refl; corrects = refl };
      m7_full = refl;
      m8_key = record { answers = refl; corrects = refl };
      m8_distance = refl;
      m9_key = record { answers = refl; corrects = refl };
      m9_none = refl;
      m9_distance = refl;
      two_odd_none = refl;
      loops_key = record { answers = refl; corrects = refl };
      loops_full = refl;
      loops_fits = refl;
      loops_weight = refl;
      loops_gain = refl;
      loops_distance = refl;
      m1_rounds = record { answers = refl; corrects = refl; supports = refl };
      m4_rounds = record { answers = refl; corrects = refl; supports = refl };
      m5_rounds = refl;
      m9_rounds = record { answers = refl; corrects = refl; supports = refl };
      loops_rounds = record { answers = refl; corrects = refl; supports = refl };
      side_one_lem = refl;
      side_one_key = record { answers = refl; corrects = refl };
      side_one_none = refl;
      side_one_distance = refl;
      side_two_lem = refl;
      one_lit_key = record { answers = refl; corrects = refl };
      one_lit_full = refl;
      one_lit_fits = refl;
      one_lit_winds = refl;
      one_lit_rounds = record { answers = refl; corrects = refl; supports = refl };
      open_lost_key = record { answers = refl; corrects = refl };
      open_lost_full = refl;
      open_part_none = refl;
      side_two_distance = refl;
    }
