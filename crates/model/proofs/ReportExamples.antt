-- Document 01, "Text", and document 02, K3 and K5: the example text and what the program prints for it, a text with number 10, one with
-- loop edges, one with open vertices, and one that doesn't read, each by computation. Assumes nothing.
use Prim.Native.Nat.{ℕ}
use mathlib.Core.Path.{◌≡◌, refl}
use mathlib.Core.List.{List, [], ◌∷◌, ◌++◌}
use Rattle.model.specs.Sums.{odd_up_to, count_up_to, some_up_to, first_up_to, values, members}
use Rattle.model.specs.Syndrome.{odd_end, syndrome}
use Rattle.model.specs.Winding.{closed, crossings, winds}
use Rattle.model.specs.Components.{labels_up_to, labels}
use Rattle.model.specs.Growth.{start, clusters, oddly_lit, holds_open, odd, exposed, boundary, choice_up_to, choice, swell, weighted, grow_from, grown}
use Rattle.model.specs.Forest.{taken_up_to, forest}
use Rattle.model.specs.Correction.{odd_side, spanned, odd_ends, correction}
use Rattle.model.specs.Decoding.{parts, in_odd_part, smallest_odd, grown_by, peeled}
use Rattle.model.specs.Distance.{fewest_from, fewest_where, fewest}
use Rattle.model.specs.Text.{decimal_up_to, decimal, fields_of, parted_by, number_from, number, numbers, from_fields, line_from, step, read_on, read_lines, read_text}
use Rattle.model.specs.Report.{report_line, edge_lines, distance_line, refusal_line, key_report, sheet_report, report_of}

-- V 4, E 0 1 0, E 1 2 0, E 2 3 0, E 3 0 1
pub ring : List ℕ
ring =
    (86 ∷ 9 ∷ 52 ∷ 10 ∷ [])
    ++ (69 ∷ 9 ∷ 48 ∷ 9 ∷ 49 ∷ 9 ∷ 48 ∷ 10 ∷ [])
    ++ (69 ∷ 9 ∷ 49 ∷ 9 ∷ 50 ∷ 9 ∷ 48 ∷ 10 ∷ [])
    ++ (69 ∷ 9 ∷ 50 ∷ 9 ∷ 51 ∷ 9 ∷ 48 ∷ 10 ∷ [])
    ++ (69 ∷ 9 ∷ 51 ∷ 9 ∷ 48 ∷ 9 ∷ 49 ∷ 10 ∷ [])

-- S 0
pub lit0 : List ℕ
lit0 = 83 ∷ 9 ∷ 48 ∷ 10 ∷ []

-- S 3
pub lit3 : List ℕ
lit3 = 83 ∷ 9 ∷ 51 ∷ 10 ∷ []

-- G 2, C 3, D 4
pub ring_report : report_of (ring ++ lit0 ++ lit3) ≡ 71 ∷ 9 ∷ 50 ∷ 10 ∷ 67 ∷ 9 ∷ 51 ∷ 10 ∷ 68 ∷ 9 ∷ 52 ∷ 10 ∷ []
unfolding ring lit0 lit3 report_of sheet_report key_report refusal_line distance_line edge_lines report_line decimal_up_to decimal fields_of parted_by number_from number numbers from_fields line_from step read_on read_lines read_text members odd_up_to count_up_to some_up_to first_up_to values odd_end syndrome closed crossings winds labels_up_to labels start clusters oddly_lit holds_open odd exposed boundary choice_up_to choice swell weighted grow_from grown taken_up_to forest odd_side spanned odd_ends correction parts in_odd_part smallest_odd grown_by peeled fewest_from fewest_where fewest
ring_report = refl

-- N 10 0
pub odd_report : report_of (ring ++ lit3) ≡ 78 ∷ 9 ∷ 49 ∷ 48 ∷ 9 ∷ 48 ∷ 10 ∷ []
unfolding ring lit3 report_of sheet_report refusal_line report_line decimal_up_to decimal fields_of parted_by number_from number numbers from_fields line_from step read_on read_lines read_text odd_up_to some_up_to first_up_to values labels_up_to labels oddly_lit holds_open odd parts in_odd_part smallest_odd
odd_report = refl

-- a vertex alone, V 1: G 0, D -
pub point_report : report_of (86 ∷ 9 ∷ 49 ∷ 10 ∷ []) ≡ 71 ∷ 9 ∷ 48 ∷ 10 ∷ 68 ∷ 9 ∷ 45 ∷ 10 ∷ []
unfolding report_of sheet_report key_report refusal_line distance_line edge_lines report_line decimal_up_to decimal fields_of parted_by number_from number numbers from_fields line_from step read_on read_lines read_text members odd_up_to count_up_to some_up_to first_up_to values odd_end syndrome closed crossings winds labels_up_to labels start clusters oddly_lit holds_open odd exposed boundary choice_up_to choice swell weighted grow_from grown taken_up_to forest odd_side spanned odd_ends correction parts in_odd_part smallest_odd grown_by peeled fewest_from fewest_where fewest
point_report = refl

-- the torus of side 1, V 1, E 0 0 1, E 0 0 2: G 0, D 1
pub loops_report :
    report_of ((86 ∷ 9 ∷ 49 ∷ 10 ∷ []) ++ (69 ∷ 9 ∷ 48 ∷ 9 ∷ 48 ∷ 9 ∷ 49 ∷ 10 ∷ []) ++ (69 ∷ 9 ∷ 48 ∷ 9 ∷ 48 ∷ 9 ∷ 50 ∷ 10 ∷ []))
    ≡ 71 ∷ 9 ∷ 48 ∷ 10 ∷ 68 ∷ 9 ∷ 49 ∷ 10 ∷ []
unfolding report_of sheet_report key_report refusal_line distance_line edge_lines report_line decimal_up_to decimal fields_of parted_by number_from number numbers from_fields line_from step read_on read_lines read_text members odd_up_to count_up_to some_up_to first_up_to values odd_end syndrome closed crossings winds labels_up_to labels start clusters oddly_lit holds_open odd exposed boundary choice_up_to choice swell weighted grow_from grown taken_up_to forest odd_side spanned odd_ends correction parts in_odd_part smallest_odd grown_by peeled fewest_from fewest_where fewest
loops_report = refl

-- a path between two open vertices, V 3, E 0 1 1, E 1 2 0, O 0, O 2, S 1: G 2, C 0, D 2
pub open_report :
    report_of ((86 ∷ 9 ∷ 51 ∷ 10 ∷ []) ++ (69 ∷ 9 ∷ 48 ∷ 9 ∷ 49 ∷ 9 ∷ 49 ∷ 10 ∷ []) ++ (69 ∷ 9 ∷ 49 ∷ 9 ∷ 50 ∷ 9 ∷ 48 ∷ 10 ∷ [])
    ++ (79 ∷ 9 ∷ 48 ∷ 10 ∷ []) ++ (79 ∷ 9 ∷ 50 ∷ 10 ∷ []) ++ (83 ∷ 9 ∷ 49 ∷ 10 ∷ []))
    ≡ 71 ∷ 9 ∷ 50 ∷ 10 ∷ 67 ∷ 9 ∷ 48 ∷ 10 ∷ 68 ∷ 9 ∷ 50 ∷ 10 ∷ []
unfolding report_of sheet_report key_report refusal_line distance_line edge_lines report_line decimal_up_to decimal fields_of parted_by number_from number numbers from_fields line_from step read_on read_lines read_text members odd_up_to count_up_to some_up_to first_up_to values odd_end syndrome closed crossings winds labels_up_to labels start clusters oddly_lit holds_open odd exposed boundary choice_up_to choice swell weighted grow_from grown taken_up_to forest odd_side spanned odd_ends correction parts in_odd_part smallest_odd grown_by peeled fewest_from fewest_where fewest
open_report = refl

-- an S line twice: N 13 7
pub repeated_report : report_of (ring ++ lit3 ++ lit3) ≡ 78 ∷ 9 ∷ 49 ∷ 51 ∷ 9 ∷ 55 ∷ 10 ∷ []
unfolding ring lit3 report_of refusal_line report_line decimal_up_to decimal fields_of parted_by number_from number numbers from_fields line_from step read_on read_lines read_text
repeated_report = refl
