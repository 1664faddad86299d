-- Document 01's example text, its line numbers, the same with open vertices (document 02, K5), and damaged ones, by computation. Assumes
-- nothing.
use Prim.Native.Nat.{ℕ}
use mathlib.Core.Path.{◌≡◌, refl}
use mathlib.Core.List.{List, [], ◌∷◌, ◌++◌}
use Rattle.model.specs.Sums.{count_up_to, values, members}
use Rattle.model.specs.Board.{board_of, Sheet, sheet_of}
use Rattle.model.specs.LineNumbers.{newlines_before, line_number}
use Rattle.model.specs.declared.refusal.Refusal.TheVariants.{MalformedLine}
use Rattle.model.specs.MarkedSheets.{ring, set_of, sheet}
use Rattle.model.specs.Text.{complete, refused, decimal_up_to, decimal, fields_of, bytes_of, printed, lines_of, text_of, parted_by, number_from, number, numbers, from_fields, line_from, step, read_on, read_lines, read_text}

-- the ring with vertices 0 and 3 in the syndrome
ring_sheet : Sheet
ring_sheet = sheet ring (0 ∷ 3 ∷ []) []

-- V 4, E 0 1 0, E 1 2 0, E 2 3 0, E 3 0 1, S 0, S 3
vertex_line : List ℕ
vertex_line = 86 ∷ 9 ∷ 52 ∷ 10 ∷ []

edge_lines : List ℕ
edge_lines =
    (69 ∷ 9 ∷ 48 ∷ 9 ∷ 49 ∷ 9 ∷ 48 ∷ 10 ∷ [])
    ++ (69 ∷ 9 ∷ 49 ∷ 9 ∷ 50 ∷ 9 ∷ 48 ∷ 10 ∷ [])
    ++ (69 ∷ 9 ∷ 50 ∷ 9 ∷ 51 ∷ 9 ∷ 48 ∷ 10 ∷ [])
    ++ (69 ∷ 9 ∷ 51 ∷ 9 ∷ 48 ∷ 9 ∷ 49 ∷ 10 ∷ [])

syndrome_lines : List ℕ
syndrome_lines = 83 ∷ 9 ∷ 48 ∷ 10 ∷ 83 ∷ 9 ∷ 51 ∷ 10 ∷ []

ring_text : List ℕ
ring_text = vertex_line ++ edge_lines ++ syndrome_lines

-- the same with vertices 1 and 2 open
open_sheet : Sheet
open_sheet = sheet_of (board_of 4 ring.ends ring.marks (0 ∷ 1 ∷ 1 ∷ 0 ∷ [])) (1 ∷ 0 ∷ 0 ∷ 1 ∷ []) (0 ∷ 0 ∷ 0 ∷ 0 ∷ [])

-- an O line with its number's bytes
open_line : List ℕ → List ℕ
open_line digits = 79 ∷ 9 ∷ digits ++ (10 ∷ [])

open_text : List ℕ
open_text = vertex_line ++ edge_lines ++ open_line (49 ∷ []) ++ open_line (50 ∷ []) ++ syndrome_lines

-- an X line with its number's bytes
loss_line : List ℕ → List ℕ
loss_line digits = 88 ∷ 9 ∷ digits ++ (10 ∷ [])

ring_written : text_of ring_sheet ≡ ring_text
unfolding text_of printed lines_of bytes_of fields_of decimal decimal_up_to members values ring_sheet sheet set_of ring_text vertex_line edge_lines syndrome_lines
ring_written = refl

ring_read : read_text ring_text ≡ complete ring_sheet
unfolding read_text read_lines read_on step line_from from_fields numbers number number_from parted_by ring_sheet sheet set_of values ring_text vertex_line edge_lines syndrome_lines
ring_read = refl

open_written : text_of open_sheet ≡ open_text
unfolding text_of printed lines_of bytes_of fields_of decimal decimal_up_to members values open_sheet open_text open_line vertex_line edge_lines syndrome_lines
open_written = refl

open_read : read_text open_text ≡ complete open_sheet
unfolding read_text read_lines read_on step line_from from_fields numbers number number_from parted_by open_sheet open_text open_line vertex_line edge_lines syndrome_lines
open_read = refl

-- the example's lines begin at 0, 4, 12, .., 40, and it ends at 44, where line 8 would begin
ring_line_numbers : (line_number ring_text 0 ≡ 1) × ((line_number ring_text 4 ≡ 2) × ((line_number ring_text 40 ≡ 7) × (line_number ring_text 44 ≡ 8)))
unfolding newlines_before count_up_to ring_text vertex_line edge_lines syndrome_lines
ring_line_numbers = (refl, (refl, (refl, refl)))

-- empty text; a last line without its newline; a leading zero; an `S` line after an `X` line; repeats; `V 1025`
empty : read_text [] ≡ refused (MalformedLine 1)
unfolding read_text read_lines read_on step line_from from_fields numbers number number_from parted_by
empty = refl

unended : read_text (ring_text ++ (88 ∷ 9 ∷ 48 ∷ [])) ≡ refused (MalformedLine 8)
unfolding read_text read_lines read_on step line_from from_fields numbers number number_from parted_by ring_text vertex_line edge_lines syndrome_lines
unended = refl

leading_zero : read_text (ring_text ++ loss_line (48 ∷ 49 ∷ [])) ≡ refused (MalformedLine 8)
unfolding read_text read_lines read_on step line_from from_fields numbers number number_from parted_by ring_text vertex_line edge_lines syndrome_lines loss_line
leading_zero = refl

no_such_edge : read_text (ring_text ++ loss_line (52 ∷ [])) ≡ refused (MalformedLine 8)
unfolding read_text read_lines read_on step line_from from_fields numbers number number_from parted_by ring_text vertex_line edge_lines syndrome_lines loss_line
no_such_edge = refl

repeated : read_text (ring_text ++ loss_line (51 ∷ []) ++ loss_line (51 ∷ [])) ≡ refused (MalformedLine 9)
unfolding read_text read_lines read_on step line_from from_fields numbers number number_from parted_by ring_text vertex_line edge_lines syndrome_lines loss_line
repeated = refl

out_of_order : read_text (vertex_line ++ edge_lines ++ loss_line (48 ∷ []) ++ syndrome_lines) ≡ refused (MalformedLine 7)
unfolding read_text read_lines read_on step line_from from_fields numbers number number_from parted_by vertex_line edge_lines syndrome_lines loss_line
out_of_order = refl

too_many_vertices : read_text (86 ∷ 9 ∷ 49 ∷ 48 ∷ 50 ∷ 53 ∷ 10 ∷ []) ≡ refused (MalformedLine 1)
unfolding read_text read_lines read_on step line_from from_fields numbers number number_from parted_by
too_many_vertices = refl

-- an `O` line after an `S` line; `O` lines that fall; no such vertex; an `S` line that names an open vertex
open_late : read_text (ring_text ++ open_line (49 ∷ [])) ≡ refused (MalformedLine 8)
unfolding read_text read_lines read_on step line_from from_fields numbers number number_from parted_by ring_text vertex_line edge_lines syndrome_lines open_line
open_late = refl

open_falling : read_text (vertex_line ++ edge_lines ++ open_line (50 ∷ []) ++ open_line (49 ∷ [])) ≡ refused (MalformedLine 7)
unfolding read_text read_lines read_on step line_from from_fields numbers number number_from parted_by vertex_line edge_lines open_line
open_falling = refl

no_such_vertex : read_text (vertex_line ++ edge_lines ++ open_line (52 ∷ [])) ≡ refused (MalformedLine 6)
unfolding read_text read_lines read_on step line_from from_fields numbers number number_from parted_by vertex_line edge_lines open_line
no_such_vertex = refl

open_lit : read_text (vertex_line ++ edge_lines ++ open_line (51 ∷ []) ++ syndrome_lines) ≡ refused (MalformedLine 8)
unfolding read_text read_lines read_on step line_from from_fields numbers number number_from parted_by vertex_line edge_lines syndrome_lines open_line
open_lit = refl
