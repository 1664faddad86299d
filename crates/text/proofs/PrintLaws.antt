-- The text of a sheet, line by line: the bytes that the writer puts, and how many they are at most. Assumes nothing.
use Prim.Native.Nat.{ℕ, zero, suc, ◌+◌, ◌*◌, ◌≤◌, ◌<◌}
use mathlib.Core.Path.{◌≡◌, refl, sym, ap, ap₂, ◌∙◌}
use mathlib.Core.Bool.{Bool, true, false, cond, true≢false}
use mathlib.Core.List.{List, [], ◌∷◌, ◌++◌, map, append_assoc, append-nil, map-append}
use native.Mathlib.Nat.{le_refl}
use native.Mathlib.Omega.{arith}
use lib.ListN.{length, length-append}
use Rattle.model.specs.Sums.{Set, values, ones, members}
use Rattle.model.specs.Board.{Sheet, Board, Valid, ValidSheet, edges, is_open, first_end, second_end, mark, vertex_limit, edge_limit}
use Rattle.model.specs.Text.{Line, V_line, E_line, O_line, S_line, X_line, newline, letter_v, letter_e, letter_o, letter_s, letter_x, tab, decimal, fields_of, bytes_of, printed, edge_line, lines_of, text_of}
use Rattle.model.proofs.ListLaws.{values_last}
use Rattle.text.specs.Printing.{number_bytes, edge_bytes, place_bytes, edges_bytes, listed_bytes, sheet_bytes}
use Rattle.text.proofs.DecimalLaws.{digits}
use Rattle.text.proofs.PutLaws.{length_number, length_edge, length_sheet}

pub printed_append : (xs ys : List Line) → printed (xs ++ ys) ≡ printed xs ++ printed ys
unfolding printed
printed_append [] ys = refl
printed_append (x ∷ xs) ys = rw (printed_append xs ys) (sym (append_assoc (bytes_of x) _ (printed ys)))

-- one line
pub one_number : (n : ℕ) → fields_of (n ∷ []) ≡ tab ∷ decimal n
unfolding fields_of
one_number n = ap (λ l. tab ∷ l) (append-nil (decimal n))

v_bytes : (n : ℕ) → printed (V_line n ∷ []) ≡ number_bytes letter_v n
unfolding printed bytes_of
v_bytes n = rw (one_number n)

o_bytes : (n : ℕ) → printed (O_line n ∷ []) ≡ number_bytes letter_o n
unfolding printed bytes_of
o_bytes n = rw (one_number n)

s_bytes : (n : ℕ) → printed (S_line n ∷ []) ≡ number_bytes letter_s n
unfolding printed bytes_of
s_bytes n = rw (one_number n)

x_bytes : (n : ℕ) → printed (X_line n ∷ []) ≡ number_bytes letter_x n
unfolding printed bytes_of
x_bytes n = rw (one_number n)

e_bytes : (a b m : ℕ) → printed (E_line a b m ∷ []) ≡ edge_bytes a b m
unfolding printed bytes_of fields_of
e_bytes a b m =
    ap (λ l. letter_e ∷ tab ∷ (l ++ (newline ∷ [])))
    (ap (λ l. decimal a ++ (tab ∷ (decimal b ++ (tab ∷ l)))) (append-nil (decimal m))
    ∙ sym (append_assoc (decimal a) (tab ∷ decimal b) (tab ∷ decimal m)))

edges_printed : (B : Board) (k : ℕ) → printed (values k (edge_line B)) ≡ edges_bytes B.ends B.marks k
unfolding edges_bytes printed values
edges_printed B zero = refl
edges_printed B (suc k) =
    ap printed (values_last k (edge_line B)) ∙ printed_append (values k (edge_line B)) (edge_line B k ∷ [])
    ∙ ap₂ ◌++◌ (edges_printed B k) (e_bytes _ _ _)

listed_printed : (line : ℕ → Line) (letter : ℕ) → ((i : ℕ) → printed (line i ∷ []) ≡ number_bytes letter i) → (D : Set) (k : ℕ)
    → printed (map line (members k D)) ≡ listed_bytes letter D k
unfolding listed_bytes members printed
listed_printed line letter one D zero = refl
listed_printed line letter one D (suc k) =
    ap printed (map-append line (members k D) (cond (D k) (k ∷ []) []))
    ∙ printed_append (map line (members k D)) (map line (cond (D k) (k ∷ []) []))
    ∙ ap₂ ◌++◌ (listed_printed line letter one D k) (go (D k))
  where
    go : (t : Bool) → printed (map line (cond t (k ∷ []) [])) ≡ place_bytes letter k t
    go true = one k
    go false = refl

-- all lines, where there is an open byte and a syndrome byte for each vertex and a loss byte for each edge
pub text_bytes : (X : Sheet) → length X.board.opened ≡ X.board.vertices → length X.syndrome ≡ X.board.vertices
    → length X.loss ≡ edges X.board → sheet_bytes X ≡ text_of X
unfolding text_of lines_of
text_bytes X opened syndrome loss =
    let B = X.board in
    let v : List Line = V_line B.vertices ∷ [] in
    let e : List Line = values (edges B) (edge_line B) in
    let o : List Line = map O_line (members B.vertices (is_open B)) in
    let s : List Line = map S_line (members B.vertices (ones X.syndrome)) in
    let x : List Line = map X_line (members (edges B) (ones X.loss)) in
    sym
    (printed_append (v ++ e ++ o ++ s) x
    ∙ ap (λ l. l ++ printed x)
    (printed_append (v ++ e ++ o) s
    ∙ ap (λ l. l ++ printed s) (printed_append (v ++ e) o ∙ ap (λ l. l ++ printed o) (printed_append v e)))
    ∙ rw (opened, syndrome, loss)
    (ap₂ ◌++◌
    (ap₂ ◌++◌
    (ap₂ ◌++◌
    (ap₂ ◌++◌ (v_bytes B.vertices) (edges_printed B (edges B)))
    (listed_printed O_line letter_o o_bytes (is_open B) B.vertices))
    (listed_printed S_line letter_s s_bytes (ones X.syndrome) B.vertices))
    (listed_printed X_line letter_x x_bytes (ones X.loss) (edges B))))

-- No text is longer than this: 7 bytes for `V`, 14 for an edge, 7 for a vertex that is open or in the syndrome, and 7 for a lost edge.
edges_short : (B : Board) → Valid B → (k : ℕ) → k ≤ edges B → length (edges_bytes B.ends B.marks k) ≤ 14 * k
unfolding edges_bytes
edges_short B w zero h = omega arith
edges_short B w (suc k) h =
    let before = edges_short B w k (omega arith) in
    let first = (digits 3).few (first_end B k) (omega (arith, w.inside.first_in_range k h, w.inside.vertices_limited)) in
    let second = (digits 3).few (second_end B k) (omega (arith, w.inside.second_in_range k h, w.inside.vertices_limited)) in
    let third = (digits 0).few (mark B k) (omega (arith, w.mark_in_range k h)) in
    let line = length_edge (first_end B k) (second_end B k) (mark B k) in
    let both = length-append (edges_bytes B.ends B.marks k) (edge_bytes (first_end B k) (second_end B k) (mark B k)) in
    omega arith

place_short : (letter k : ℕ) → k < edge_limit → (t : Bool) → length (place_bytes letter k t) ≤ 7
place_short letter k h true = omega (arith, (digits 3).few k (omega arith), length_number letter k)
place_short letter k h false = omega arith

pub listed_short : (letter : ℕ) (D : Set) (k : ℕ) → k ≤ edge_limit → length (listed_bytes letter D k) ≤ 7 * k
unfolding listed_bytes
listed_short letter D zero h = omega arith
listed_short letter D (suc k) h =
    let before = listed_short letter D k (omega arith) in
    let line = place_short letter k h (D k) in
    let both = length-append (listed_bytes letter D k) (place_bytes letter k (D k)) in
    omega arith

-- two lists of which no number is on both
both_short : (c d : ℕ) (D E : Set) (k : ℕ) → k ≤ edge_limit → ((i : ℕ) → i < k → D i ≡ true → E i ≡ false)
    → length (listed_bytes c D k) + length (listed_bytes d E k) ≤ 7 * k
unfolding listed_bytes
both_short c d D E zero h apart = omega arith
both_short c d D E (suc k) h apart =
    let before = both_short c d D E k (omega arith) (λ i l. apart i (omega arith)) in
    let line = go (D k) (E k) (apart k (le_refl _)) in
    let first = length-append (listed_bytes c D k) (place_bytes c k (D k)) in
    let second = length-append (listed_bytes d E k) (place_bytes d k (E k)) in
    omega arith
  where
    go : (s t : Bool) → (s ≡ true → t ≡ false) → length (place_bytes c k s) + length (place_bytes d k t) ≤ 7
    go true true p = absurd (true≢false (p refl))
    go true false p = omega (arith, place_short c k h true)
    go false t p = omega (arith, place_short d k h t)

pub text_short : (X : Sheet) → ValidSheet X → length (sheet_bytes X) ≤ 7 + 14 * edge_limit + 7 * vertex_limit + 7 * edge_limit
text_short X w =
    let B = X.board in
    let v = length_number letter_v B.vertices in
    let digits = (digits 3).few B.vertices (omega (arith, w.board.inside.vertices_limited)) in
    let e = edges_short B w.board (edges B) (le_refl _) in
    let few = w.board.inside.vertices_limited in
    let listed = both_short letter_o letter_s (is_open B) (ones X.syndrome) B.vertices (omega arith) w.unlit in
    let o = ap (λ k. length (listed_bytes letter_o (is_open B) k)) w.board.open_bytes.count in
    let s = ap (λ k. length (listed_bytes letter_s (ones X.syndrome) k)) w.syndrome.count in
    let x = listed_short letter_x (ones X.loss) (length X.loss) (omega (arith, w.loss.count, w.board.inside.edges_limited)) in
    omega (arith, length_sheet X, few, w.board.inside.edges_limited, w.loss.count)
