-- Reading a text line by line: what the answer about the next line says of all that is left. Assumes nothing.
use Prim.Native.Nat.{ℕ, suc, ◌+◌, ◌≤◌, ◌<◌}
use mathlib.Core.Path.{◌≡◌, refl, sym, ap, ◌∙◌}
use mathlib.Core.Bool.{Bool, true, false, cond, not, ◌&&◌, false≢true, and-true, and-false}
use mathlib.Core.List.{List, [], ◌∷◌}
use mathlib.Core.Option.{Option, none, some}
use native.Mathlib.Numerals.{add-one}
use native.Mathlib.Omega.{arith}
use borrow.Author.Tests.{ltb-true, ltb-false, leb-true, leb-false, le-leb, lt-leb}
use lib.ListN.{length, take, drop, drop_of_length-le}
use lib.Seq.{get_or-take}
use lib.Dec.{leb, ltb}
use Rattle.model.proofs.Xor.{and_left, and_right}
use Rattle.model.specs.declared.refusal.Refusal.TheVariants.{MalformedLine}
use Rattle.model.specs.Sums.{ones}
use Rattle.model.specs.Board.{Sheet, edges, vertex_limit, edge_limit}
use Rattle.model.specs.Text as text
use Rattle.model.specs.Text.{V_line, E_line, O_line, S_line, X_line, newline, numbers_of, parted_by, line_from, complete, refused, or_malformed, first_line, begun, edge_may_follow, open_may_follow, syndrome_may_follow, loss_may_follow, with_edge, with_open, with_syndrome, with_loss, step, read_on, read_lines, read_text}
use Rattle.text.specs.declared.line.Line.{Line}
use Rattle.std.specs.Prelude.{Some, None}
use Rattle.text.specs.declared.line.LineRead.{LineRead}
use Rattle.text.specs.Pieces.{up_to}
use Rattle.text.specs.LineReadings.{as_line, as_parsed, small, line_parsed, as_read, line_read_at}
use Rattle.text.specs.Order.{meant, edge_fits, lit_fits, may_stand}
use Rattle.text.proofs.PieceLaws.{parted, pieces_at, one_piece_at}
use Rattle.theory.proofs.TextReading.{first_vertices}
use Rattle.model.proofs.Contradiction.{zero_one}

-- a line that reads: its bytes, and where the next one begins, with the next number
pub record LineIs (t : List ℕ) (at k : ℕ) (l : Line) (next k' : ℕ) : Type 0 where
  pub bytes : List ℕ
  pub pieces : parted_by newline (drop at t) ≡ bytes ∷ parted_by newline (drop next t)
  pub reads : line_from bytes ≡ some (meant l)
  pub follows : k' ≡ k + 1
  pub further : at < next
  pub inside : next ≤ length t

-- a line that doesn't read: none with its newline, one that is no line, or one with too large a number
pub data NoLine (t : List ℕ) (at : ℕ) : Type 0 where
  unended : (bytes : List ℕ) → parted_by newline (drop at t) ≡ bytes ∷ [] → length t ≤ at + length bytes → NoLine t at
  unread : (bytes next : List ℕ) (rest : List (List ℕ)) → parted_by newline (drop at t) ≡ bytes ∷ next ∷ rest → line_from bytes ≡ none
      → NoLine t at
  large : (bytes next : List ℕ) (rest : List (List ℕ)) (l : text.Line) → parted_by newline (drop at t) ≡ bytes ∷ next ∷ rest
      → line_from bytes ≡ some l → small (numbers_of l) ≡ false → NoLine t at

meant_as_line : (l : text.Line) → meant (as_line l) ≡ l
meant_as_line (V_line n) = refl
meant_as_line (E_line a b m) = refl
meant_as_line (O_line v) = refl
meant_as_line (S_line v) = refl
meant_as_line (X_line e) = refl

module _ (t : List ℕ) (at k : ℕ) where
  ends : ℕ
  ends = at + length (up_to newline (drop at t))

  -- by whether a newline ends the line
  newline? : {A : Type 0} → (ends < length t → A) → (length t ≤ ends → A) → A
  newline? {A} some-where nowhere = go (ltb ends (length t)) refl
    where
      go : (b : Bool) → ltb ends (length t) ≡ b → A
      go true p = some-where (ltb-true ends (length t) p)
      go false p = nowhere (ltb-false ends (length t) p)

  pub line_is : (x : LineRead) → line_read_at at k (parted_by newline (drop at t)) ≡ Some x → LineIs t at k x.line x.next x.number
  unfolding line_read_at ends
  line_is x p =
      newline?
      (λ h.
      let w = parted newline (drop (ends + 1) t) in
      let q = pieces_at newline t at ends refl h in
      found h q (line_from (up_to newline (drop at t))) refl (sym (rw (q, w.are)) ∙ p))
      (λ h.
      let q = one_piece_at newline t at ends refl h in
      zero_one (cc))
    where
      found : ends < length t → parted_by newline (drop at t) ≡ up_to newline (drop at t) ∷ parted_by newline (drop (ends + 1) t)
          → (o : Option text.Line) → line_from (up_to newline (drop at t)) ≡ o
          → as_read (line_parsed o) (ends + 1) (k + 1) ≡ Some x → LineIs t at k x.line x.next x.number
      found h q none r p = zero_one (cc)
      found h q (some line) r p = kept (small (numbers_of line)) p
        where
          kept : (b : Bool) → as_read (as_parsed (cond b (some line) none)) (ends + 1) (k + 1) ≡ Some x
              → LineIs t at k x.line x.next x.number
          kept true p =
              let same : ◌≡◌ {A = LineRead} (record { line = as_line line; next = ends + 1; number = k + 1 }) x = cc in
              let is = ap (λ (y : LineRead). y.line) same in
              let there = ap (λ (y : LineRead). y.next) same in
              let number = ap (λ (y : LineRead). y.number) same in
              record {
                bytes = up_to newline (drop at t);
                pieces = q ∙ ap (λ j. up_to newline (drop at t) ∷ parted_by newline (drop j t)) there;
                reads = r ∙ ap some (sym (meant_as_line line) ∙ ap meant is);
                follows = sym number;
                further = omega arith;
                inside = omega arith;
              }
          kept false p = zero_one (cc)

  pub no_line : line_read_at at k (parted_by newline (drop at t)) ≡ None → NoLine t at
  unfolding line_read_at ends
  no_line p =
      newline?
      (λ h.
      let w = parted newline (drop (ends + 1) t) in
      let q : parted_by newline (drop at t) ≡ up_to newline (drop at t) ∷ up_to newline (drop (ends + 1) t) ∷ w.others =
      pieces_at newline t at ends refl h ∙ ap (λ x. up_to newline (drop at t) ∷ x) w.are in
      lost (up_to newline (drop (ends + 1) t)) w.others q (line_from (up_to newline (drop at t))) refl (sym (rw q) ∙ p))
      (λ h. unended (up_to newline (drop at t)) (one_piece_at newline t at ends refl h) h)
    where
      lost : (next : List ℕ) (rest : List (List ℕ)) → parted_by newline (drop at t) ≡ up_to newline (drop at t) ∷ next ∷ rest
          → (o : Option text.Line) → line_from (up_to newline (drop at t)) ≡ o
          → as_read (line_parsed o) (ends + 1) (k + 1) ≡ None → NoLine t at
      lost next rest q none r p = unread (up_to newline (drop at t)) next rest q r
      lost next rest q (some line) r p = cut (small (numbers_of line)) refl p
        where
          cut : (b : Bool) → small (numbers_of line) ≡ b
              → as_read (as_parsed (cond b (some line) none)) (ends + 1) (k + 1) ≡ None → NoLine t at
          cut true e p = zero_one (cc)
          cut false e p = large (up_to newline (drop at t)) next rest line q r e

-- A line that may stand

-- the sheet with one line more
unfoldable pub with_line : Sheet → text.Line → Sheet
with_line X (V_line n) = X
with_line X (E_line a b m) = with_edge X a b m
with_line X (O_line v) = with_open X v
with_line X (S_line v) = with_syndrome X v
with_line X (X_line e) = with_loss X e

-- where it may stand on the sheet itself
abbrev pub may_stand_on : Sheet → text.Line → text.Line → Bool
may_stand_on X last l = may_stand X.board.vertices (edges X.board) X.board.opened last l

pub steps : (X : Sheet) (last l : text.Line) → step X last l ≡ cond (may_stand_on X last l) (some (with_line X l)) none
unfolding step with_line
steps X last (V_line n) = refl
steps X last (E_line a b m) = refl
steps X last (O_line v) = refl
steps X last (S_line v) = refl
steps X last (X_line e) = refl

-- a vertex that may be lit is in range
pub lit_inside : (n : ℕ) (opened : List ℕ) (v : ℕ) → lit_fits n opened v ≡ true → v < n
lit_inside n opened v p = ltb-true v n (and_left (ltb v n) (not (ones opened v)) p)

-- only the open bytes of the board's vertices matter
pub same_stand : (n m : ℕ) (opened : List ℕ) (last l : text.Line) → may_stand n m (take n opened) last l ≡ may_stand n m opened last l
same_stand n m opened last (V_line k) = refl
same_stand n m opened last (E_line a b k) = refl
same_stand n m opened last (O_line v) = refl
same_stand n m opened last (S_line v) = go (ltb v n) refl
  where
    go : (t : Bool) → ltb v n ≡ t
        → syndrome_may_follow last v && (t && not (ones (take n opened) v)) ≡ syndrome_may_follow last v && (t && not (ones opened v))
    go true p = rw (get_or-take n opened v 0 (ltb-true v n p))
    go false p = refl
same_stand n m opened last (X_line e) = refl

-- what may stand on a board within the limits has small numbers
pub stands_small : (n m : ℕ) (opened : List ℕ) (last l : text.Line) → n ≤ vertex_limit → m ≤ edge_limit
    → may_stand n m opened last l ≡ true → small (numbers_of l) ≡ true
stands_small n m opened last (V_line k) hn hm p = absurd (false≢true p)
stands_small n m opened last (E_line a b k) hn hm p =
    let fits = and_right (edge_may_follow last) (edge_fits n m a b k) p in
    let inside = ltb m edge_limit && ltb a n && ltb b n in
    let mark = leb-true k 3 (and_right inside (leb k 3) fits) in
    let ab = and_left inside (leb k 3) fits in
    let la = ltb-true a n (and_right (ltb m edge_limit) (ltb a n) (and_left (ltb m edge_limit && ltb a n) (ltb b n) ab)) in
    let lb = ltb-true b n (and_right (ltb m edge_limit && ltb a n) (ltb b n) ab) in
    rw (le-leb a edge_limit (omega arith), le-leb b edge_limit (omega arith), le-leb k edge_limit (omega arith))
stands_small n m opened last (O_line v) hn hm p =
    let lv = ltb-true v n (and_right (open_may_follow last v) (ltb v n) p) in
    rw (le-leb v edge_limit (omega arith))
stands_small n m opened last (S_line v) hn hm p =
    let lv = lit_inside n opened v (and_right (syndrome_may_follow last v) (lit_fits n opened v) p) in
    rw (le-leb v edge_limit (omega arith))
stands_small n m opened last (X_line e) hn hm p =
    let le = ltb-true e m (and_right (loss_may_follow last e) (ltb e m) p) in
    rw (le-leb e edge_limit (omega arith))

-- What is left of the text, by the answer about the next line

module _ (X : Sheet) (last : text.Line) (k : ℕ) (t : List ℕ) (at : ℕ) where
  pub goes_on : (l : Line) (next k' : ℕ) → LineIs t at k l next k' → may_stand_on X last (meant l) ≡ true
      → read_on X last k (parted_by newline (drop at t)) ≡ read_on (with_line X (meant l)) (meant l) k' (parted_by newline (drop next t))
  unfolding read_on
  goes_on l next k' w stands =
      let v = parted newline (drop next t) in
      rw (w.follows, add-one k, w.pieces, v.are, w.reads, steps X last (meant l), stands)

  pub out_of_place : (l : Line) (next k' : ℕ) → LineIs t at k l next k' → may_stand_on X last (meant l) ≡ false
      → read_on X last k (parted_by newline (drop at t)) ≡ refused (MalformedLine k)
  unfolding read_on
  out_of_place l next k' w stands =
      let v = parted newline (drop next t) in
      rw (w.pieces, v.are, w.reads, steps X last (meant l), stands)

  pub malformed : X.board.vertices ≤ vertex_limit → edges X.board ≤ edge_limit → at < length t → NoLine t at
      → read_on X last k (parted_by newline (drop at t)) ≡ refused (MalformedLine k)
  unfolding read_on
  malformed hn hm inside (unended [] p h) = absurd (no_room h)
    where
      no_room : length t ≤ at + 0 → ⊥
      no_room h = omega arith
  malformed hn hm inside (unended (b ∷ bs) p h) = rw p
  malformed hn hm inside (unread bytes next rest p q) = rw (p, q)
  malformed hn hm inside (large bytes next rest l p q s) =
      rw (p, q, steps X last l) (go (may_stand_on X last l) refl)
    where
      go : (b : Bool) → may_stand_on X last l ≡ b
          → or_malformed k (cond b (some (with_line X l)) none) (λ more. read_on more l (suc k) (next ∷ rest)) ≡ refused (MalformedLine k)
      go true r = absurd (false≢true (sym s ∙ stands_small X.board.vertices (edges X.board) X.board.opened last l hn hm r))
      go false r = refl

  pub finishes : length t ≤ at → read_on X last k (parted_by newline (drop at t)) ≡ complete X
  unfolding read_on parted_by
  finishes out = rw (drop_of_length-le t out)

-- The first line

module _ (t : List ℕ) where
  pub first_is : (l : Line) (next k' n : ℕ) → LineIs t 0 1 l next k' → first_line (meant l) ≡ some n
      → read_text t ≡ read_on (begun n) (meant l) k' (parted_by newline (drop next t))
  unfolding read_text read_lines
  first_is l next k' n w first =
      let v = parted newline (drop next t) in
      rw (w.follows, w.pieces, v.are, w.reads, first, (first_vertices (meant l) n first).is)

  pub no_first : (l : Line) (next k' : ℕ) → LineIs t 0 1 l next k' → first_line (meant l) ≡ none → read_text t ≡ refused (MalformedLine 1)
  unfolding read_text read_lines
  no_first l next k' w first =
      let v = parted newline (drop next t) in
      rw (w.pieces, v.are, w.reads, first)

  pub first_malformed : NoLine t 0 → read_text t ≡ refused (MalformedLine 1)
  unfolding read_text read_lines
  first_malformed (unended bytes p h) = rw p
  first_malformed (unread bytes next rest p q) = rw (p, q)
  first_malformed (large bytes next rest l p q s) = rw (p, q) (go l s)
    where
      go : (l : text.Line) → small (numbers_of l) ≡ false
          → or_malformed 1 (first_line l) (λ n. read_on (begun n) (V_line n) 2 (next ∷ rest)) ≡ refused (MalformedLine 1)
      go (V_line n) s =
          let h : edge_limit < n = leb-false n edge_limit (sym (and-true (leb n edge_limit)) ∙ s) in
          rw (lt-leb n vertex_limit (omega arith), and-false (leb 1 n))
      go (E_line a b m) s = refl
      go (O_line v) s = refl
      go (S_line v) s = refl
      go (X_line e) s = refl
