-- The arrays hold the sheet read so far: at its begin, and after one line more. Assumes nothing.
use Prim.Native.Nat.{ℕ, ◌+◌, ◌*◌, ◌≤◌, ◌<◌}
use mathlib.Core.Path.{◌≡◌, refl, sym, ap, ◌∙◌}
use mathlib.Core.Bool.{true, ◌&&◌, false≢true}
use mathlib.Core.List.{List, [], ◌∷◌, ◌++◌, append_assoc}
use native.Mathlib.Numerals.{add-one}
use native.Mathlib.Omega.{arith}
use borrow.Author.Tests.{ltb-true, leb-true}
use lib.ListN.{length, get_or, take, set, replicate, length-append, length-set, length-replicate, get_or-replicate}
use lib.Seq.{ext_get_or, get_or-take, length-take-le, take-suc-set, take-set-lt}
use lib.Dec.{leb, ltb}
use Rattle.model.proofs.Xor.{and_left, and_right}
use Rattle.model.proofs.ListLaws.{zero_everywhere}
use Rattle.model.specs.Board.{Sheet, edges, vertex_limit, edge_limit}
use Rattle.model.specs.Text.{Line, V_line, E_line, O_line, S_line, X_line, edge_may_follow, open_may_follow, syndrome_may_follow, loss_may_follow, begun}
use Rattle.model.specs.TextOutcomes.{Buffers, buffers_of}
use Rattle.text.specs.Order.{edge_fits, lit_fits, may_stand}
use Rattle.text.specs.Scratch.{Sized, Clear, Storable, stored, edges_with, Holds}
use Rattle.text.proofs.ReadLaws.{with_line, may_stand_on, lit_inside}

-- zeros in front of zeros
take_zeros : (n : ℕ) (l : List ℕ) → n ≤ length l → ((i : ℕ) → get_or l i 0 ≡ 0) → take n l ≡ replicate n 0
take_zeros n l h zeros =
    let long = length-take-le n l h in
    ext_get_or 0 (take n l) (replicate n 0) (long ∙ sym (length-replicate n 0))
    (λ i lt. get_or-take n l i 0 (omega arith) ∙ zeros i ∙ sym (get_or-replicate n i 0 0 (omega arith)))

pub holds_begun : (n : ℕ) (b : Buffers) → Sized b → Clear b → n ≤ vertex_limit → Holds (begun n) b
holds_begun n b sized clear h =
    record {
      sized = sized;
      vertices_limited = h;
      edges_limited = omega arith;
      ends_held = refl;
      marks_held = refl;
      open_held = take_zeros n b.opened (omega (arith, sized.open_long)) clear.shut;
      syndrome_held = take_zeros n b.syndrome (omega (arith, sized.syndrome_long)) clear.unlit;
      loss_held = refl;
    }

-- what may stand fits the arrays
pub storable : (n m : ℕ) (opened : List ℕ) (last l : Line) → n ≤ vertex_limit → m ≤ edge_limit → may_stand n m opened last l ≡ true
    → Storable m l
storable n m opened last (V_line k) hn hm p = absurd (false≢true p)
storable n m opened last (E_line a b k) hn hm p =
    let fits = and_right (edge_may_follow last) (edge_fits n m a b k) p in
    let ends = and_left (ltb m edge_limit && ltb a n && ltb b n) (leb k 3) fits in (
      ltb-true m edge_limit (and_left (ltb m edge_limit) (ltb a n) (and_left (ltb m edge_limit && ltb a n) (ltb b n) ends)),
      leb-true k 3 (and_right (ltb m edge_limit && ltb a n && ltb b n) (leb k 3) fits),
    )
storable n m opened last (O_line v) hn hm p =
    let lv = ltb-true v n (and_right (open_may_follow last v) (ltb v n) p) in
    omega arith
storable n m opened last (S_line v) hn hm p =
    let lv = lit_inside n opened v (and_right (syndrome_may_follow last v) (lit_fits n opened v) p) in
    omega arith
storable n m opened last (X_line e) hn hm p =
    let le = ltb-true e m (and_right (loss_may_follow last e) (ltb e m) p) in
    omega arith

pub edges_with_lem : (X : Sheet) (l : Line) → edges (with_line X l).board ≡ edges_with (edges X.board) l
unfolding with_line
edges_with_lem X (V_line n) = refl
edges_with_lem X (E_line a b m) = length-append X.board.marks (m ∷ [])
edges_with_lem X (O_line v) = refl
edges_with_lem X (S_line v) = refl
edges_with_lem X (X_line e) = refl

pub vertices_with : (X : Sheet) (l : Line) → (with_line X l).board.vertices ≡ X.board.vertices
unfolding with_line
vertices_with X (V_line n) = refl
vertices_with X (E_line a b m) = refl
vertices_with X (O_line v) = refl
vertices_with X (S_line v) = refl
vertices_with X (X_line e) = refl

-- one entry more, or two, behind those in front
one_more : (l : List ℕ) (i a : ℕ) → i < length l → take (i + 1) (set l i a) ≡ take i l ++ (a ∷ [])
one_more l i a h = rw (add-one i) (take-suc-set l i a h)

two_more : (l : List ℕ) (i a b : ℕ) → i + 1 < length l → take (i + 2) (set (set l i a) (i + 1) b) ≡ take i l ++ (a ∷ b ∷ [])
two_more l i a b h =
    ap (λ n. take n (set (set l i a) (i + 1) b)) {x = i + 2} {y = i + 1 + 1} (omega arith)
    ∙ one_more (set l i a) (i + 1) b (rw (length-set l i a) h)
    ∙ ap (λ xs. xs ++ (b ∷ [])) (one_more l i a (omega arith))
    ∙ append_assoc (take i l) (a ∷ []) (b ∷ [])

module _ (X : Sheet) (b : Buffers) (w : Holds X b) (last : Line) where
  pub holds_line : (l : Line) → may_stand_on X last l ≡ true → Holds (with_line X l) (stored (edges X.board) l b)
  unfolding with_line
  holds_line (V_line n) p = absurd (false≢true p)
  holds_line (E_line u v k) p =
      let m = edges X.board in
      let z = w.sized in
      let fits = storable X.board.vertices m X.board.opened last (E_line u v k) w.vertices_limited w.edges_limited p in
      let more : length (X.board.marks ++ (k ∷ [])) ≡ m + 1 = length-append X.board.marks (k ∷ []) in
      record {
        sized =
            record {
              ends_long = length-set (set b.ends (2 * m) u) (2 * m + 1) v ∙ length-set b.ends (2 * m) u ∙ z.ends_long;
              marks_long = length-set b.marks m k ∙ z.marks_long;
              open_long = z.open_long;
              syndrome_long = z.syndrome_long;
              loss_long = length-set b.loss m 0 ∙ z.loss_long;
            };
        vertices_limited = w.vertices_limited;
        edges_limited = rw more (omega arith);
        ends_held =
            ap (λ n. take n (set (set b.ends (2 * m) u) (2 * m + 1) v))
            {x = 2 * length (X.board.marks ++ (k ∷ []))} {y = 2 * m + 2} (omega arith)
            ∙ two_more b.ends (2 * m) u v (omega arith)
            ∙ ap (λ l. l ++ (u ∷ v ∷ [])) w.ends_held;
        marks_held =
            ap (λ n. take n (set b.marks m k)) more ∙ one_more b.marks m k (omega arith) ∙ ap (λ l. l ++ (k ∷ [])) w.marks_held;
        open_held = w.open_held;
        syndrome_held = w.syndrome_held;
        loss_held =
            ap (λ n. take n (set b.loss m 0)) more ∙ one_more b.loss m 0 (omega arith) ∙ ap (λ l. l ++ (0 ∷ [])) w.loss_held;
      }
  holds_line (O_line v) p =
      let n = X.board.vertices in
      let z = w.sized in
      let lv = ltb-true v n (and_right (open_may_follow last v) (ltb v n) p) in
      record {
        sized =
            record {
              ends_long = z.ends_long;
              marks_long = z.marks_long;
              open_long = length-set b.opened v 1 ∙ z.open_long;
              syndrome_long = z.syndrome_long;
              loss_long = z.loss_long;
            };
        vertices_limited = w.vertices_limited;
        edges_limited = w.edges_limited;
        ends_held = w.ends_held;
        marks_held = w.marks_held;
        open_held = take-set-lt n b.opened v 1 lv ∙ ap (λ s. set s v 1) w.open_held;
        syndrome_held = w.syndrome_held;
        loss_held = w.loss_held;
      }
  holds_line (S_line v) p =
      let n = X.board.vertices in
      let z = w.sized in
      let lv = lit_inside n X.board.opened v (and_right (syndrome_may_follow last v) (lit_fits n X.board.opened v) p) in
      record {
        sized =
            record {
              ends_long = z.ends_long;
              marks_long = z.marks_long;
              open_long = z.open_long;
              syndrome_long = length-set b.syndrome v 1 ∙ z.syndrome_long;
              loss_long = z.loss_long;
            };
        vertices_limited = w.vertices_limited;
        edges_limited = w.edges_limited;
        ends_held = w.ends_held;
        marks_held = w.marks_held;
        open_held = w.open_held;
        syndrome_held = take-set-lt n b.syndrome v 1 lv ∙ ap (λ s. set s v 1) w.syndrome_held;
        loss_held = w.loss_held;
      }
  holds_line (X_line e) p =
      let m = edges X.board in
      let z = w.sized in
      let le = ltb-true e m (and_right (loss_may_follow last e) (ltb e m) p) in
      record {
        sized =
            record {
              ends_long = z.ends_long;
              marks_long = z.marks_long;
              open_long = z.open_long;
              syndrome_long = z.syndrome_long;
              loss_long = length-set b.loss e 1 ∙ z.loss_long;
            };
        vertices_limited = w.vertices_limited;
        edges_limited = w.edges_limited;
        ends_held = w.ends_held;
        marks_held = w.marks_held;
        open_held = w.open_held;
        syndrome_held = w.syndrome_held;
        loss_held = take-set-lt m b.loss e 1 le ∙ ap (λ s. set s e 1) w.loss_held;
      }

-- arrays of zeros have room for every sheet, and are clear
abbrev pub zeros : Buffers
zeros =
    buffers_of (replicate (2 * edge_limit) 0) (replicate edge_limit 0)
    (replicate vertex_limit 0) (replicate vertex_limit 0) (replicate edge_limit 0)

pub zeros_sized : Sized zeros
zeros_sized =
    record {
      ends_long = length-replicate {A = ℕ} (2 * edge_limit) 0;
      marks_long = length-replicate {A = ℕ} edge_limit 0;
      open_long = length-replicate {A = ℕ} vertex_limit 0;
      syndrome_long = length-replicate {A = ℕ} vertex_limit 0;
      loss_long = length-replicate {A = ℕ} edge_limit 0;
    }

pub zeros_clear : Clear zeros
zeros_clear = record { shut = zero_everywhere vertex_limit; unlit = zero_everywhere vertex_limit }
