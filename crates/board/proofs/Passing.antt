-- What passes the tests is valid and has its length, and the reverse. Assumes nothing.
use Prim.Native.Nat.{ℕ, ◌*◌, ◌%◌, ◌≤◌, ◌<◌}
use mathlib.Core.Path.{◌≡◌, refl}
use mathlib.Core.Bool.{Bool, true, false, ◌&&◌}
use mathlib.Core.List.{List}
use mathlib.Core.Option.{Option, none, some, some-ne-none}
use native.Mathlib.Omega.{arith}
use borrow.Author.Tests.{leb-true, leb-false, ltb-false, eqb-true, le-leb, lt-leb, le-ltb, eq-eqb}
use lib.ListN.{length}
use lib.Dec.{eqb, leb}
use Rattle.std.proofs.lemmas.Bool.{and_from, or_parts, or_from}
use Rattle.model.specs.declared.refusal.Refusal.{Refusal}
use Rattle.model.specs.declared.refusal.Refusal.TheVariants.{VertexCount, EndCount, BufferLength, EndRange, MarkRange}
use Rattle.model.specs.Sums.{Set, ones, first_up_to}
use Rattle.model.specs.Board.{Board, Inside, Valid, ValidBytes, Unlit, Sheet, edges, first_end, mark, is_open, vertex_limit, edge_limit}
use Rattle.model.specs.Refusals.{unless, refused_at, first_place, outside, above, lit_open, sized, edges_of, board_sized, count_rules, edge_rules, open_rules}
use Rattle.model.proofs.Xor.{and_left, and_right}
use Rattle.model.proofs.RuleLists.{unless_passes}
use Rattle.model.proofs.SumLaws.{first_none, none_first}
use Rattle.board.proofs.Failures.{Each}

-- a test by a flag passes where the flag is set
passes_unless : (ok : Bool) (n : Refusal) → ok ≡ true → unless ok n ≡ none
passes_unless ok n p = rw p

-- a test by a pass over n places passes exactly where none of them breaks the rule
pub place_passes : (n : ℕ) (f : Set) (at : ℕ → Refusal) → first_place n f at ≡ none → (i : ℕ) → i < n → f i ≡ false
place_passes n f at p = none_first n f (nowhere (first_up_to n f) p)
  where
    nowhere : (o : Option ℕ) → refused_at o at ≡ none → o ≡ none
    nowhere none q = refl
    nowhere (some i) q = absurd (some-ne-none (at i) q)

pub passes_place : (n : ℕ) (f : Set) (at : ℕ → Refusal) → ((i : ℕ) → i < n → f i ≡ false) → first_place n f at ≡ none
passes_place n f at out = rw (first_none n f out)

-- what the tests 1 to 3 say
pub record Counted (vertices : ℕ) (ends : List ℕ) (fit : Bool) : Type 0 where
  pub some_vertex : 1 ≤ vertices
  pub vertices_limited : vertices ≤ vertex_limit
  pub even : length ends % 2 ≡ 0
  pub end_limit : length ends ≤ 2 * edge_limit
  pub others : fit ≡ true

pub counts_say : (vertices : ℕ) (ends : List ℕ) (fit : Bool) → Each (count_rules vertices ends fit) → Counted vertices ends fit
counts_say vertices ends fit e =
    let one = unless_passes (leb 1 vertices && leb vertices vertex_limit) VertexCount e.0 in
    let two = unless_passes (eqb (length ends % 2) 0 && leb (length ends) (2 * edge_limit)) EndCount e.1.0 in
    record {
      some_vertex = leb-true _ _ (and_left (leb 1 vertices) _ one);
      vertices_limited = leb-true _ _ (and_right (leb 1 vertices) _ one);
      even = eqb-true _ _ (and_left (eqb (length ends % 2) 0) _ two);
      end_limit = leb-true _ _ (and_right (eqb (length ends % 2) 0) _ two);
      others = unless_passes fit BufferLength e.1.1.0;
    }

pub say_counts : (vertices : ℕ) (ends : List ℕ) (fit : Bool) → Counted vertices ends fit → Each (count_rules vertices ends fit)
say_counts vertices ends fit k = (
  passes_unless _ VertexCount (and_from _ _ (le-leb _ _ k.some_vertex) (le-leb _ _ k.vertices_limited)),
  (
    passes_unless _ EndCount (and_from _ _ (eq-eqb _ _ k.even) (le-leb _ _ k.end_limit)),
    (passes_unless fit BufferLength k.others, tt),
  ),
)

-- a board is valid but perhaps for its open bytes, which have their length
pub record Ranged (B : Board) : Type 0 where
  pub some_vertex : 1 ≤ B.vertices
  pub inside : Inside B
  pub mark_in_range : (e : ℕ) → e < edges B → mark B e ≤ 3
  pub open_long : length B.opened ≡ B.vertices

pub valid_ranged : (B : Board) → Valid B → Ranged B
valid_ranged B v =
    record { some_vertex = v.some_vertex; inside = v.inside; mark_in_range = v.mark_in_range; open_long = v.open_bytes.count }

pub ranged_valid : (B : Board) → Ranged B → ValidBytes B.vertices B.opened → Valid B
ranged_valid B r open_bytes =
    record { some_vertex = r.some_vertex; inside = r.inside; mark_in_range = r.mark_in_range; open_bytes = open_bytes }

-- so say the tests 4 and 6 of a board whose counts have passed
pub edges_say : (B : Board) (fit : Bool) → Counted B.vertices B.ends fit → board_sized B ≡ true → Each (edge_rules B) → Ranged B
edges_say B fit k sizes t =
    let long : length B.marks ≡ edges_of B.ends = eqb-true _ _ (and_left (sized B.marks (edges_of B.ends)) _ sizes) in
    let inside = place_passes (edges B) (outside B) (λ e. EndRange (record { 0 = e })) t.0 in
    let small = place_passes (edges B) (above 3 B.marks) (λ e. MarkRange (record { 0 = e })) t.1.0 in
    record {
      some_vertex = k.some_vertex;
      inside =
          record {
            vertices_limited = k.vertices_limited;
            edges_limited = omega arith;
            two_ends = omega arith;
            first_in_range = λ e h. leb-false _ _ (or_parts (leb B.vertices (first_end B e)) _ (inside e h)).0;
            second_in_range = λ e h. leb-false _ _ (or_parts (leb B.vertices (first_end B e)) _ (inside e h)).1;
          };
      mark_in_range = λ e h. ltb-false _ _ (small e h);
      open_long = eqb-true _ _ (and_right (sized B.marks (edges_of B.ends)) _ sizes);
    }

pub say_edges : (B : Board) → Ranged B → Each (edge_rules B)
say_edges B v = (
  passes_place (edges B) (outside B) _ (λ e h. or_from _ _ (lt-leb _ _ (v.inside.first_in_range e h)) (lt-leb _ _ (v.inside.second_in_range e h))),
  (passes_place (edges B) (above 3 B.marks) _ (λ e h. le-ltb _ _ (v.mark_in_range e h)), tt),
)

-- what the tests 7, 8, 9 and 16 say of their bytes
pub bytes_say : (n : ℕ) (l : List ℕ) (at : ℕ → Refusal) → length l ≡ n → first_place (length l) (above 1 l) at ≡ none → ValidBytes n l
bytes_say n l at long p =
    record {
      count = long;
      each = λ i h. ltb-false _ _ (place_passes (length l) (above 1 l) at p i (omega arith));
    }

pub say_bytes : (n : ℕ) (l : List ℕ) (at : ℕ → Refusal) → ValidBytes n l → first_place (length l) (above 1 l) at ≡ none
say_bytes n l at k = passes_place (length l) (above 1 l) at (λ i h. le-ltb _ _ (k.each i (omega (arith, k.count))))

-- what the tests 16 and 17 say of a sheet whose open bytes have their length
pub open_say : (X : Sheet) → length X.board.opened ≡ X.board.vertices → Each (open_rules X)
    → ValidBytes X.board.vertices X.board.opened × Unlit X.board (ones X.syndrome)
open_say X long t = (
  bytes_say _ X.board.opened _ long t.0,
  λ v h p. unlit v (place_passes (length X.board.opened) (lit_open X.board.opened X.syndrome) _ t.1.0 v (omega arith)) p,
)
  where
    unlit : (v : ℕ) → lit_open X.board.opened X.syndrome v ≡ false → is_open X.board v ≡ true → ones X.syndrome v ≡ false
    unlit v p q = rw q at p

pub say_open : (X : Sheet) → ValidBytes X.board.vertices X.board.opened → Unlit X.board (ones X.syndrome) → Each (open_rules X)
say_open X k unlit = (
  say_bytes _ X.board.opened _ k,
  (passes_place (length X.board.opened) (lit_open X.board.opened X.syndrome) _ (λ v h. none v (omega (arith, k.count)) (is_open X.board v) refl), tt),
)
  where
    none : (v : ℕ) → v < X.board.vertices → (t : Bool) → is_open X.board v ≡ t → (t && ones X.syndrome v) ≡ false
    none v h true p = unlit v h p
    none v h false p = refl
