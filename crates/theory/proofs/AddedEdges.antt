-- A board with one edge more: what holds of its edges, and of the new one. Assumes nothing.
use Prim.Native.Nat.{ℕ, suc, ◌+◌, ◌*◌, ◌≤◌, ◌<◌}
use mathlib.Core.Path.{◌≡◌, sym, ap, ap₂, subst, ◌∙◌}
use mathlib.Core.Bool.{true, ◌&&◌}
use mathlib.Core.List.{[], ◌∷◌, ◌++◌}
use native.Mathlib.Omega.{arith}
use native.Mathlib.Numerals.{add-one}
use borrow.Author.Tests.{ltb-true, leb-true, lt-ltb, le-leb}
use lib.ListN.{length, length-append, get_or-append}
use lib.Seq.{get_or-append-add, get_or-append_seam}
use lib.Dec.{leb, ltb}
use Rattle.model.specs.Sums.{values}
use Rattle.model.specs.Board.{Board, board_of, Valid, edges, edge_limit}
use Rattle.model.specs.Text.{edge_in_range, Line, V_line, E_line, O_line, S_line, X_line, edge_line}
use Rattle.model.proofs.Xor.{and_left, and_right}
use Rattle.model.proofs.SumLaws.{below_suc}
use Rattle.model.proofs.ListLaws.{values_cong, values_last}

abbrev pub plus : Board → ℕ → ℕ → ℕ → Board
plus B a b m = board_of B.vertices (B.ends ++ (a ∷ b ∷ [])) (B.marks ++ (m ∷ [])) B.opened

module _ (B : Board) (two_ends : length B.ends ≡ 2 * edges B) (a b m : ℕ) where
  pub edges_plus : edges (plus B a b m) ≡ suc (edges B)
  edges_plus = length-append B.marks (m ∷ []) ∙ add-one _

  -- the edges before are what they were
  pub earlier_edge : (e : ℕ) → e < edges B → edge_line (plus B a b m) e ≡ edge_line B e
  earlier_edge e h =
      rw (
        get_or-append B.ends (a ∷ b ∷ []) 0 (2 * e) (omega arith),
        get_or-append B.ends (a ∷ b ∷ []) 0 (2 * e + 1) (omega arith),
        get_or-append B.marks (m ∷ []) 0 e h,
      )

  pub last_edge : edge_line (plus B a b m) (edges B) ≡ E_line a b m
  last_edge =
      let i : 2 * edges B ≡ length B.ends + 0 = omega arith in
      let j : 2 * edges B + 1 ≡ length B.ends + 1 = omega arith in
      rw (
        j,
        i,
        get_or-append-add B.ends (a ∷ b ∷ []) 0 0,
        get_or-append-add B.ends (a ∷ b ∷ []) 1 0,
        get_or-append_seam B.marks m [] 0,
      )

  pub edge_lines_plus : values (edges (plus B a b m)) (edge_line (plus B a b m)) ≡ values (edges B) (edge_line B) ++ (E_line a b m ∷ [])
  edge_lines_plus =
      ap (λ n. values n (edge_line (plus B a b m))) edges_plus
      ∙ values_last (edges B) (edge_line (plus B a b m))
      ∙ ap₂ (λ ls l. ls ++ (l ∷ [])) (values_cong (edges B) (edge_line (plus B a b m)) (edge_line B) earlier_edge) last_edge

  -- what holds of each edge before and of the new one holds of each
  pub each_plus : (P : Line → Type 0) → ((e : ℕ) → e < edges B → P (edge_line B e)) → P (E_line a b m)
      → (e : ℕ) → e < edges (plus B a b m) → P (edge_line (plus B a b m) e)
  each_plus P each new e h =
      below_suc (edges B) e (omega (arith, edges_plus))
      (λ l. subst P (sym (earlier_edge e l)) (each e l))
      (λ q. subst (λ i. P (edge_line (plus B a b m) i)) (sym q) (subst P (sym last_edge) new))

-- an edge line in the ranges of a board with n vertices
abbrev pub FitsLine : ℕ → Line → Type 0
FitsLine n (V_line k) = ⊥
FitsLine n (E_line a b m) = (a < n) × (b < n) × (m ≤ 3)
FitsLine n (O_line v) = ⊥
FitsLine n (S_line v) = ⊥
FitsLine n (X_line e) = ⊥

-- There is room for an edge, and it is in range: what the reader tests.
pub record Addable (B : Board) (a b m : ℕ) : Type 0 where
  pub room : edges B < edge_limit
  pub fits : FitsLine B.vertices (E_line a b m)

pub in_range : (B : Board) (a b m : ℕ) → edge_in_range B a b m ≡ true → Addable B a b m
in_range B a b m p =
    let room = ltb (edges B) edge_limit in
    let first = ltb a B.vertices in
    let second = ltb b B.vertices in
    let small = leb m 3 in
    let p₂ = and_left (room && first && second) small p in
    let p₁ = and_left (room && first) second p₂ in
    record {
      room = ltb-true _ _ (and_left room first p₁);
      fits = (
        ltb-true _ _ (and_right room first p₁),
        ltb-true _ _ (and_right (room && first) second p₂),
        leb-true _ _ (and_right (room && first && second) small p),
      );
    }

pub range_in : (B : Board) (a b m : ℕ) → Addable B a b m → edge_in_range B a b m ≡ true
range_in B a b m w =
    let f = w.fits in
    rw (
      lt-ltb (edges B) edge_limit w.room,
      lt-ltb a B.vertices f.0,
      lt-ltb b B.vertices f.1,
      le-leb m 3 f.2,
    )

-- the edges of a valid board are in range
pub fit_lines : (B : Board) → Valid B → (e : ℕ) → e < edges B → FitsLine B.vertices (edge_line B e)
fit_lines B w e h = (w.inside.first_in_range e h, w.inside.second_in_range e h, w.mark_in_range e h)

-- a valid board stays valid
pub plus_valid : (B : Board) (a b m : ℕ) → Valid B → Addable B a b m → Valid (plus B a b m)
plus_valid B a b m w new =
    let two = w.inside.two_ends in
    let more = edges_plus B two a b m in
    let fit = each_plus B two a b m (FitsLine B.vertices) (fit_lines B w) new.fits in
    record {
      some_vertex = w.some_vertex;
      inside =
          record {
            vertices_limited = w.inside.vertices_limited;
            edges_limited = omega (arith, new.room);
            two_ends = length-append B.ends (a ∷ b ∷ []) ∙ omega arith;
            first_in_range = λ e h. (fit e h).0;
            second_in_range = λ e h. (fit e h).1;
          };
      mark_in_range = λ e h. (fit e h).2;
      open_bytes = w.open_bytes;
    }
