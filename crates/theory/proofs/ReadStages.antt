-- Reading stage by stage: the sheet read so far is valid, its lines are exactly those read, and it has nothing that may still follow.
-- Assumes nothing.
use Prim.Native.Nat.{ℕ, ◌≤◌, ◌<◌}
use mathlib.Core.Path.{◌≡◌, refl, sym, ap, subst, ◌∙◌}
use mathlib.Core.Bool.{Bool, true, false, not, ◌&&◌, false≢true}
use mathlib.Core.List.{List, [], ◌∷◌, ◌++◌, map, map-append, append-nil, append_assoc}
use mathlib.Core.Option.{some, none-ne-some, some-injective}
use native.Mathlib.Nat.{not-suc-le-zero}
use native.Mathlib.Omega.{arith}
use borrow.Author.Tests.{ltb-true, eqb-true, eqb-false, not-true}
use lib.ListN.{length, set, length-append, length-replicate}
use lib.Seq.{get_or-set_other}
use lib.Dec.{eqb, ltb}
use Rattle.model.specs.Sums.{values, ones, members}
use Rattle.model.specs.Board.{Board, Sheet, ValidSheet, Unlit, is_open, edges, vertex_limit}
use Rattle.model.specs.Text.{Line, V_line, E_line, O_line, S_line, X_line, edge_line, lines_of, begun, edge_may_follow, edge_in_range, with_edge, open_may_follow, with_open, syndrome_may_follow, may_be_lit, with_syndrome, loss_may_follow, with_loss, step}
use Rattle.model.proofs.Xor.{and_left, and_right}
use Rattle.theory.proofs.Options.{passed}
use Rattle.theory.proofs.MarkedBytes.{ClearFrom, clear_later, clear_none, clear_members, clear_replicate, clear_append, marked_clear, marked_valid, marked_members, clear_valid}
use Rattle.theory.proofs.AddedEdges.{plus, edge_lines_plus, in_range, plus_valid}
use Rattle.theory.proofs.TextReading.{edge_then_open, open_then_syndrome, syndrome_then_loss, Leads, there, onward}

-- The sheet read so far is valid. Where an `O` line with vertex v may follow, no vertex from v on is open; where an `S` line with vertex v
-- may follow, no vertex from v on is in the syndrome; where an `X` line with edge e may follow, no edge from e on is lost.
pub record Stage (X : Sheet) (last : Line) : Type 0 where
  pub valid : ValidSheet X
  pub open_clear : (v : ℕ) → open_may_follow last v ≡ true → ClearFrom v X.board.opened
  pub syndrome_clear : (v : ℕ) → syndrome_may_follow last v ≡ true → ClearFrom v X.syndrome
  pub loss_clear : (e : ℕ) → loss_may_follow last e ≡ true → ClearFrom e X.loss

-- an empty syndrome lights no open vertex, nor does a vertex more that is not open
clear_unlit : (B : Board) {l : List ℕ} → ClearFrom 0 l → Unlit B (ones l)
clear_unlit B c v h p = clear_none v (omega arith) c

lit_unlit : (B : Board) (l : List ℕ) (v : ℕ) → is_open B v ≡ false → Unlit B (ones l) → Unlit B (ones (set l v 1))
lit_unlit B l v shut u i h p = go (eqb i v) refl
  where
    go : (t : Bool) → eqb i v ≡ t → ones (set l v 1) i ≡ false
    go true e = absurd (false≢true (sym shut ∙ ap (is_open B) (sym (eqb-true i v e)) ∙ p))
    go false e = ap (λ x. eqb x 1) (get_or-set_other l v i 1 0 (eqb-false i v e)) ∙ u i h p

-- one line more leads to a stage whose lines are one more
record Stepped (X : Sheet) (l : Line) (Y : Sheet) : Type 0 where
  stage : Stage Y l
  lines : lines_of Y ≡ lines_of X ++ (l ∷ [])

pub begun_stage : (n : ℕ) → 1 ≤ n → n ≤ vertex_limit → Stage (begun n) (V_line n)
begun_stage n h l =
    record {
      valid =
          record {
            board =
                record {
                  some_vertex = h;
                  inside =
                      record {
                        vertices_limited = l;
                        edges_limited = omega arith;
                        two_ends = refl;
                        first_in_range = λ e p. absurd (not-suc-le-zero p);
                        second_in_range = λ e p. absurd (not-suc-le-zero p);
                      };
                  mark_in_range = λ e p. absurd (not-suc-le-zero p);
                  open_bytes = clear_valid (length-replicate n 0) (clear_replicate n);
                };
            syndrome = clear_valid (length-replicate n 0) (clear_replicate n);
            loss = clear_valid refl (clear_replicate 0);
            unlit = clear_unlit (begun n).board (clear_replicate n);
          };
      open_clear = λ v p. clear_later (omega arith) (clear_replicate n);
      syndrome_clear = λ v p. clear_later (omega arith) (clear_replicate n);
      loss_clear = λ e p. clear_later (omega arith) (clear_replicate 0);
    }

pub begun_lines : (n : ℕ) → lines_of (begun n) ≡ V_line n ∷ []
unfolding lines_of values members
begun_lines n = rw (clear_members n (clear_replicate n))

-- The lines of a sheet, by their kinds: a new one of the last kind that is there stands last.

abbrev laid : ℕ → List Line → List ℕ → List ℕ → List ℕ → List Line
laid n es opened lit lost = V_line n ∷ es ++ map O_line opened ++ map S_line lit ++ map X_line lost

-- neither syndrome nor loss; no open vertex either
board_alone : (n : ℕ) (es : List Line) (opened : List ℕ) → laid n es opened [] [] ≡ V_line n ∷ es ++ map O_line opened
board_alone n es opened = append-nil (V_line n ∷ es ++ map O_line opened ++ []) ∙ append-nil (V_line n ∷ es ++ map O_line opened)

edges_alone : (n : ℕ) (es : List Line) → laid n es [] [] [] ≡ V_line n ∷ es
edges_alone n es = board_alone n es [] ∙ append-nil (V_line n ∷ es)

laid_edge : (n : ℕ) (es : List Line) (l : Line) → laid n (es ++ (l ∷ [])) [] [] [] ≡ laid n es [] [] [] ++ (l ∷ [])
laid_edge n es l = edges_alone n (es ++ (l ∷ [])) ∙ ap (λ ls. ls ++ (l ∷ [])) (sym (edges_alone n es))

-- a list of lines of one kind, with one more at its end
one_more : (ls : List Line) (f : ℕ → Line) (is : List ℕ) (i : ℕ) → ls ++ map f (is ++ (i ∷ [])) ≡ ls ++ map f is ++ (f i ∷ [])
one_more ls f is i = ap (λ k. ls ++ k) (map-append f is (i ∷ [])) ∙ sym (append_assoc ls (map f is) (f i ∷ []))

laid_open : (n : ℕ) (es : List Line) (opened : List ℕ) (v : ℕ)
    → laid n es (opened ++ (v ∷ [])) [] [] ≡ laid n es opened [] [] ++ (O_line v ∷ [])
laid_open n es opened v =
    board_alone n es (opened ++ (v ∷ []))
    ∙ one_more (V_line n ∷ es) O_line opened v
    ∙ ap (λ ls. ls ++ (O_line v ∷ [])) (sym (board_alone n es opened))

laid_syndrome : (n : ℕ) (es : List Line) (opened lit : List ℕ) (v : ℕ)
    → laid n es opened (lit ++ (v ∷ [])) [] ≡ laid n es opened lit [] ++ (S_line v ∷ [])
laid_syndrome n es opened lit v =
    append-nil (V_line n ∷ es ++ map O_line opened ++ map S_line (lit ++ (v ∷ [])))
    ∙ one_more (V_line n ∷ es ++ map O_line opened) S_line lit v
    ∙ ap (λ ls. ls ++ (S_line v ∷ [])) (sym (append-nil (V_line n ∷ es ++ map O_line opened ++ map S_line lit)))

laid_loss : (n : ℕ) (es : List Line) (opened lit lost : List ℕ) (e : ℕ)
    → laid n es opened lit (lost ++ (e ∷ [])) ≡ laid n es opened lit lost ++ (X_line e ∷ [])
laid_loss n es opened lit lost e = one_more (V_line n ∷ es ++ map O_line opened ++ map S_line lit) X_line lost e

-- An edge
edge_step : (X : Sheet) (last : Line) (a b m : ℕ) → Stage X last → edge_may_follow last ≡ true → edge_in_range X.board a b m ≡ true
    → Stepped X (E_line a b m) (with_edge X a b m)
unfolding lines_of
edge_step X last a b m s p q =
    let B = X.board in
    let r = in_range B a b m q in
    let two = s.valid.board.inside.two_ends in
    let may-open = edge_then_open last 0 p in
    let may-light = open_then_syndrome last 0 0 may-open in
    let shut = s.open_clear 0 may-open in
    let unlit = s.syndrome_clear 0 may-light in
    let kept = s.loss_clear 0 (syndrome_then_loss last 0 0 may-light) in
    let kept' = clear_append kept in
    record {
      stage =
          record {
            valid =
                record {
                  board = plus_valid B a b m s.valid.board r;
                  syndrome = s.valid.syndrome;
                  loss = clear_valid (long X.loss X.board.marks s.valid.loss.count) kept';
                  unlit = clear_unlit (plus B a b m) unlit;
                };
            open_clear = λ v t. clear_later (omega arith) shut;
            syndrome_clear = λ v t. clear_later (omega arith) unlit;
            loss_clear = λ e t. clear_later (omega arith) kept';
          };
      lines =
          rw (
            edge_lines_plus B two a b m,
            clear_members B.vertices shut,
            clear_members B.vertices unlit,
            clear_members (edges (plus B a b m)) kept',
            clear_members (edges B) kept,
          )
          (laid_edge B.vertices (values (edges B) (edge_line B)) (E_line a b m));
    }
  where
    long : (l marks : List ℕ) → length l ≡ length marks → length (l ++ (0 ∷ [])) ≡ length (marks ++ (m ∷ []))
    long l marks h = simp length-append (omega arith)

-- An open vertex
open_step : (X : Sheet) (last : Line) (v : ℕ) → Stage X last → open_may_follow last v ≡ true → v < X.board.vertices
    → Stepped X (O_line v) (with_open X v)
unfolding lines_of
open_step X last v s p h =
    let B = X.board in
    let may-light = open_then_syndrome last v 0 p in
    let unlit = s.syndrome_clear 0 may-light in
    let kept = s.loss_clear 0 (syndrome_then_loss last 0 0 may-light) in
    let w = s.valid.board in
    record {
      stage =
          record {
            valid =
                record {
                  board =
                      record {
                        some_vertex = w.some_vertex;
                        inside = w.inside;
                        mark_in_range = w.mark_in_range;
                        open_bytes = marked_valid v h w.open_bytes;
                      };
                  syndrome = s.valid.syndrome;
                  loss = s.valid.loss;
                  unlit = clear_unlit (with_open X v).board unlit;
                };
            open_clear = λ u q. marked_clear (ltb-true v u q) (s.open_clear v p);
            syndrome_clear = λ u q. clear_later (omega arith) unlit;
            loss_clear = λ e q. clear_later (omega arith) kept;
          };
      lines =
          rw (
            marked_members _ B.opened v h w.open_bytes.count (s.open_clear v p),
            clear_members B.vertices unlit,
            clear_members (edges B) kept,
          )
          (laid_open B.vertices (values (edges B) (edge_line B)) (members B.vertices (is_open B)) v);
    }

-- A syndrome vertex, which is not open
syndrome_step : (X : Sheet) (last : Line) (v : ℕ) → Stage X last → syndrome_may_follow last v ≡ true → v < X.board.vertices
    → is_open X.board v ≡ false → Stepped X (S_line v) (with_syndrome X v)
unfolding lines_of
syndrome_step X last v s p h shut =
    let clear = s.loss_clear 0 (syndrome_then_loss last v 0 p) in
    let bytes = s.valid.syndrome in
    let B = X.board in
    record {
      stage =
          record {
            valid =
                record {
                  board = s.valid.board;
                  syndrome = marked_valid v h bytes;
                  loss = s.valid.loss;
                  unlit = lit_unlit B X.syndrome v shut s.valid.unlit;
                };
            open_clear = λ u q. absurd (false≢true q);
            syndrome_clear = λ u q. marked_clear (ltb-true v u q) (s.syndrome_clear v p);
            loss_clear = λ e q. clear_later (omega arith) clear;
          };
      lines =
          rw (marked_members _ X.syndrome v h bytes.count (s.syndrome_clear v p), clear_members (edges B) clear)
          (laid_syndrome B.vertices (values (edges B) (edge_line B)) (members B.vertices (is_open B))
          (members B.vertices (ones X.syndrome)) v);
    }

-- A lost edge
loss_step : (X : Sheet) (last : Line) (e : ℕ) → Stage X last → loss_may_follow last e ≡ true → e < edges X.board
    → Stepped X (X_line e) (with_loss X e)
unfolding lines_of
loss_step X last e s p h =
    let bytes = s.valid.loss in
    let B = X.board in
    let lit = members B.vertices (ones X.syndrome) in
    record {
      stage =
          record {
            valid =
                record {
                  board = s.valid.board;
                  syndrome = s.valid.syndrome;
                  loss = marked_valid e h bytes;
                  unlit = s.valid.unlit;
                };
            open_clear = λ u q. absurd (false≢true q);
            syndrome_clear = λ u q. absurd (false≢true q);
            loss_clear = λ u q. marked_clear (ltb-true e u q) (s.loss_clear e p);
          };
      lines =
          rw (marked_members _ X.loss e h bytes.count (s.loss_clear e p))
          (laid_loss B.vertices (values (edges B) (edge_line B)) (members B.vertices (is_open B)) lit
          (members (edges B) (ones X.loss)) e);
    }

-- Any line
step_stage : (X : Sheet) (last l : Line) (Y : Sheet) → Stage X last → step X last l ≡ some Y → Stepped X l Y
unfolding step
step_stage X last (V_line n) Y s p = absurd (none-ne-some _ p)
step_stage X last (E_line a b m) Y s p =
    let may = edge_may_follow last in
    let fits = edge_in_range X.board a b m in
    let w = passed (may && fits) (some (with_edge X a b m)) p in
    subst (Stepped X (E_line a b m)) (some-injective _ _ w.kept)
    (edge_step X last a b m s (and_left may fits w.test) (and_right may fits w.test))
step_stage X last (O_line v) Y s p =
    let may = open_may_follow last v in
    let fits = ltb v X.board.vertices in
    let w = passed (may && fits) (some (with_open X v)) p in
    subst (Stepped X (O_line v)) (some-injective _ _ w.kept)
    (open_step X last v s (and_left may fits w.test) (ltb-true _ _ (and_right may fits w.test)))
step_stage X last (S_line v) Y s p =
    let may = syndrome_may_follow last v in
    let fits = may_be_lit X.board v in
    let w = passed (may && fits) (some (with_syndrome X v)) p in
    let inside = ltb v X.board.vertices in
    let shut = not (is_open X.board v) in
    let lit = and_right may fits w.test in
    subst (Stepped X (S_line v)) (some-injective _ _ w.kept)
    (syndrome_step X last v s (and_left may fits w.test)
    (ltb-true _ _ (and_left inside shut lit))
    (not-true _ (and_right inside shut lit)))
step_stage X last (X_line e) Y s p =
    let may = loss_may_follow last e in
    let fits = ltb e (edges X.board) in
    let w = passed (may && fits) (some (with_loss X e)) p in
    subst (Stepped X (X_line e)) (some-injective _ _ w.kept)
    (loss_step X last e s (and_left may fits w.test) (ltb-true _ _ (and_right may fits w.test)))

-- Lines that lead from a stage to Y are what Y's lines have more.
pub record Completes (X Y : Sheet) (ls : List Line) : Type 0 where
  pub valid : ValidSheet Y
  pub lines : lines_of Y ≡ lines_of X ++ ls

pub leads_completes : {X Y : Sheet} {last final : Line} {ls : List Line} → Stage X last → Leads X last ls Y final → Completes X Y ls
leads_completes {X} s there = record { valid = s.valid; lines = sym (append-nil (lines_of X)) }
leads_completes {X} {last} s (onward {Y = Z} {l = l} {ls = ls} p r) =
    let t = step_stage X last l Z s p in
    let c = leads_completes t.stage r in
    record {
      valid = c.valid;
      lines = c.lines ∙ ap (λ k. k ++ ls) t.lines ∙ append_assoc (lines_of X) (l ∷ []) ls;
    }
