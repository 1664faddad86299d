-- The lines of a valid sheet lead to it: its edges come one by one, then its open vertices, its syndrome vertices and its lost edges.
-- Assumes nothing.
use Prim.Native.Nat.{ℕ, zero, suc, ◌+◌, ◌*◌, ◌≤◌, ◌<◌}
use mathlib.Core.Path.{◌≡◌, refl, sym, ap, subst, ◌∙◌}
use mathlib.Core.Bool.{Bool, true, false, true≢false}
use mathlib.Core.List.{List, [], ◌∷◌, ◌++◌, map, map-append, append-nil, append_assoc}
use mathlib.Core.Option.{some}
use native.Mathlib.Nat.{le_refl}
use native.Mathlib.Omega.{arith}
use native.Mathlib.Numerals.{add-one}
use borrow.Author.Tests.{lt-ltb, eqb-true, eqb-false}
use lib.ListN.{length, get_or, take, set, replicate, replicate-append-replicate}
use lib.Seq.{take-suc, take_all, take-length, length-take-le}
use Rattle.std.proofs.lemmas.Bool.{false_from_ne_true}
use Rattle.model.specs.Sums.{values, ones, members}
use Rattle.model.specs.Board.{board_of, without_open, Sheet, sheet_of, ValidBytes, ValidSheet, edges, first_end, second_end, mark, is_open}
use Rattle.model.specs.Text.{Line, V_line, O_line, S_line, X_line, edge_line, lines_of, begun, edge_may_follow, with_edge, open_may_follow, syndrome_may_follow, loss_may_follow, step}
use Rattle.model.proofs.ListLaws.{values_last}
use Rattle.theory.proofs.MarkedBytes.{up_to, up_to_none, up_to_all, up_to_unmarked, up_to_marked}
use Rattle.theory.proofs.AddedEdges.{Addable, range_in, fit_lines}
use Rattle.theory.proofs.TextReading.{edge_then_open, open_then_syndrome, syndrome_then_loss, Leads, there, onward, leads_append}

-- The lines of each kind, for the first edges, vertices, vertices, edges of a sheet

abbrev edge_lines : Sheet → ℕ → List Line
edge_lines X k = values k (edge_line X.board)

abbrev open_lines : Sheet → ℕ → List Line
open_lines X v = map O_line (members v (is_open X.board))

abbrev syndrome_lines : Sheet → ℕ → List Line
syndrome_lines X v = map S_line (members v (ones X.syndrome))

abbrev loss_lines : Sheet → ℕ → List Line
loss_lines X e = map X_line (members e (ones X.loss))

-- the same lines, the same sheet
spelt : {X Y : Sheet} {k l : Line} {ls ls' : List Line} → ls ≡ ls' → Leads X k ls Y l → Leads X k ls' Y l
spelt {X} {Y} {k} {l} p r = subst (λ s. Leads X k s Y l) p r

arrive : {X Y Z : Sheet} {k l : Line} {ls : List Line} → Y ≡ Z → Leads X k ls Y l → Leads X k ls Z l
arrive {X} {k} {l} {ls} p r = subst (λ S. Leads X k ls S l) p r

-- A phase of the text: its lines and the sheet that they lead to, after k turns; Ok k says what may follow the last line then.

module _ (Ok : ℕ → Line → Type 0) (lines : ℕ → List Line) (sheet : ℕ → Sheet) where
  -- a turn adds a line, or nothing
  data Turn (k : ℕ) : Type 0 where
    adds : (l : Line) → lines (suc k) ≡ lines k ++ (l ∷ []) → Ok (suc k) l
        → ((last : Line) → Ok k last → step (sheet k) last l ≡ some (sheet (suc k))) → Turn k
    passes : lines (suc k) ≡ lines k → sheet (suc k) ≡ sheet k → ((last : Line) → Ok k last → Ok (suc k) last) → Turn k

  record Phase (first : Line) (k : ℕ) : Type 0 where
    final : Line
    ok : Ok k final
    lead : Leads (sheet 0) first (lines k) (sheet k) final

  module _ (first : Line) (none_yet : lines 0 ≡ []) (begins : Ok 0 first) (n : ℕ) (turn : (k : ℕ) → k < n → Turn k) where
    phase : (k : ℕ) → k ≤ n → Phase first k
    phase zero h = record { final = first; ok = begins; lead = spelt (sym none_yet) there }
    phase (suc k) h = go (phase k (omega arith)) (turn k h)
      where
        go : Phase first k → Turn k → Phase first (suc k)
        go p (adds l more ok steps) =
            record {
              final = l;
              ok = ok;
              lead = spelt (sym more) (leads_append p.lead (onward (steps p.final p.ok) there));
            }
        go p (passes more same ok) =
            record {
              final = p.final;
              ok = ok p.final p.ok;
              lead = spelt (sym more) (arrive (sym same) p.lead);
            }

-- The edges

-- the first k edges of X, with no open vertex, no syndrome and no loss
abbrev with_edges : Sheet → ℕ → Sheet
with_edges X k =
    let B = X.board in
    sheet_of (without_open B.vertices (take (2 * k) B.ends) (take k B.marks)) (replicate B.vertices 0) (replicate k 0)

-- where an edge may follow
abbrev EdgeNext : ℕ → Line → Type 0
EdgeNext k last = edge_may_follow last ≡ true

-- two ends more
take_two : (l : List ℕ) (k : ℕ) → 2 * k + 1 < length l
    → take (2 * suc k) l ≡ take (2 * k) l ++ (get_or l (2 * k) 0 ∷ get_or l (2 * k + 1) 0 ∷ [])
take_two l k h =
    let two : 2 * suc k ≡ suc (suc (2 * k)) = omega arith in
    let one : 2 * k + 1 ≡ suc (2 * k) = omega arith in
    rw (two, one, take-suc l (suc (2 * k)) 0 (omega arith), take-suc l (2 * k) 0 (omega arith))
    (append_assoc (take (2 * k) l) (get_or l (2 * k) 0 ∷ []) (get_or l (suc (2 * k)) 0 ∷ []))

one_zero_more : (k : ℕ) → replicate {A = ℕ} (suc k) 0 ≡ replicate k 0 ++ (0 ∷ [])
one_zero_more k = sym (replicate-append-replicate k 1 0 ∙ ap (λ i. replicate {A = ℕ} i 0) (add-one k))

edge_added : (X : Sheet) → ValidSheet X → (k : ℕ) → k < edges X.board
    → with_edge (with_edges X k) (first_end X.board k) (second_end X.board k) (mark X.board k) ≡ with_edges X (suc k)
edge_added X w k h =
    let two = w.board.inside.two_ends in
    rw (take_two X.board.ends k (omega arith), take-suc X.board.marks k 0 h, one_zero_more k)

-- the first k edges leave room for one more
addable : (X : Sheet) → ValidSheet X → (k : ℕ) → k < edges X.board
    → Addable (with_edges X k).board (first_end X.board k) (second_end X.board k) (mark X.board k)
addable X w k h =
    let limit = w.board.inside.edges_limited in
    let long = length-take-le k X.board.marks (omega arith) in
    record { room = omega arith; fits = fit_lines X.board w.board k h }

edge_turn : (X : Sheet) → ValidSheet X → (k : ℕ) → k < edges X.board
    → Turn EdgeNext (edge_lines X) (with_edges X) k
unfolding step
edge_turn X w k h =
    adds (edge_line X.board k) (values_last k (edge_line X.board)) refl
    (λ last ok. rw (ok, range_in (with_edges X k).board _ _ _ (addable X w k h)) (ap some (edge_added X w k h)))

-- Marked bytes: a turn for each byte, which adds a line where the byte is 1

module _ (Ok : ℕ → Line → Type 0) (f : ℕ → Line) (F : List ℕ → Sheet) (n : ℕ) (l : List ℕ) (valid : ValidBytes n l)
    (here : (k : ℕ) → Ok (suc k) (f k)) (later : (k : ℕ) (last : Line) → Ok k last → Ok (suc k) last)
    (steps : (k : ℕ) (last : Line) (bytes : List ℕ) → k < n → ones l k ≡ true → Ok k last
    → step (F bytes) last (f k) ≡ some (F (set bytes k 1))) where
  mark_turn : (k : ℕ) → k < n → Turn Ok (λ i. map f (members i (ones l))) (λ i. F (up_to i n l)) k
  unfolding members
  mark_turn k h = go (ones l k) refl
    where
      go : (t : Bool) → ones l k ≡ t → Turn Ok (λ i. map f (members i (ones l))) (λ i. F (up_to i n l)) k
      go true e =
          adds (f k) (rw e (map-append f (members k (ones l)) (k ∷ []))) (here k)
          (λ last ok.
          steps k last (up_to k n l) h e ok ∙ ap (λ s. some (F s)) (sym (up_to_marked k n l valid.count h (eqb-true _ 1 e))))
      go false e =
          passes (rw e (ap (map f) (append-nil (members k (ones l)))))
          (ap F (up_to_unmarked k n l valid.count h (omega (arith, valid.each k h, eqb-false (get_or l k 0) 1 e))))
          (later k)

-- where an open vertex from v on may follow; where a syndrome vertex from v on may; where a lost edge from e on may
abbrev OpenNext : ℕ → Line → Type 0
OpenNext v last = (u : ℕ) → v ≤ u → open_may_follow last u ≡ true

abbrev SyndromeNext : ℕ → Line → Type 0
SyndromeNext v last = (u : ℕ) → v ≤ u → syndrome_may_follow last u ≡ true

abbrev LossNext : ℕ → Line → Type 0
LossNext e last = (d : ℕ) → e ≤ d → loss_may_follow last d ≡ true

-- the sheet with these open bytes, no syndrome and no loss; with all its open vertices, these syndrome bytes and no loss; with all but its
-- loss, and these loss bytes
abbrev open_by : Sheet → List ℕ → Sheet
open_by X bytes =
    let B = X.board in
    sheet_of (board_of B.vertices B.ends B.marks bytes) (replicate B.vertices 0) (replicate (edges B) 0)

abbrev lit_by : Sheet → List ℕ → Sheet
lit_by X bytes = sheet_of X.board bytes (replicate (edges X.board) 0)

abbrev lost_by : Sheet → List ℕ → Sheet
lost_by X bytes = sheet_of X.board X.syndrome bytes

abbrev with_opens : Sheet → ℕ → Sheet
with_opens X v = open_by X (up_to v X.board.vertices X.board.opened)

abbrev with_lit : Sheet → ℕ → Sheet
with_lit X v = lit_by X (up_to v X.board.vertices X.syndrome)

abbrev with_lost : Sheet → ℕ → Sheet
with_lost X e = lost_by X (up_to e (edges X.board) X.loss)

open_turn : (X : Sheet) → ValidSheet X → (v : ℕ) → v < X.board.vertices → Turn OpenNext (open_lines X) (with_opens X) v
unfolding step
open_turn X w =
    mark_turn OpenNext O_line (open_by X) X.board.vertices X.board.opened w.board.open_bytes
    (λ v u h. lt-ltb v u h)
    (λ v last ok u h. ok u (omega arith))
    (λ v last bytes h e ok. rw (ok v (le_refl _), lt-ltb v X.board.vertices h))

-- a vertex of the syndrome is not open
lit_shut : (X : Sheet) → ValidSheet X → (v : ℕ) → v < X.board.vertices → ones X.syndrome v ≡ true → is_open X.board v ≡ false
lit_shut X w v h e = false_from_ne_true (is_open X.board v) (λ o. true≢false (sym e ∙ w.unlit v h o))

syndrome_turn : (X : Sheet) → ValidSheet X → (v : ℕ) → v < X.board.vertices → Turn SyndromeNext (syndrome_lines X) (with_lit X) v
unfolding step
syndrome_turn X w =
    mark_turn SyndromeNext S_line (lit_by X) X.board.vertices X.syndrome w.syndrome
    (λ v u h. lt-ltb v u h)
    (λ v last ok u h. ok u (omega arith))
    (λ v last bytes h e ok. rw (ok v (le_refl _), lt-ltb v X.board.vertices h, lit_shut X w v h e))

loss_turn : (X : Sheet) → ValidSheet X → (e : ℕ) → e < edges X.board → Turn LossNext (loss_lines X) (with_lost X) e
unfolding step
loss_turn X w =
    mark_turn LossNext X_line (lost_by X) (edges X.board) X.loss w.loss
    (λ e d h. lt-ltb e d h)
    (λ e last ok d h. ok d (omega arith))
    (λ e last bytes h lost ok. rw (ok e (le_refl _), lt-ltb e (edges X.board) h))

-- The four phases, each of which begins where the one before ends

edges_end : (X : Sheet) → ValidSheet X → with_edges X (edges X.board) ≡ with_opens X 0
edges_end X w =
    let B = X.board in
    let long = w.board.inside.two_ends in
    rw (take_all (2 * edges B) B.ends (omega arith), take-length B.marks, up_to_none B.vertices B.opened)

opens_end : (X : Sheet) → ValidSheet X → with_opens X X.board.vertices ≡ with_lit X 0
opens_end X w =
    let n = X.board.vertices in
    rw (up_to_all n X.board.opened w.board.open_bytes.count, up_to_none n X.syndrome)

syndrome_ends : (X : Sheet) → ValidSheet X → with_lit X X.board.vertices ≡ with_lost X 0
syndrome_ends X w = rw (up_to_all X.board.vertices X.syndrome w.syndrome.count, up_to_none (edges X.board) X.loss)

loss_ends : (X : Sheet) → ValidSheet X → with_lost X (edges X.board) ≡ X
loss_ends X w = ap (lost_by X) (up_to_all (edges X.board) X.loss w.loss.count)

module _ (X : Sheet) (w : ValidSheet X) where
  edge_phase : Phase EdgeNext (edge_lines X) (with_edges X) (V_line X.board.vertices) (edges X.board)
  unfolding values
  edge_phase =
      phase EdgeNext (edge_lines X) (with_edges X) (V_line X.board.vertices) refl refl
      (edges X.board) (edge_turn X w) (edges X.board) (le_refl _)

  open_phase : (last : Line) → edge_may_follow last ≡ true → Phase OpenNext (open_lines X) (with_opens X) last X.board.vertices
  unfolding members
  open_phase last may =
      phase OpenNext (open_lines X) (with_opens X) last refl (λ u h. edge_then_open last u may)
      X.board.vertices (open_turn X w) X.board.vertices (le_refl _)

  syndrome_phase : (last : Line) → OpenNext X.board.vertices last
      → Phase SyndromeNext (syndrome_lines X) (with_lit X) last X.board.vertices
  unfolding members
  syndrome_phase last may =
      phase SyndromeNext (syndrome_lines X) (with_lit X) last refl
      (λ u h. open_then_syndrome last X.board.vertices u (may X.board.vertices (le_refl _)))
      X.board.vertices (syndrome_turn X w) X.board.vertices (le_refl _)

  loss_phase : (last : Line) → SyndromeNext X.board.vertices last → Phase LossNext (loss_lines X) (with_lost X) last (edges X.board)
  unfolding members
  loss_phase last may =
      phase LossNext (loss_lines X) (with_lost X) last refl
      (λ e h. syndrome_then_loss last X.board.vertices e (may X.board.vertices (le_refl _)))
      (edges X.board) (loss_turn X w) (edges X.board) (le_refl _)

-- The lines of a valid sheet, after the first, lead to it.
pub record Written (X : Sheet) : Type 0 where
  pub lines : List Line
  pub final : Line
  pub lead : Leads (begun X.board.vertices) (V_line X.board.vertices) lines X final
  pub all_lines : lines_of X ≡ V_line X.board.vertices ∷ lines

pub written : (X : Sheet) → ValidSheet X → Written X
unfolding lines_of
written X w =
    let es = edge_phase X w in
    let os = open_phase X w es.final es.ok in
    let ss = syndrome_phase X w os.final os.ok in
    let xs = loss_phase X w ss.final ss.ok in
    record {
      lines =
          edge_lines X (edges X.board)
          ++ open_lines X X.board.vertices
          ++ syndrome_lines X X.board.vertices
          ++ loss_lines X (edges X.board);
      final = xs.final;
      lead =
          leads_append
          (leads_append
          (leads_append (arrive (edges_end X w) es.lead) (arrive (opens_end X w) os.lead))
          (arrive (syndrome_ends X w) ss.lead))
          (arrive (loss_ends X w) xs.lead);
      all_lines = refl;
    }
