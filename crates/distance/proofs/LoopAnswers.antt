-- From the walks of every start to the distance. The walks are those of the board with as many vertices as there may be: a vertex without
-- edges changes no walk. Assumes nothing.
use Prim.Native.Nat.{ℕ, ◌+◌, ◌-◌, ◌≤◌, ◌<◌}
use mathlib.Core.Path.{◌≡◌, refl, sym, ap, subst, ◌∙◌}
use mathlib.Core.Bool.{true, false≢true}
use mathlib.Core.List.{List, [], ◌∷◌}
use mathlib.Core.Option.{none, some}
use native.Mathlib.Nat.{le_refl}
use native.Mathlib.Decide.{dec_lt}
use native.Mathlib.Omega.{arith}
use borrow.Author.Count.{below_more}
use lib.ListN.{length, take, length-replicate}
use Rattle.std.specs.Prelude.{Option, Some, None}
use Rattle.std.proofs.lemmas.Bool.{false_from_ne_true}
use Rattle.model.specs.Sums.{Set, bytes}
use Rattle.model.specs.Board.{Board, without_open, Valid, edges, vertex_limit, edge_limit}
use Rattle.model.specs.Winding.{winds}
use Rattle.model.specs.Distance.{fewest}
use Rattle.model.proofs.SumLaws.{count_bound}
use Rattle.model.proofs.EndLaws.{within_limit}
use Rattle.model.proofs.OpenBytes.{zeros_valid}
use Rattle.theory.proofs.Syndromes.{Sealed, without_open_sealed}
use Rattle.theory.proofs.CrossedLines.{Line, line_a, line_b}
use Rattle.theory.proofs.Walks.{Along, forth, back, Walk, stop, step, walk_crosses, passed_oddly}
use Rattle.theory.proofs.ShortLoops.{ShortWalksUnmarked}
use Rattle.theory.proofs.LoopBound.{walks_above_loops}
use Rattle.theory.proofs.Distances.{none_fewest, Shortest as ShortestWalk, shortest_walk}
use Rattle.distance.specs.Walking.{no_loop_size}
use Rattle.distance.specs.States.{padded}
use Rattle.distance.specs.Search.{NoShorter}
use Rattle.distance.specs.Found.{bound, ShowsWalk, Improved, Searched, Shortest}
use Rattle.distance.proofs.ShownBytes.{bytes_long, front_bytes, front_blank}

-- the vertex count does not matter to a walk
module _ (n k : ℕ) (ends marks : List ℕ) where
  along_any : {e u v : ℕ} → Along (without_open n ends marks) e u v → Along (without_open k ends marks) e u v
  along_any (forth p q) = forth p q
  along_any (back p q) = back p q

  walk_any : {u v : ℕ} {l : List ℕ} → Walk (without_open n ends marks) u l v → Walk (without_open k ends marks) u l v
  walk_any stop = stop
  walk_any (step h a w) = step h (along_any a) (walk_any w)

  crosses_any : (x : Line) (l : List ℕ) → walk_crosses (without_open n ends marks) x l ≡ walk_crosses (without_open k ends marks) x l
  crosses_any line_a l = refl
  crosses_any line_b l = refl

-- the board with as many vertices as there may be
pub padded_valid : {n : ℕ} {ends marks : List ℕ} → Valid (without_open n ends marks) → Valid (padded ends marks)
padded_valid valid =
    record {
      some_vertex = omega arith;
      inside = within_limit valid.inside;
      mark_in_range = valid.mark_in_range;
      open_bytes = zeros_valid vertex_limit;
    }

-- a walk stays below one more than the edge limit
pub bound_limit : (best : Option ℕ) → ((d : ℕ) → best ≡ Some d → d ≤ edge_limit) → bound best ≤ no_loop_size
bound_limit None h = le_refl _
bound_limit (Some d) h = omega (arith, h d refl)

-- a smaller bound is shown too
weaken : {B : Board} {s d c : ℕ} → c ≤ d → NoShorter B s d → NoShorter B s c
weaken h p = record { least = λ l x w q. omega (arith, p.least l x w q) }

-- one start more
pub searched_more :
    {B : Board} {s : ℕ} {best best' : Option ℕ} {found found' : List ℕ} → Searched B s best found → Improved B s best found best' found' →
    Searched B (s + 1) best' found'
searched_more {B} {s} {best} {best'} {found} {found'} so_far turn =
    record {
      least = below_more (λ u. NoShorter B u (bound best')) s (λ u h. weaken turn.no_worse (so_far.least u h)) turn.least;
      limit = λ d q.
          elim (dec_lt (bound best') (bound best)) [
            | yes l ↦ omega (arith, ap bound q, below)
            | no l ↦ so_far.limit d (sym (turn.same (as_it_was l)) ∙ q)
          ];
      blank = λ q.
          let same : bound best' ≡ bound best = omega (arith, ap bound q, below, turn.no_worse) in
          turn.kept same ∙ so_far.blank (sym (turn.same same) ∙ q);
      shown = λ d q.
          elim (dec_lt (bound best') (bound best)) [
            | yes l ↦ subst (λ k. ShowsWalk B k found') (ap bound q) (turn.shown l)
            | no l ↦
                let same = as_it_was l in
                rw (turn.kept same) (so_far.shown d (sym (turn.same same) ∙ q))
          ];
    }
  where
    below : bound best ≤ no_loop_size
    below = bound_limit best so_far.limit

    as_it_was : (bound best' < bound best → ⊥) → bound best' ≡ bound best
    as_it_was l = omega (arith, turn.no_worse)

-- a walk that crosses a line has an edge
crossing_long : (B : Board) (x : Line) (l : List ℕ) → walk_crosses B x l ≡ true → 1 ≤ length l
crossing_long B x [] p = absurd (false≢true p)
crossing_long B x (e ∷ l) p = omega arith

-- all starts are done
module _
    {n : ℕ}
    {ends marks : List ℕ}
    {best : Option ℕ}
    {found : List ℕ}
    (valid : Valid (without_open n ends marks))
    (all : Searched (padded ends marks) n best found) where
  abbrev B : Board
  B = without_open n ends marks

  abbrev P : Board
  P = padded ends marks

  shut : Sealed B
  shut = without_open_sealed n ends marks

  -- closed walks of fewer edges than the best cross each line an even number of times
  short_unmarked : (k : ℕ) → k < bound best → ShortWalksUnmarked B k
  short_unmarked k less = record { unmarked = λ u l h w few x. false_from_ne_true (walk_crosses B x l) (λ c. marked u l h w few x c) }
    where
      marked : (u : ℕ) (l : List ℕ) → u < n → Walk B u l u → length l ≤ k → (x : Line) → walk_crosses B x l ≡ true → ⊥
      marked u l h w few x c =
          omega (arith, (all.least u h).least l x (walk_any n vertex_limit ends marks w) (crosses_any vertex_limit n ends marks x l ∙ c))

  -- no loop was found: no set winds, for none has more edges than the board
  nothing_winds : best ≡ None → fewest B ≡ none
  nothing_winds q = none_fewest B (λ D. false_from_ne_true (winds B D) (λ w. large D w))
    where
      large : (D : Set) → winds B D ≡ true → ⊥
      large D w =
          let above = (walks_above_loops B valid.inside shut edge_limit (short_unmarked edge_limit (omega (arith, ap bound q)))).above D w in
          omega (arith, count_bound (edges B) D, valid.inside.edges_limited)

  -- the walk that is shown is a shortest one
  module _ (d : ℕ) (q : best ≡ Some d) where
    abbrev walk_shown : ShowsWalk P d found
    walk_shown = all.shown d q

    shown_shortest : ShortestWalk B walk_shown.list
    shown_shortest =
        let s = walk_shown in
        let crossed = crosses_any n vertex_limit ends marks s.line s.list ∙ s.crossed in
        let some-edge = crossing_long B s.line s.list crossed in
        let is : bound best ≡ d = ap bound q in
        shortest_walk B valid.inside shut s.vertex (d - 1) s.list s.line
        (walk_any vertex_limit n ends marks s.walk) crossed (omega (arith, s.long)) (short_unmarked (d - 1) (omega (arith, s.long)))

    -- the front of the array shows its odd edges
    shown_front : take (edges B) found ≡ bytes (edges B) (passed_oddly walk_shown.list)
    shown_front =
        ap (take (edges B)) walk_shown.written ∙ front_bytes (edges B) edge_limit (passed_oddly walk_shown.list) valid.inside.edges_limited

  -- the array is as long as it was
  found_long : length found ≡ edge_limit
  found_long = go best refl
    where
      go : (o : Option ℕ) → best ≡ o → length found ≡ edge_limit
      go None q = ap length (all.blank q) ∙ length-replicate {A = ℕ} edge_limit 0
      go (Some d) q = let s = all.shown d q in ap length s.written ∙ bytes_long edge_limit (passed_oddly s.list)

  pub searched_all : Shortest B best found
  searched_all =
      record {
        long = found_long;
        limit = all.limit;
        none = nothing_winds;
        blank = λ q. ap (take (edges B)) (all.blank q) ∙ front_blank (edges B) edge_limit valid.inside.edges_limited;
        distance = λ d q. (shown_shortest d q).distance ∙ ap some (all.shown d q).long;
        loop = λ d q.
            let s = all.shown d q in
            let r = shown_shortest d q in
            record { set = passed_oddly s.list; winding = r.is_winding; fewest = r.count ∙ s.long; written = shown_front d q };
      }
