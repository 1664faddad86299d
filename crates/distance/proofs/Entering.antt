-- How what the walk knows is kept: at its start, when a state is entered, and when the head of the queue is done. Assumes nothing.
use Prim.Native.Nat.{ℕ, suc, ◌+◌, ◌/◌, ◌≤◌, ◌<◌}
use mathlib.Core.Path.{◌≡◌, sym, ap, ◌∙◌}
use mathlib.Core.Bool.{true}
use mathlib.Core.Logic.{◌≢◌}
use native.Mathlib.Nat.{le_refl, not-suc-le-zero}
use native.Mathlib.Decide.{ℕ_discrete}
use native.Mathlib.Omega.{arith}
use borrow.Author.Count.{below_more}
use borrow.Author.Tests.{lt-ltb, le-ltb}
use lib.Dec.{ltb}
use Rattle.model.specs.Sums.{count_up_to}
use Rattle.model.specs.Board.{Board, Valid, edges}
use Rattle.model.specs.Syndrome.{touches}
use Rattle.model.proofs.SumLaws.{count_none}
use Rattle.model.proofs.CountLaws.{count_room, count_more}
use Rattle.distance.specs.States.{across}
use Rattle.distance.specs.Search.{states, home, Kept, Tree, Place, entered, Queue, Near, Done, Search}
use Rattle.distance.proofs.StateLaws.{across_bound, across_touches, across_back}
use Rattle.distance.proofs.Storing.{Put}

-- The state across edge e from x, which was not met, is entered: one deeper than x, and with that edge.
pub record Enters (B : Board) (D D' K K' : ℕ → ℕ) (x e : ℕ) : Type 0 where
  pub met : 1 ≤ D x
  pub edge : e < edges B
  pub touch : touches B e (x / 4) ≡ true
  pub fresh : D (across B x e) ≡ 0
  pub depth : Put D D' (across B x e) (suc (D x))
  pub kept : Put K K' (across B x e) e

module _ {B : Board} {D D' K K' : ℕ → ℕ} {x e : ℕ} (new : Enters B D D' K K' x e) where
  -- what was met keeps its depth
  pub stays : (j : ℕ) → 1 ≤ D j → D' j ≡ D j
  stays j h = new.depth.else j (λ q. omega (arith, ap D q, new.fresh))

  pub near_stays : (z f : ℕ) → 1 ≤ D z → Near B D z f → Near B D' z f
  near_stays z f h n =
      let here = stays z h in
      let there = stays (across B z f) n.met in
      record { met = omega (arith, n.met); close = omega (arith, n.close) }

  done_stays : (z : ℕ) → 1 ≤ D z → Done B D z → Done B D' z
  done_stays z h d = record { near = λ f l t. near_stays z f h (d.near f l t) }

  -- the new state is near
  pub entered_near : Near B D' x e
  entered_near =
      let here = stays x new.met in
      let there = new.depth.here in
      record { met = omega arith; close = omega arith }

  kept_stays : (y : ℕ) → y ≢ across B x e → 2 ≤ D y → Kept B D K y → Kept B D' K' y
  kept_stays y other h one =
      let k : K' y ≡ K y = new.kept.else y other in
      let above : D' (across B y (K y)) ≡ D (across B y (K y)) = stays (across B y (K y)) (omega (arith, one.above)) in
      record {
        edge = rw k one.edge;
        touch = rw k one.touch;
        above = rw (k, above, stays y (omega arith)) one.above;
      }

  kept_new : Kept B D' K' (across B x e)
  kept_new =
      let k : K' (across B x e) ≡ e = new.kept.here in
      record {
        edge = rw k new.edge;
        touch = rw k (across_touches B x e);
        above = rw (k, across_back B x e new.touch, stays x new.met) (sym new.depth.here);
      }

  pub entered_tree : {s : ℕ} → Tree B s D K → Tree B s D' K'
  entered_tree {s} tree =
      record {
        start = stays (home s) (omega (arith, tree.start)) ∙ tree.start;
        root = λ y h q.
            elim (ℕ_discrete y (across B x e)) [
              | yes r ↦ absurd (omega (arith, ap D' r, new.depth.here, new.met))
              | no r ↦ tree.root y h (sym (new.depth.else y r) ∙ q)
            ];
        kept = λ y h l.
            elim (ℕ_discrete y (across B x e)) [
              | yes r ↦ rw r kept_new
              | no r ↦ let m : 2 ≤ D y = omega (arith, new.depth.else y r) in kept_stays y r m (tree.kept y h m)
            ];
      }

-- a state that was not met has room in the queue
pub queue_room : {B : Board} {D Q : ℕ → ℕ} {h t : ℕ} → Queue B D Q h t → (y : ℕ) → y < states B → D y ≡ 0 → t < states B
queue_room {B} {D} q y l fresh =
    omega (arith, q.count, count_room (states B) y (entered D) l (le-ltb 0 (D y) (omega arith)))

-- the head of the queue leads to a new state, which goes to its end
module _
    {B : Board}
    {D D' K K' Q Q' : ℕ → ℕ}
    {h t e : ℕ}
    (valid : Valid B)
    (queue : Queue B D Q h t)
    (some : h < t)
    (new : Enters B D D' K K' (Q h) e)
    (put : Put Q Q' t (across B (Q h) e)) where
  old_at : (i : ℕ) → i < t → D' (Q' i) ≡ D (Q i)
  old_at i l = ap D' (put.else i (λ q. omega arith)) ∙ stays new (Q i) (queue.met i l)

  new_at : D' (Q' t) ≡ suc (D (Q h))
  new_at = ap D' put.here ∙ new.depth.here

  new_place : (y : ℕ) → y < states B → 1 ≤ D' y → Place Q' (t + 1) y
  new_place y l m =
      elim (ℕ_discrete y (across B (Q h) e)) [
        | yes r ↦ record { index = t; less = omega arith; here = put.here ∙ sym r }
        | no r ↦
            let p : Place Q t y = queue.place y l (omega (arith, new.depth.else y r)) in
            record { index = p.index; less = omega (arith, p.less); here = put.else p.index (λ q. omega (arith, p.less)) ∙ p.here }
      ]

  new_rising : (i j : ℕ) → i ≤ j → j < t + 1 → D' (Q' i) ≤ D' (Q' j)
  new_rising i j l m =
      below_more (λ j. i ≤ j → D' (Q' i) ≤ D' (Q' j)) t
      (λ j m l. omega (arith, old_at i (omega arith), old_at j m, queue.rising i j l m))
      (λ l.
      elim (ℕ_discrete i t) [
        | yes q ↦ rw q (le_refl _)
        | no q ↦ let m : i < t = omega arith in omega (arith, old_at i m, new_at, queue.close i m some)
      ])
      j m l

  new_count : count_up_to (states B) (entered D') ≡ t + 1
  new_count =
      count_more (states B) (across B (Q h) e) (entered D) (entered D')
      (across_bound B valid (Q h) e new.edge)
      (le-ltb 0 (D (across B (Q h) e)) (omega (arith, new.fresh)))
      (lt-ltb 0 (D' (across B (Q h) e)) (omega (arith, new.depth.here)))
      (λ j d. ap (λ n. ltb 0 n) (new.depth.else j d))
      ∙ omega (arith, queue.count)

  entered_queue : Queue B D' Q' h (t + 1)
  entered_queue =
      record {
        order = omega arith;
        inside = below_more (λ i. Q' i < states B) t
            (λ i l. rw (put.else i (λ q. omega arith)) (queue.inside i l))
            (rw put.here (across_bound B valid (Q h) e new.edge));
        met = below_more (λ i. 1 ≤ D' (Q' i)) t
            (λ i l. omega (arith, old_at i l, queue.met i l))
            (omega (arith, new_at));
        place = new_place;
        rising = new_rising;
        close = λ i l m.
            below_more (λ i. D' (Q' i) ≤ suc (D' (Q' h))) t
            (λ i l. omega (arith, old_at i l, old_at h some, queue.close i l some))
            (omega (arith, new_at, old_at h some))
            i l;
        count = new_count;
      }

  -- and the walk goes on, if that is not the start on another copy
  pub entered_search : {s : ℕ} → Search B s D K Q h t → (across B (Q h) e / 4 ≡ s → ⊥) → Search B s D' K' Q' h (t + 1)
  entered_search search apart =
      record {
        tree = entered_tree new search.tree;
        queue = entered_queue;
        done = λ i l. rw (put.else i (λ q. omega arith)) (done_stays new (Q i) (queue.met i (omega arith)) (search.done i l));
        away = λ y l m q.
            elim (ℕ_discrete y (across B (Q h) e)) [
              | yes r ↦ absurd (apart (ap (λ z. z / 4) (sym r) ∙ q))
              | no r ↦ search.away y l (omega (arith, new.depth.else y r)) q
            ];
      }

-- an edge to a state that was met already
pub met_near :
    {B : Board} {D Q : ℕ → ℕ} {h t : ℕ} → Valid B → Queue B D Q h t → h < t → (e : ℕ) → e < edges B → 1 ≤ D (across B (Q h) e) →
    Near B D (Q h) e
met_near {B} {D} {Q} {h} {t} valid queue some e l m =
    let p : Place Q t (across B (Q h) e) = queue.place (across B (Q h) e) (across_bound B valid (Q h) e l) m in
    record { met = m; close = omega (arith, ap D p.here, queue.close p.index p.less some) }

-- the head of the queue is done
pub head_done : {B : Board} {s : ℕ} {D K Q : ℕ → ℕ} {h t : ℕ} → Search B s D K Q h t → h < t → Done B D (Q h) → Search B s D K Q (h + 1) t
head_done {B} {s} {D} {K} {Q} {h} {t} search some d =
    let queue = search.queue in
    record {
      tree = search.tree;
      queue = record {
        order = omega arith;
        inside = queue.inside;
        met = queue.met;
        place = queue.place;
        rising = queue.rising;
        close = λ i l m. omega (arith, queue.close i l some, queue.rising h (h + 1) (omega arith) m);
        count = queue.count;
      };
      done = below_more (λ i. Done B D (Q i)) h search.done d;
      away = search.away;
    }

-- The walk begins with the start alone.
pub search_start :
    {B : Board} {s : ℕ} {D D' K Q Q' : ℕ → ℕ} → s < B.vertices → ((y : ℕ) → y < states B → D y ≡ 0) → Put D D' (home s) 1 →
    Put Q Q' 0 (home s) → Search B s D' K Q' 0 1
search_start {B} {s} {D} {D'} {K} {Q} {Q'} l none depth first =
    record {
      tree = record {
        start = depth.here;
        root = λ y h q. only y h (omega arith);
        kept = λ y h m. absurd (omega (arith, depth.here, ap D' (only y h (omega arith))));
      };
      queue = record {
        order = omega arith;
        inside = λ i h. rw (ap Q' (zeroth i h), first.here) (omega arith);
        met = λ i h. rw (ap Q' (zeroth i h), first.here, depth.here) (le_refl _);
        place = λ y h m. record { index = 0; less = le_refl _; here = first.here ∙ sym (only y h m) };
        rising = λ i j h m. rw (zeroth i (omega arith), zeroth j m) (le_refl _);
        close = λ i h m. rw (zeroth i h) (omega arith);
        count =
            count_more (states B) (home s) (entered D) (entered D') (omega arith)
            (le-ltb 0 (D (home s)) (omega (arith, none (home s) (omega arith))))
            (lt-ltb 0 (D' (home s)) (omega (arith, depth.here)))
            (λ j d. ap (λ n. ltb 0 n) (depth.else j d))
            ∙ ap suc (count_none (states B) (entered D) (λ y h. le-ltb 0 (D y) (omega (arith, none y h))));
      };
      done = λ i h. absurd (not-suc-le-zero h);
      away = λ y h m q. only y h m;
    }
  where
    only : (y : ℕ) → y < states B → 1 ≤ D' y → y ≡ home s
    only y h m = elim (ℕ_discrete y (home s)) [ yes r ↦ r | no r ↦ absurd (omega (arith, depth.else y r, none y h)) ]

    zeroth : (i : ℕ) → i < 1 → i ≡ 0
    zeroth i h = omega arith
