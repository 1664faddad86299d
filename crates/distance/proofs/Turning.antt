-- The two loops of the walk, turn by turn: what each knows at its head, and how a turn keeps it. Assumes nothing.
use Prim.Native.Nat.{ℕ, suc, ◌+◌, ◌/◌, ◌≤◌, ◌<◌}
use mathlib.Core.Path.{◌≡◌, ap, ◌∙◌}
use mathlib.Core.Bool.{true}
use mathlib.Core.List.{List}
use native.Mathlib.Omega.{arith}
use borrow.Author.Count.{below_more}
use lib.ListN.{length, set, replicate, length-set, length-replicate, get_or-replicate}
use Rattle.model.specs.Board.{Board, Valid, edges, vertex_limit}
use Rattle.model.specs.Syndrome.{touches}
use Rattle.model.proofs.SumLaws.{count_bound}
use Rattle.board.specs.Incidence.{Position}
use Rattle.distance.specs.States.{across, padded, state_limit}
use Rattle.distance.specs.Search.{at, home, entered, Near, Search, NoShorter}
use Rattle.distance.specs.Walking.{Whole, Room, New, Old, Ready, Fresh, Met}
use Rattle.distance.proofs.StateLaws.{across_bound}
use Rattle.distance.proofs.Storing.{Put, put_set}
use Rattle.distance.proofs.Entering.{Enters, stays, near_stays, entered_near, entered_tree, queue_room, entered_search, met_near, head_done, search_start}
use Rattle.distance.proofs.Shortest.{no_shorter}

-- at the head of the loop over the queue
pub record Going (ends marks offsets entries : List ℕ) (s best : ℕ) (D K Q : List ℕ) (h t : ℕ) : Type 0 where
  pub ready : Ready ends marks offsets entries s best
  pub whole : Whole D K Q
  pub search : Search (padded ends marks) s (at D) (at K) (at Q) h t

-- at the head of the loop over the edges of vertex v: state x is there, at the head of the queue and at depth d, and the edges before
-- place i are near
pub record Turning (ends marks offsets entries : List ℕ) (s best : ℕ) (D K Q : List ℕ) (h t x d v i : ℕ) : Type 0 where
  pub going : Going ends marks offsets entries s best D K Q h t
  pub some : h < t
  pub head : at Q h ≡ x
  pub level : at D x ≡ d
  pub low : d < best
  pub there : x / 4 ≡ v
  pub from : at offsets v ≤ i
  pub near : (j : ℕ) → at offsets v ≤ j → j < i → Near (padded ends marks) (at D) x (at entries j)

-- the walk begins
pub going_start :
    {ends marks offsets entries : List ℕ} {s best : ℕ} {D K Q : List ℕ} → Ready ends marks offsets entries s best → Fresh D K Q →
    Going ends marks offsets entries s best (set D (home s) 1) K (set Q 0 (home s)) 0 1
going_start {s = s} {D = D} {Q = Q} ready fresh =
    let whole = fresh.whole in
    let in-depth : home s < length D = omega (arith, ready.start, whole.depth) in
    let in_queue : 0 < length Q = omega (arith, whole.queue) in
    record {
      ready = ready;
      whole = record { depth = length-set D (home s) 1 ∙ whole.depth; kept = whole.kept; queue = length-set Q 0 (home s) ∙ whole.queue };
      search = search_start ready.start fresh.none (put_set D (home s) 1 in-depth) (put_set Q 0 (home s) in_queue);
    }

module _
    {ends marks offsets entries : List ℕ}
    {s best : ℕ}
    {D K Q : List ℕ}
    {h t : ℕ}
    (going : Going ends marks offsets entries s best D K Q h t) where
  -- the places of the queue, and the states in it
  pub tail_bound : t ≤ state_limit
  tail_bound = omega (arith, going.search.queue.count, count_bound state_limit (entered (at D)))

  pub head_bound : h < t → at Q h < state_limit
  head_bound some = going.search.queue.inside h some

  -- the walk ends with the queue, or where it is too deep
  pub going_over : (h < t → best ≤ at D (at Q h)) → NoShorter (padded ends marks) s best
  going_over deep = no_shorter going.ready.valid going.ready.start going.search best deep

module _
    {ends marks offsets entries : List ℕ}
    {s best : ℕ}
    {D K Q : List ℕ}
    {h t x d v i : ℕ}
    (turning : Turning ends marks offsets entries s best D K Q h t x d v i) where
  abbrev B : Board
  B = padded ends marks

  abbrev valid : Valid B
  valid = turning.going.ready.valid

  vertex : v < vertex_limit
  vertex = omega (arith, turning.head, head_bound turning.going turning.some, turning.there)

  -- an edge is left, at place i
  module _ (l : i < at offsets (v + 1)) where
    abbrev e : ℕ
    e = at entries i

    abbrev y : ℕ
    y = across B x e

    pub is_edge : e < edges B
    is_edge = turning.going.ready.lists.an_edge v i vertex turning.from l

    -- a state that was not met has room
    pub turning_room : Room D K Q t y
    turning_room =
        let bound : y < state_limit = across_bound B valid x e is_edge in
        record {
          whole = turning.going.whole;
          inside = bound;
          free = λ fresh. queue_room turning.going.search.queue y bound fresh;
        }

    -- the edge leads to a state that was met before
    pub turning_old :
        {D' K' Q' : List ℕ} {t' : ℕ} → Old D K Q t y D' K' Q' t' →
        Turning ends marks offsets entries s best D' K' Q' h t' x d v (i + 1)
    turning_old old =
        rw (old.depth, old.kept, old.queue, old.tail)
        (record {
          going = turning.going;
          some = turning.some;
          head = turning.head;
          level = turning.level;
          low = turning.low;
          there = turning.there;
          from = omega (arith, turning.from);
          near = λ j m n.
              below_more (λ j. at offsets v ≤ j → Near B (at D) x (at entries j)) i
              (λ j n m. turning.near j m n) (λ m. here old.met) j n m;
        })
      where
        here : 1 ≤ at D y → Near B (at D) x e
        here met =
            rw (← turning.head)
            (met_near valid turning.going.search.queue turning.some e is_edge (rw (← turning.head) at met))

    -- it leads to a new state
    module _ {D' K' Q' : List ℕ} {t' : ℕ} (new : New D K Q t y e (d + 1) D' K' Q' t') where
      enters : Enters B (at D) (at D') (at K) (at K') x e
      enters =
          let whole = turning.going.whole in
          let bound = turning_room.inside in
          let deeper : d + 1 ≡ suc (at D x) = omega (arith, turning.level) in
          record {
            met = rw turning.head at (turning.going.search.queue.met h turning.some);
            edge = is_edge;
            touch = rw turning.there (turning.going.ready.lists.touching v i vertex turning.from l);
            fresh = new.fresh;
            depth = rw (new.depth, ← deeper) (put_set D y (d + 1) (omega (arith, whole.depth)));
            kept = rw new.kept (put_set K y e (omega (arith, whole.kept)));
          }

      whole_new : Whole D' K' Q'
      whole_new =
          let whole = turning.going.whole in
          record {
            depth = ap length new.depth ∙ length-set D y (d + 1) ∙ whole.depth;
            kept = ap length new.kept ∙ length-set K y e ∙ whole.kept;
            queue = ap length new.queue ∙ length-set Q t y ∙ whole.queue;
          }

      in_queue : Put (at Q) (at Q') t y
      in_queue =
          let room : t < state_limit = turning_room.free new.fresh in
          rw new.queue (put_set Q t y (omega (arith, turning.going.whole.queue)))

      -- which is not the start's vertex
      pub turning_new : (y / 4 ≡ s → ⊥) → Turning ends marks offsets entries s best D' K' Q' h t' x d v (i + 1)
      turning_new apart =
          rw new.tail
          (record {
            going = record {
              ready = turning.going.ready;
              whole = whole_new;
              search =
                  entered_search {e = e} valid turning.going.search.queue turning.some (rw turning.head enters)
                  (rw turning.head in_queue) turning.going.search (rw turning.head apart);
            };
            some = omega (arith, turning.some);
            head = in_queue.else h (λ q. omega (arith, turning.some)) ∙ turning.head;
            level = stays enters x enters.met ∙ turning.level;
            low = turning.low;
            there = turning.there;
            from = omega (arith, turning.from);
            near = λ j m n.
                below_more (λ j. at offsets v ≤ j → Near B (at D') x (at entries j)) i
                (λ j n m. near_stays enters x (at entries j) enters.met (turning.near j m n))
                (λ m. entered_near enters)
                j n m;
          })

      -- which is the start's vertex on another copy
      pub turning_met : y / 4 ≡ s → Met B s best (at D') (at K') y
      turning_met q =
          let search = turning.going.search in
          record {
            inside = turning_room.inside;
            vertex = q;
            apart = λ r. omega (arith, ap (at D) r, new.fresh, search.tree.start);
            tree = entered_tree enters search.tree;
            edges = d;
            depth = enters.depth.here ∙ ap suc turning.level;
            fewer = turning.low;
            least = no_shorter valid turning.going.ready.start search d (λ m. omega (arith, ap (at D) turning.head, turning.level));
          }

  -- all edges of the state are near
  pub turning_done : at offsets (v + 1) ≤ i → Going ends marks offsets entries s best D K Q (h + 1) t
  turning_done l =
      record {
        ready = turning.going.ready;
        whole = turning.going.whole;
        search = head_done turning.going.search turning.some (rw turning.head (record { near = all }));
      }
    where
      all : (e : ℕ) → e < edges B → touches B e (x / 4) ≡ true → Near B (at D) x e
      all e m n =
          let p : Position offsets entries v e = turning.going.ready.lists.listed v e vertex m (rw turning.there at n) in
          rw (← p.holds) (turning.near p.at p.from (omega (arith, p.to)))

-- arrays of zeros are fresh
pub fresh_zeros : Fresh (replicate state_limit 0) (replicate state_limit 0) (replicate state_limit 0)
fresh_zeros =
    let long = length-replicate {A = ℕ} state_limit 0 in
    record { whole = record { depth = long; kept = long; queue = long }; none = λ y h. get_or-replicate {A = ℕ} state_limit y 0 0 h }
