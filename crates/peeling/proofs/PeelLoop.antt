-- The loop of `peel`: what each of its calls asks, and what its turns leave. Assumes nothing.
use Prim.Native.Nat.{ℕ, suc, ◌+◌, ◌-◌, ◌≤◌, ◌<◌}
use mathlib.Core.Path.{◌≡◌, sym, ap, ◌∙◌, subst}
use mathlib.Core.Bool.{Bool, false}
use mathlib.Core.List.{List}
use native.Mathlib.Decide.{dec_lt}
use native.Mathlib.Omega.{arith}
use lib.ListN.{length, replicate, length-replicate, get_or-replicate, get_or-eq_default}
use Rattle.model.specs.Sums.{Set, bit, ones, count_up_to}
use Rattle.model.specs.Board.{Board, edges, plain, vertex_limit}
use Rattle.model.specs.Growth.{full, clusters}
use Rattle.model.specs.Syndrome.{HasOddEnds}
use Rattle.model.specs.Forest.{forest}
use Rattle.model.proofs.Bits.{bit_bound}
use Rattle.model.proofs.ListLaws.{values_are}
use Rattle.theory.proofs.Corrections.{spanned_in_forest, spanned_has_ends}
use Rattle.theory.proofs.Forests.{Within}
use Rattle.theory.proofs.MarksAside.{unmarked_inside}
use Rattle.union_find.specs.Trees.{at}
use Rattle.peeling.specs.TreeFlips.{odd_below, AllFlippable, AllFlipped}
use Rattle.peeling.specs.Links.{HungBy, place, Spans}
use Rattle.peeling.specs.Peeling.{Cuttable, Cuts, Clears, Peelable, correction_of, Peels}
use Rattle.peeling.proofs.FlipLaws.{still_flippable}
use Rattle.peeling.proofs.CutLaws.{marked_long}
use Rattle.peeling.proofs.PeelLaws.{Peeling, peeling_start, peeling_next, Reached, last, done, reach}

-- a fresh array of parities
fresh_below : (k z : ℕ) → odd_below (replicate k false) z ≡ false
fresh_below k z =
    elim (dec_lt z k) [
      | yes h ↦ get_or-replicate k z false false h
      | no h ↦ get_or-eq_default (replicate k false) false (rw (length-replicate {A = Bool} k false) (omega arith))
    ]

-- the board has an edge for each byte of the support
edge_count : (vertices : ℕ) (ends support : List ℕ) → edges (plain vertices (length support) ends) ≡ length support
edge_count vertices ends support = length-replicate (length support) 0

-- all but k edges of the forest are cut: those from some edge on, below which there are k
pub record PeelingFrom (vertices : ℕ) (ends support odd_ends p : List ℕ) (written : List ℕ) (below : List Bool) (k count : ℕ) : Type 0 where
  pub edge : ℕ
  pub within : edge ≤ length support
  pub left : k ≡ place (plain vertices (length support) ends) (full support) edge
  pub long : length written ≡ length support
  pub small : count + k ≤ vertex_limit
  pub flippable : AllFlippable vertices p below
  pub state : Peeling (plain vertices (length support) ends) (correction_of vertices ends support odd_ends) p edge below written count

module _ {vertices : ℕ} {ends support odd_ends lent p taken links : List ℕ} {listed : ℕ} (w : Peelable vertices ends support odd_ends lent)
    (t : Spans vertices ends support listed p taken links) where
  abbrev B : Board
  B = plain vertices (length support) ends

  abbrev D : Set
  D = correction_of vertices ends support odd_ends

  fresh_flippable : (k : ℕ) → vertices ≤ k → AllFlippable vertices p (replicate k false)
  fresh_flippable k h =
      record { size = t.size; climbs = t.trees.climbs; room = rw (length-replicate {A = Bool} k false) h }

  -- The loop begins

  has_ends : HasOddEnds B D (ones odd_ends)
  unfolding clusters
  has_ends = spanned_has_ends _ (unmarked_inside w.board) (full support) (ones odd_ends) (record { even = w.even.even })

  pub from_start : {below : List Bool} {written : List ℕ} (k : ℕ) → vertices ≤ k
      → AllFlipped p (length odd_ends) (ones odd_ends) (replicate k false) below → Clears lent written
      → PeelingFrom vertices ends support odd_ends p written below listed 0
  from_start {below} {written} k h all zeros =
      let lengths = w.correction_bytes ∙ sym (edge_count vertices ends support) in
      record {
        edge = length support;
        within = omega arith;
        left = t.listed.counted;
        long = zeros.same_length ∙ w.correction_bytes;
        small = omega (arith, t.limit);
        flippable = still_flippable (fresh_flippable k h) all.same_length;
        state =
            subst (λ e. Peeling B D p e below written 0) (edge_count vertices ends support)
            (peeling_start B D (ones odd_ends) p (replicate k false) below written has_ends (fresh_below k)
            (rw w.end_bytes at all) (rw lengths at zeros.clear));
      }

  -- A turn of the loop

  in_forest : Within B D (forest B (full support))
  in_forest = spanned_in_forest B (full support) (ones odd_ends)

  reached : {written : List ℕ} {below : List Bool} {k count : ℕ} → PeelingFrom vertices ends support odd_ends p written below k count
      → Reached B (full support) D p below written count k
  reached {k = k} s =
      reach B (unmarked_inside w.board) (full support) D in_forest s.edge k
      (omega (arith, s.within, edge_count vertices ends support)) s.left s.state

  -- the next edge that is cut, and its link
  pub record Due (written : List ℕ) (below : List Bool) (k count edge link : ℕ) : Type 0 where
    pub within : edge < length support
    pub left : k ≡ place B (full support) edge + 1
    pub hung : HungBy B (full support) p edge link
    pub state : Peeling B D p (suc edge) below written count

  module _ {written : List ℕ} {below : List Bool} {k count : ℕ} (s : PeelingFrom vertices ends support odd_ends p written below k count)
      (some : 0 < k) where
    -- it is the last of the list's first k
    pub due : Due written below k count (at taken (k - 1)) (at links (k - 1))
    due = go (reached s)
      where
        go : Reached B (full support) D p below written count k → Due written below k count (at taken (k - 1)) (at links (k - 1))
        go (done none state) = absurd (omega arith)
        go (last e h q left state) =
            let i : k - 1 ≡ place B (full support) e = omega (arith, left) in
            let inside : e < length support = omega (arith, h, edge_count vertices ends support) in
            let stands = t.listed.each e inside q in
            rw (i, stands.edge) (record { within = inside; left = left; hung = stands.link; state = state })

    pub from_cuttable : Cuttable ends p below written (at taken (k - 1)) (at links (k - 1))
    from_cuttable =
        record {
          vertices = vertices;
          board = rw s.long w.board;
          edge = rw s.long due.within;
          flippable = s.flippable;
          vertex = due.hung.vertex;
        }

    pub from_next : {c : Bool} {count' : ℕ} {below' : List Bool} {written' : List ℕ}
        → Cuts ends p below written (at taken (k - 1)) (at links (k - 1)) c below' written' → count' ≡ count + bit c
        → PeelingFrom vertices ends support odd_ends p written' below' (k - 1) count'
    from_next {c} {count'} {below'} {written'} cuts more =
        let all = edge_count vertices ends support in
        record {
          edge = at taken (k - 1);
          within = omega (arith, due.within);
          left = omega (arith, due.left);
          long = ap length cuts.bytes_are ∙ marked_long (odd_below below (at links (k - 1))) (at taken (k - 1)) written ∙ s.long;
          small = omega (arith, s.small, more, bit_bound c);
          flippable = still_flippable s.flippable cuts.same_length;
          state =
              rw more
              (peeling_next B (unmarked_inside w.board) (full support) D in_forest (omega (arith, due.within, all)) (s.long ∙ sym all)
              due.hung cuts due.state);
        }

  -- The loop ends

  pub from_done : {written : List ℕ} {below : List Bool} {count : ℕ} → PeelingFrom vertices ends support odd_ends p written below 0 count
      → Peels vertices ends support odd_ends count written
  unfolding count_up_to
  from_done {written} {below} {count} s = go (reached s)
    where
      all : edges B ≡ length support
      all = edge_count vertices ends support

      go : Reached B (full support) D p below written count 0 → Peels vertices ends support odd_ends count written
      go (last e h q left state) = absurd (omega (arith, left))
      go (done none state) =
          record {
            count = omega (arith, rw all at state.counted);
            bytes_are = values_are (length support) (λ e. bit (D e)) written s.long (λ e h. state.bits e (omega arith) (omega (arith, h, all)));
          }
