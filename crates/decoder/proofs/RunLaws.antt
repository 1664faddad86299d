-- A run: the supports at the start, and growth until no cluster is odd. Assumes nothing.
use Prim.Native.Nat.{ℕ, suc, ◌*◌, ◌-◌, ◌≤◌, ◌<◌}
use mathlib.Core.Path.{◌≡◌, refl, sym, ap, ◌∙◌, subst, subst₂}
use mathlib.Core.Bool.{cond, not, ◌&&◌}
use mathlib.Core.List.{List, []}
use native.Mathlib.Omega.{arith}
use lib.ListN.{length, replicate, length-replicate}
use lib.Dec.{ltb}
use Rattle.std.specs.Prelude.{Some, None}
use Rattle.model.specs.Sums.{Set, ones, values}
use Rattle.model.specs.Board.{Board, Sheet, Inside, EndsWithin, unmarked, plain, vertex_limit, edge_limit}
use Rattle.model.specs.Components.{label}
use Rattle.model.specs.Growth.{start, full, clusters, swell, Policy, grow_from, grown}
use Rattle.model.specs.Decoding.{grown_by}
use Rattle.model.specs.Refusals.{edges_of}
use Rattle.model.proofs.ListLaws.{length_values, zero_everywhere}
use Rattle.model.proofs.EndLaws.{within_limit}
use Rattle.theory.proofs.GrowthRun.{Reached, begin, after, run_stops, run_grows}
use Rattle.theory.proofs.GrowthBound.{growth_left}
use Rattle.theory.proofs.Supports.{reached_supports, swell_cong}
use Rattle.theory.proofs.MarksAside.{unmarked_inside, swell_aside}
use Rattle.decoder.specs.declared.book.Book.{Book}
use Rattle.decoder.specs.declared.book.Grown.{Grown}
use Rattle.decoder.specs.declared.growing.Growth.{Growth}
use Rattle.std.specs.declared.ops.Range.{Range}
use Rattle.decoder.specs.Gains.{Supports, start_of}
use Rattle.decoder.specs.Figures.{Lows, name_of, odd_figure}
use Rattle.decoder.specs.Exposures.{Exposures}
use Rattle.decoder.specs.EndLists.{Unlisted, Listed}
use Rattle.decoder.specs.Rings.{Rings}
use Rattle.decoder.specs.Raising.{growers}
use Rattle.decoder.specs.Books.{parents_by, lows_of, TrueBook, Gathers, Growable, Grows}
use Rattle.decoder.specs.Growing.{policy_of, Follows, FollowsAll}
use Rattle.decoder.specs.Runs.{bare, Runnable, Runs}
use Rattle.decoder.proofs.NameLaws.{names_label, names_are}
use Rattle.decoder.proofs.Policies.{policy_feeds}

-- before any end is listed
pub none_listed : Unlisted (replicate vertex_limit 0) (replicate (2 * edge_limit) 0)
none_listed =
    record {
      none = λ v h. zero_everywhere vertex_limit v;
      latest_long = length-replicate {A = ℕ} vertex_limit 0;
      earlier_long = length-replicate {A = ℕ} (2 * edge_limit) 0;
    }

-- lost edges are full at the start, and no others
pub start_of_lost : (n : ℕ) (ends opened loss : List ℕ) → start_of loss ≡ start (unmarked n (length loss) ends opened) (ones loss)
unfolding start
start_of_lost n ends opened loss = ap (λ k. values k (λ e. cond (ones loss e) 2 0)) (sym (length-replicate {A = ℕ} (length loss) 0))

-- after g growths: the book is that of the supports, which growths that the policy names reached, with the rings of its clusters; and what is
-- left of the run ends where the whole run does
pub record Running (x : Growth) (n : ℕ) (ends opened syndrome loss : List ℕ) (s counts ring : List ℕ) (b : Book) (g : ℕ) : Type 0 where
  pub long : length s ≡ length loss
  pub book : TrueBook (unmarked n (length loss) ends opened) (ones syndrome) s b
  pub ends_left : Exposures (length loss) ends (full s) counts
  pub rings : Rings b.vertices (parents_by b) (lows_of b) counts ring
  pub reached : Reached (unmarked n (length loss) ends opened) (policy_of x (unmarked n (length loss) ends opened) (ones syndrome)) (ones loss) s g
  pub few : g ≤ 2 * length loss
  pub rest :
      grow_from (unmarked n (length loss) ends opened) (policy_of x (unmarked n (length loss) ends opened) (ones syndrome)) (2 * length loss - g) s g
      ≡ grown_by (policy_of x) (bare n ends opened syndrome loss)

module _ (x : Growth) (n : ℕ) (ends opened syndrome loss s₀ : List ℕ) (w : Runnable n ends opened syndrome loss s₀) where
  abbrev m : ℕ
  m = length loss

  abbrev B : Board
  B = unmarked n m ends opened

  abbrev S : Set
  S = ones syndrome

  abbrev X : Sheet
  X = bare n ends opened syndrome loss

  abbrev policy : Policy
  policy = policy_of x B S

  inside : Inside B
  inside = unmarked_inside w.lent

  -- The start

  pub listable : EndsWithin vertex_limit (edges_of ends) ends
  listable =
      let is : m ≡ edges_of ends = omega (arith, w.lent.two_ends) in
      within_limit (subst (λ k. EndsWithin n k ends) is w.lent)

  module _ (s : List ℕ) (lost : s ≡ start_of loss) where
    started_long : length s ≡ m
    started_long = ap length lost ∙ length_values (length loss) (λ e. cond (ones loss e) 2 0)

    starts : s ≡ start B (ones loss)
    starts = lost ∙ start_of_lost n ends opened loss

    started_lent : EndsWithin n (length s) ends
    started_lent = subst (λ k. EndsWithin n k ends) (sym started_long) w.lent

    pub countable : EndsWithin vertex_limit (length s) ends
    countable = within_limit started_lent

    module _ (counts : List ℕ) (counted : Exposures (length s) ends (full s) counts) where
      pub run_begins : (b : Book) (ring : List ℕ) → Gathers (unmarked n (length s) ends opened) S s counts b ring
          → Running x n ends opened syndrome loss s counts ring b 0
      unfolding grown_by grown
      run_begins b ring gathers =
          record {
            long = started_long;
            book = subst (λ k. TrueBook (unmarked n k ends opened) S s b) started_long gathers.book;
            ends_left = subst (λ k. Exposures k ends (full s) counts) started_long counted;
            rings = gathers.rings;
            reached = subst (λ z. Reached B policy (ones loss) z 0) (sym starts) begin;
            few = omega arith;
            rest =
                let all : 2 * m - 0 ≡ 2 * m = omega arith in
                ap (λ k. grow_from B policy k s 0) all
                ∙ ap (λ z. grow_from B policy (2 * m) z 0) starts
                ∙ ap (λ k. grow_from B policy (2 * k) (start B (ones loss)) 0) (sym (length-replicate m 0));
          }

  -- One growth

  module _ (s counts ring : List ℕ) (b : Book) (g : ℕ) (run : Running x n ends opened syndrome loss s counts ring b g) where
    -- no cluster is odd: the run ends here
    pub run_done : FollowsAll (policy_of x) n b.figure None → Runs (policy_of x) X (record { book = b; count = g }) s
    run_done none_follow =
        let end = sym (run_stops B policy (2 * m - g) s g (none_follow.each B S s refl inside run.book.figures)) ∙ run.rest in
        record { count = ap (λ y. y.count) end; supports = ap (λ y. y.support) end; book = run.book }

    -- some vertices grow
    module _ (r : Range ℕ) (all : FollowsAll (policy_of x) n b.figure (Some r)) where
      follows : Follows (policy_of x) B S s b.figure r
      follows = all.each B S s refl inside run.book.figures

      pub growths_left : g < 2 * m
      growths_left =
          omega (
            arith,
            growth_left B inside S (ones loss) policy (policy_feeds x B inside S) w.unlit w.none_odd run.reached follows.is,
            length-replicate {A = ℕ} m 0,
          )

      supports_here : Supports s
      supports_here =
          let y = reached_supports B policy (ones loss) run.reached in
          record { small = λ e h. y.bounded e (omega (arith, y.long)) }

      book_there : TrueBook (unmarked b.vertices (length s) ends opened) S s b
      book_there = subst₂ (λ i j. TrueBook (unmarked i j ends opened) S s b) (sym run.book.vertices) (sym run.long) run.book

      pub growable : (latest earlier filled : List ℕ) → Listed ends latest earlier → length filled ≡ edge_limit
          → Growable b ends latest earlier r s counts ring filled
      growable latest earlier filled lists room =
          record {
            lent = subst₂ (λ i j. EndsWithin i j ends) (sym run.book.vertices) (sym run.long) w.lent;
            lists = lists;
            ordered = omega (arith, follows.ordered);
            inside = omega (arith, follows.inside, run.book.vertices);
            supports = supports_here;
            room = room;
            counts = subst (λ k. Exposures k ends (full s) counts) (sym run.long) run.ends_left;
            rings = run.rings;
            opened = opened;
            lit = S;
            book = book_there;
          }

      -- what grows, by the names of the book's trees
      abbrev growing : Set
      growing = growers (name_of (parents_by b) (lows_of b)) b.figure r.start r.end

      -- a vertex's label is the name of its tree
      labelled : (v : ℕ) → v < n → label (clusters B s) v ≡ name_of (parents_by b) (lows_of b) v
      unfolding clusters
      labelled v h =
          let lows = subst (λ k. Lows k (parents_by b) (lows_of b)) run.book.vertices run.book.good.lows in
          ap (λ l. label l v) (names_are B (full s) inside run.book.mirrors lows) ∙ names_label n (parents_by b) (lows_of b) v h

      growing_is : (v : ℕ) → v < n → growing v ≡ follows.named v
      growing_is v h =
          ap (λ a. not (ltb a r.start) && (ltb a r.end && odd_figure b.figure a)) (sym (labelled v h))
          ∙ follows.grow v h

      module _ (made : Grown) (s' counts' ring' filled' : List ℕ) (grows : Grows b ends r s made s' counts' ring' filled') where
        swelled : s' ≡ swell B s follows.named
        swelled =
            grows.supports
            ∙ subst₂ (λ i j. swell (plain i j ends) s growing ≡ swell (plain n m ends) s growing) (sym run.book.vertices) (sym run.long) refl
            ∙ swell_aside n ends _ _ [] opened refl s growing
            ∙ swell_cong B inside s growing follows.named growing_is

        reaches : Reached B policy (ones loss) s' (suc g)
        reaches = subst (λ z. Reached B policy (ones loss) z (suc g)) (sym swelled) (after run.reached follows.is)

        pub run_more : Running x n ends opened syndrome loss s' counts' ring' made.book (suc g)
        run_more =
            record {
              long = (reached_supports B policy (ones loss) reaches).long ∙ length-replicate m 0;
              book = subst₂ (λ i j. TrueBook (unmarked i j ends opened) S s' made.book) run.book.vertices run.long (grows.book opened S book_there);
              ends_left = subst (λ k. Exposures k ends (full s') counts') run.long grows.counts;
              rings = grows.rings;
              reached = reaches;
              few = growths_left;
              rest = goes_on ∙ run.rest;
            }
          where
            -- one step of the run
            goes_on : grow_from B policy (2 * m - suc g) s' (suc g) ≡ grow_from B policy (2 * m - g) s g
            goes_on =
                let k : suc (2 * m - suc g) ≡ 2 * m - g = omega (arith, growths_left) in
                rw swelled (sym (run_grows B policy (2 * m - suc g) s g follows.named follows.is) ∙ ap (λ z. grow_from B policy z s g) k)
