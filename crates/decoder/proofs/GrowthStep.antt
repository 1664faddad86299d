-- Clusters grow on the book: the supports are document 01's; once the newly full edges are shut, the figures are true of these supports; and
-- the book with these edges fused is that of the supports. The rings are those of its clusters. Assumes nothing.
use Prim.Native.Nat.{ℕ, ◌+◌, ◌*◌, ◌≤◌, ◌<◌, min}
use mathlib.Core.Path.{◌≡◌, refl, sym, ap, ◌∙◌, subst}
use mathlib.Core.Bool.{true, not, ◌&&◌, ◌||◌}
use mathlib.Core.List.{List}
use native.Mathlib.Decide.{ℕ_discrete}
use native.Mathlib.Omega.{arith}
use borrow.Author.Tests.{ltb-true}
use lib.ListN.{length, get_or, take, length-replicate}
use lib.Dec.{eqb}
use Rattle.std.proofs.lemmas.List.{length-take, get_or-take}
use Rattle.model.specs.Sums.{Set, bit}
use Rattle.model.specs.Board.{Board, edge_limit, first_end, second_end, unmarked, plain}
use Rattle.model.specs.Growth.{full, clusters, swell}
use Rattle.model.proofs.SumLaws.{count_bound, some_cong}
use Rattle.model.proofs.ListLaws.{values_are}
use Rattle.theory.proofs.Components.{labels_cong}
use Rattle.theory.proofs.MarksAside.{unmarked_inside}
use Rattle.union_find.specs.Trees.{at}
use Rattle.union_find.specs.Joining.{Mirrors}
use Rattle.decoder.specs.declared.book.Book.{Book}
use Rattle.std.specs.declared.ops.Range.{Range}
use Rattle.decoder.specs.Gains.{with_listed, Raised}
use Rattle.decoder.specs.Raising.{growers, ends_of, Raisable, Raises}
use Rattle.decoder.specs.Rings.{Rings}
use Rattle.decoder.specs.Figures.{names_by, Lows, name_of, names, even_mark, odd_figure, Figured}
use Rattle.decoder.specs.Exposures.{Exposures, counted}
use Rattle.decoder.specs.Shutting.{NewlyListed, ListShuttable, ListShut}
use Rattle.decoder.specs.Books.{parents_by, lows_of, Good, own_labels, TrueBook, BothKept, FusesListed, Growable, Grows}
use Rattle.decoder.proofs.NameLaws.{names_label, names_are}
use Rattle.decoder.proofs.EndCounts.{ends_cong, counted_fewer}
use Rattle.decoder.proofs.RingLaws.{rings_fewer}
use Rattle.decoder.proofs.Figuring.{beside, beside_small, figured_sized, sized_figured}
use Rattle.decoder.proofs.Fusing.{fuse_none}

module _ (b : Book) (ends latest earlier : List ℕ) (r : Range ℕ) (s x ring lent : List ℕ) (g : Growable b ends latest earlier r s x ring lent) where
  abbrev B : Board
  B = plain b.vertices (length s) ends

  -- what grows
  abbrev R : Set
  R = growers (name_of (parents_by b) (lows_of b)) b.figure r.start r.end

  -- the clusters of the supports are the book's own
  own : (opened : List ℕ) (S : Set) → TrueBook (unmarked b.vertices (length s) ends opened) S s b
      → clusters (unmarked b.vertices (length s) ends opened) s ≡ own_labels b
  unfolding clusters
  own opened S w =
      names_are (unmarked b.vertices (length s) ends opened) (full s) (unmarked_inside g.lent) w.mirrors w.good.lows

  own_figured : (opened : List ℕ) (S : Set) → TrueBook (unmarked b.vertices (length s) ends opened) S s b
      → Figured (unmarked b.vertices (length s) ends opened) S s (own_labels b) b.figure
  own_figured opened S w =
      subst (λ l. Figured (unmarked b.vertices (length s) ends opened) S s l b.figure) (own opened S w) w.figures

  -- an odd figure stands by no number but a name
  pub odd_leads : (a : ℕ) → a < b.vertices → odd_figure b.figure a ≡ true → name_of (parents_by b) (lows_of b) a ≡ a
  odd_leads a h odd = elim (ℕ_discrete (name_of (parents_by b) (lows_of b) a) a) [
    | yes q ↦ q
    | no q ↦
        omega (
          arith,
          ltb-true (at b.figure a) even_mark odd,
          (own_figured g.opened g.lit g.book).kept.others a (omega (arith, g.lent.vertices_limited))
              (λ lead. q (sym (names_label b.vertices (parents_by b) (lows_of b) a h) ∙ lead.own)),
        )
  ]

  abbrev pub raisable : Raisable latest earlier b.figure r x ring s lent
  raisable =
      record {
        vertices = b.vertices;
        parent = parents_by b;
        low = lows_of b;
        ends = ends;
        lent = g.lent;
        lists = g.lists;
        supports = g.supports;
        room = g.room;
        counts = g.counts;
        lows = g.book.good.lows;
        rings = g.rings;
        figures_long = g.book.good.figures_long;
        leads = odd_leads;
        ordered = g.ordered;
        inside = g.inside;
      }

  module _ (count : ℕ) (ring₁ s' filled : List ℕ)
      (t : Raises latest earlier b.figure r x ring s lent count ring₁ s' filled) where
    pub raised : Raised s (ends_of ends R) s' filled count
    raised = (t.each raisable).raised

    -- the supports are document 01's
    swelled : s' ≡ swell B s R
    unfolding swell
    swelled =
        values_are (length B.marks) (λ e. min 2 (get_or s e 0 + bit (R (first_end B e)) + bit (R (second_end B e)))) s' (raised.long ∙ sym many)
        (λ e h. raised.each e (omega (arith, many)) ∙ omega arith)
      where
        many : length B.marks ≡ length s
        many = length-replicate {A = ℕ} (length s) 0

    pub few_listed : count ≤ edge_limit
    few_listed = omega (arith, raised.count_is, count_bound (length s) (λ e. full s' e && not (full s e)), g.lent.edges_limited)

    -- Shutting

    -- the listed edges are the first `count` entries
    abbrev pub those : List ℕ
    those = take count filled

    those_many : length those ≡ count
    those_many = omega (arith, length-take count filled, few_listed, raised.room)

    same : (i : ℕ) → i < length those → get_or those i 0 ≡ get_or filled i 0
    same i h = get_or-take count filled i 0 (omega (arith, those_many))

    pub edges_listed : (i : ℕ) → i < length those → get_or those i 0 < length s
    edges_listed i h = rw (same i h) (raised.edges i (omega (arith, those_many)))

    newly : NewlyListed (length s) (full s) those (length those)
    newly =
        record {
          few = omega (arith, few_listed, those_many);
          edges = edges_listed;
          outside = λ i h. rw (same i h) (raised.outside i (omega (arith, those_many)));
          distinct = λ i j h l. rw (same i (omega arith), same j l) (raised.distinct i j h (omega (arith, those_many)));
        }

    becomes_full : (e : ℕ) → e < length s → full s' e ≡ with_listed (full s) (length those) those e
    becomes_full e h =
        raised.becomes_full e h
        ∙ ap (λ k. with_listed (full s) k filled e) (sym those_many)
        ∙ ap (λ t. full s e || t)
        (some_cong (length those) (λ i. eqb (get_or filled i 0) e) (λ i. eqb (get_or those i 0) e) (λ i l. ap (λ y. eqb y e) (sym (same i l))))

    module _ (opened : List ℕ) (S : Set) (w : TrueBook (unmarked b.vertices (length s) ends opened) S s b) where
      abbrev C : Board
      C = unmarked b.vertices (length s) ends opened

      abbrev listable : ListShuttable (parents_by b) (lows_of b) ends those (length those) x b.figure
      listable =
          record {
            vertices = b.vertices;
            named = record {
              rooted = record { size = w.good.packed.size; climbs = w.good.packed.trees.climbs };
              lows = w.good.lows;
              long = w.good.figures_long;
            };
            edges = length s;
            lent = g.lent;
            full = full s;
            fresh = newly;
            counts = g.counts;
            told = refl;
            rest = beside C S (own_labels b);
            small = beside_small C S (own_labels b);
            figures =
                figured_sized b.vertices (length s) ends opened g.lent.vertices_limited S s x (own_labels b) b.figure g.counts
                (own_figured opened S w);
          }

      module _ (x' figure : List ℕ) (shut : ListShut (parents_by b) (lows_of b) ends those (length those) x b.figure x' figure) where
        counts_after : Exposures (length s) ends (full s') x'
        counts_after =
            ends_cong (length s) ends (with_listed (full s) (length those) those) (full s') x' (λ e h. sym (becomes_full e h)) (shut.each listable).counts

        -- the figures of the clusters that are not fused yet are true of the new supports
        shut_figured : Figured C S s' (names b.vertices (parents_by b) (names_by figure)) figure
        shut_figured =
            rw (shut.each listable).told
            (sized_figured b.vertices (length s) ends opened g.lent.vertices_limited S s' x' (own_labels b) figure counts_after
            (shut.each listable).figures)

        -- no name has changed
        told_still : names_by figure ≡ lows_of b
        told_still = (shut.each listable).told

        shut_good : Good (record { vertices = b.vertices; tree = b.tree; figure = figure })
        shut_good = record { packed = w.good.packed; lows = rw told_still w.good.lows; figures_long = (shut.each listable).long }

    -- Fusing

    pub growable_listed : ListShuttable (parents_by b) (lows_of b) ends those (length those) x b.figure
    growable_listed = listable g.opened g.lit g.book

    module _ (x' figure : List ℕ) (shut : ListShut (parents_by b) (lows_of b) ends those (length those) x b.figure x' figure) where
      abbrev shut_book : Book
      shut_book = record { vertices = b.vertices; tree = b.tree; figure = figure }

      pub shut_begins : FusesListed shut_book ends those 0 shut_book
      shut_begins = fuse_none shut_book ends those (shut_good g.opened g.lit g.book x' figure shut)

      -- no further vertex has a count after shutting, so the rings are as good
      pub shut_rings : Rings b.vertices (parents_by b) (names_by figure) x' ring₁
      shut_rings = rw (told_still g.opened g.lit g.book x' figure shut) (rings_fewer fewer (t.each raisable).rings)
        where
          still : (e : ℕ) → e < length s → full s e ≡ true → full s' e ≡ true
          still e h p = becomes_full e h ∙ rw p

          fewer : (v : ℕ) → v < b.vertices → counted x' v ≡ true → counted x v ≡ true
          fewer v h =
              counted_fewer (length s) ends (full s) (full s') x x' still g.counts (counts_after g.opened g.lit g.book x' figure shut) v
              (omega (arith, g.lent.vertices_limited))

      -- the next listed edge may be fused
      pub next_kept : (k : ℕ) (now : Book) → FusesListed shut_book ends those k now → k < length those → (u v : ℕ) → u ≡ get_or ends (2 * get_or those k 0) 0
          → v ≡ get_or ends (2 * get_or those k 0 + 1) 0 → BothKept now u v
      next_kept k now f h u v p q =
          record {
            good = f.good;
            first = omega (arith, f.vertices, g.lent.first_in_range (get_or those k 0) (edges_listed k h));
            second = omega (arith, f.vertices, g.lent.second_in_range (get_or those k 0) (edges_listed k h));
          }

      -- the full edges are those before and the listed ones
      pub grows : (now : Book) (ring' : List ℕ) → FusesListed shut_book ends those (length those) now
          → Rings now.vertices (parents_by now) (lows_of now) x' ring'
          → Grows b ends r s (record { book = now; filled = count }) s' x' ring' filled
      unfolding clusters
      grows now ring' f rings =
          record {
            supports = swelled;
            book = λ opened S w. book_after opened S w;
            counts = counts_after g.opened g.lit g.book x' figure shut;
            rings = rings;
            filled = raised.count_is;
            room = raised.room;
          }
        where
          book_after : (opened : List ℕ) (S : Set) → TrueBook (unmarked b.vertices (length s) ends opened) S s b
              → TrueBook (unmarked b.vertices (length s) ends opened) S s' now
          book_after opened S w =
              let A = unmarked b.vertices (length s) ends opened in
              let lows = subst (λ i. Lows i (parents_by now) (lows_of now)) f.vertices f.good.lows in
              let all : Mirrors b.vertices (parents_by now) (clusters A s') =
              rw (labels_cong A (full s') (with_listed (full s) (length those) those)
              (λ e h. becomes_full e (omega (arith, length-replicate {A = ℕ} (length s) 0))))
              (f.each (length s) opened (full s) g.lent edges_listed w.mirrors) in
              record {
                vertices = f.vertices;
                good = f.good;
                mirrors = all;
                figures =
                    rw (names_are A (full s') (unmarked_inside g.lent) all lows)
                    (subst (λ i. Figured A S s' (names i (parents_by now) (lows_of now)) now.figure) f.vertices
                    (f.true_still.figures A S s' refl (shut_figured opened S w x' figure shut)));
              }
