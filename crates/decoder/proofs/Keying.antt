-- The pieces of a key put together: each way out of `key` is that of the definitions. Assumes nothing.
use Prim.Native.Nat.{ℕ, ◌≤◌, ◌<◌}
use mathlib.Core.Path.{◌≡◌, refl, sym, ap, ◌∙◌, subst}
use mathlib.Core.Bool.{false, ◌&&◌}
use mathlib.Core.List.{List, []}
use mathlib.Core.Option.{none}
use native.Mathlib.Omega.{arith}
use lib.ListN.{length, take, length-take, length-replicate}
use lib.Seq.{get_or-take}
use lib.Dec.{eqb}
use Rattle.model.specs.declared.numbers.Vertex.{Vertex}
use Rattle.model.specs.declared.refusal.Refusal.TheVariants.{NoCorrection}
use Rattle.model.specs.Sums.{Set, bit, ones, bytes, count_up_to}
use Rattle.model.specs.Board.{Board, Sheet, edges, EndsWithin, Inside, Unlit, unmarked, plain}
use Rattle.model.specs.Components.{label, within}
use Rattle.model.specs.Growth.{start, full, clusters, oddly_lit, Policy}
use Rattle.model.specs.Correction.{spanned, odd_ends, correction}
use Rattle.model.specs.Decoding.{smallest_odd, grown_by, peeled}
use Rattle.model.specs.Refusals.{edges_of}
use Rattle.model.proofs.SumLaws.{odd_cong, count_none}
use Rattle.model.proofs.ListLaws.{ones_bytes, values_are}
use Rattle.board.specs.Checks.{vertex_found}
use Rattle.board.specs.Bounds.{Bounded, entry}
use Rattle.board.proofs.Bounding.{none_one}
use Rattle.theory.proofs.MarksAside.{unmarked_inside, clusters_aside, spanned_aside}
use Rattle.theory.proofs.Corrections.{spanned_cong}
use Rattle.theory.proofs.OddEnds.{ends_even, ends_labelled}
use Rattle.theory.proofs.Syndromes.{Sealed}
use Rattle.theory.proofs.WithoutOpen.{sealed_odd_ends}
use Rattle.theory.proofs.Supports.{reached_supports}
use Rattle.theory.proofs.Decodings.{odd_answer, even_answer, key_reached, key_even}
use Rattle.theory.proofs.GrowthRun.{NoneOdd, Feeds}
use Rattle.theory.proofs.NothingLit.{no_odd_part, nothing_grows, nothing_corrected}
use Rattle.union_find.specs.Trees.{Rooted}
use Rattle.parts.specs.Searchable.{Searchable}
use Rattle.peeling.specs.Peeling.{Clears, EvenClusters, Peelable, correction_of, Peels}
use Rattle.decoder.specs.declared.book.Book.{Book}
use Rattle.decoder.specs.declared.growing.Growth.{Growth}
use Rattle.decoder.specs.declared.growth.Ran.{Ran}
use Rattle.decoder.specs.Growing.{policy_of}
use Rattle.decoder.specs.Gains.{start_of}
use Rattle.decoder.specs.Figures.{Lows}
use Rattle.decoder.specs.TreeLabels.{Nameable, Labelled}
use Rattle.decoder.specs.OddEnds.{vertex_board, Markable, MarksEnds}
use Rattle.decoder.specs.Books.{parents_by, lows_of}
use Rattle.decoder.specs.Runs.{bare, Runnable, Runs}
use Rattle.std.specs.Prelude as rust
use Rattle.std.specs.Prelude.{Ok, Err, Some, None}
use Rattle.decoder.specs.Keys.{Keyable, solved_or_none, Keys, solved_with}
use Rattle.decoder.proofs.NameLaws.{names_label, names_are}
use Rattle.decoder.proofs.Policies.{policy_feeds}
use Rattle.decoder.proofs.RunLaws.{start_of_lost}

module _ (x : Growth) (n : ℕ) (ends opened syndrome loss support written : List ℕ) (w : Keyable n ends opened syndrome loss support written) where
  abbrev m : ℕ
  m = length loss

  abbrev board : Board
  board = unmarked n m ends opened

  abbrev sheet : Sheet
  sheet = bare n ends opened syndrome loss

  range : Inside board
  range = unmarked_inside w.lent

  abbrev policy : Board → Set → Policy
  policy = policy_of x

  halves : edges_of ends ≡ m
  halves = omega (arith, w.lent.two_ends)

  feeds : Feeds board (ones syndrome) (policy board (ones syndrome))
  feeds = policy_feeds x board range (ones syndrome)

  -- Nothing is lit

  module _ {top : ℕ} (bound : Bounded (length syndrome) (entry syndrome) top) (zero : top ≡ 0) where
    dark : (v : ℕ) → v < n → ones syndrome v ≡ false
    dark v h = none_one syndrome bound zero v (omega (arith, w.lit.count))

    still : grown_by policy sheet ≡ record { support = start board (ones loss); count = 0 }
    unfolding grown_by
    still = nothing_grows board (ones syndrome) dark (policy board (ones syndrome)) feeds (ones loss)

    empty : (e : ℕ) → peeled sheet (grown_by policy sheet) e ≡ false
    unfolding peeled
    empty = nothing_corrected board (full (grown_by policy sheet).support) (ones syndrome) dark

    pub unlit_keyed : (s k : List ℕ) → s ≡ start_of loss → Clears written k → Keys policy sheet support written (solved_with 0 0) s k
    unfolding solved_or_none
    unlit_keyed s k lost clears =
        let D = peeled sheet (grown_by policy sheet) in
        let many = length-replicate {A = ℕ} m 0 in
        record {
          result =
              ap (λ g. solved_with g 0) (sym (ap (λ y. y.count) still))
              ∙ ap (solved_with (grown_by policy sheet).count) (sym (count_none (edges board) D (λ e h. empty e)))
              ∙ sym (even_answer Err _ sheet (no_odd_part board (ones syndrome) dark));
          support_bytes = lost ∙ start_of_lost n ends opened loss ∙ sym (ap (λ y. y.support) still);
          correction_bytes =
              values_are (edges board) (λ e. bit (D e)) k (clears.same_length ∙ w.correction_long ∙ sym many)
              (λ e h. clears.clear.each e (omega (arith, many, w.correction_long)) ∙ sym (ap bit (empty e)));
        }

  -- Number 10

  pub searchable : Searchable n ends opened syndrome
  searchable =
      record { board = subst (λ k. EndsWithin n k ends) (sym halves) w.lent; open_bytes = w.open_bytes; bytes = w.lit }

  module _ (y : rust.Option Vertex) (found : vertex_found y ≡ smallest_odd (unmarked n (edges_of ends) ends opened) (ones syndrome)) where
    smallest : smallest_odd board (ones syndrome) ≡ vertex_found y
    smallest = sym (found ∙ ap (λ k. smallest_odd (unmarked n k ends opened) (ones syndrome)) halves)

    pub shows_odd : (v : Vertex) → y ≡ Some v → Keys policy sheet support written (Err (NoCorrection v)) support written
    unfolding solved_or_none
    shows_odd v is =
        record {
          result = sym (odd_answer Err _ sheet v.0 (smallest ∙ ap vertex_found is));
          support_bytes = refl;
          correction_bytes = refl;
        }

    module _ (nothing : y ≡ None) where
      none_odd : smallest_odd board (ones syndrome) ≡ none
      none_odd = smallest ∙ ap vertex_found nothing

      -- Growth

      pub runnable : Runnable n ends opened syndrome loss support
      runnable =
          record {
            lent = w.lent;
            open_bytes = w.open_bytes;
            lit = w.lit.count;
            long = w.support_long;
            unlit = w.unlit;
            none_odd = none_odd;
          }

      module _ (r : Ran) (s' : List ℕ) (ran : Runs policy sheet r s') where
        grown_long : length s' ≡ m
        grown_long =
            ap length ran.supports
            ∙ (reached_supports board (policy board (ones syndrome)) (ones loss) (key_reached policy sheet)).long
            ∙ length-replicate m 0

        abbrev l : List ℕ
        l = clusters board s'

        -- Peeling, where the bytes are the odd ends of the definitions

        module _ (front : List ℕ) (long : length front ≡ n) (ends_are : (v : ℕ) → v < n → ones front v ≡ odd_ends board l (ones syndrome) v) where
          -- Peeling: growth has left no cluster odd

          none_left : NoneOdd board l (ones syndrome)
          none_left =
              subst (λ z. NoneOdd board (clusters board z) (ones syndrome)) (sym ran.supports) (key_even policy sheet range w.unlit feeds none_odd)

          even : EvenClusters (plain n m ends) s' front
          unfolding oddly_lit
          even =
              record {
                even = λ a h.
                    ap (λ z. oddly_lit board z (ones front) a) (clusters_aside n ends _ _ [] opened refl s')
                    ∙ odd_cong n (λ v. ones front v && within l a v) (λ v. odd_ends board l (ones syndrome) v && within l a v)
                    (λ v k. ap (λ t. t && within l a v) (ends_are v k))
                    ∙ (ends_even board l (ones syndrome) none_left).even a h;
              }

          pub peelable_by : Peelable n ends s' front written
          peelable_by =
              record {
                board = subst (λ k. EndsWithin n k ends) (sym grown_long) w.lent;
                end_bytes = long;
                correction_bytes = w.correction_long ∙ sym grown_long;
                even = subst (λ k. EvenClusters (plain n k ends) s' front) (sym grown_long) even;
              }

          abbrev corrected : Set
          corrected = peeled sheet (grown_by policy sheet)

          correction_is : correction_of n ends s' front ≡ corrected
          unfolding peeled correction clusters
          correction_is =
              ap (λ k. spanned (plain n k ends) (full s') (ones front)) grown_long
              ∙ spanned_aside n ends _ _ [] opened refl (full s') (ones front)
              ∙ spanned_cong board (full s') (ones front) (ones (bytes n (odd_ends board l (ones syndrome))))
              (λ v h. ends_are v h ∙ sym (ones_bytes n (odd_ends board l (ones syndrome)) v h))
              ∙ ap (λ z. correction board (full z) (ones syndrome)) ran.supports

          edge_count : length s' ≡ length board.marks
          edge_count = grown_long ∙ sym (length-replicate m 0)

          pub keyed_by : (e : ℕ) (k : List ℕ) → Peels n ends s' front e k → Keys policy sheet support written (solved_with r.count e) s' k
          unfolding solved_or_none
          keyed_by e k peels =
              record {
                result =
                    ap (λ z. solved_with z e) ran.count
                    ∙ ap (solved_with (grown_by policy sheet).count) (peels.count ∙ ap (λ D. count_up_to (length s') D) correction_is ∙ ap (λ i. count_up_to i corrected) edge_count)
                    ∙ sym (even_answer Err _ sheet none_odd);
                support_bytes = ran.supports;
                correction_bytes = peels.bytes_are ∙ ap (bytes (length s')) correction_is ∙ ap (λ i. bytes i corrected) edge_count;
              }

        -- The odd ends of a board without open vertices: the syndrome

        module _ {top : ℕ} (bound : Bounded (length opened) (entry opened) top) (zero : top ≡ 0) where
          sealed : Sealed board
          sealed = record { shut = λ v h. none_one opened bound zero v (omega (arith, w.open_bytes)) }

          syndrome_ends : (v : ℕ) → v < n → ones syndrome v ≡ odd_ends board l (ones syndrome) v
          syndrome_ends v h = sym (sealed_odd_ends board sealed l (ones syndrome) v h)

          pub sealed_peelable : Peelable n ends s' syndrome written
          sealed_peelable = peelable_by syndrome w.lit.count syndrome_ends

          pub sealed_keyed : (e : ℕ) (k : List ℕ) → Peels n ends s' syndrome e k → Keys policy sheet support written (solved_with r.count e) s' k
          sealed_keyed = keyed_by syndrome w.lit.count syndrome_ends

        -- The odd ends, by the labels of the book

        abbrev b : Book
        b = r.book

        lows_there : Lows n (parents_by b) (lows_of b)
        lows_there = subst (λ k. Lows k (parents_by b) (lows_of b)) ran.book.vertices ran.book.good.lows

        pub nameable : Nameable n (parents_by b) (lows_of b)
        nameable =
            record {
              rooted = subst (λ k. Rooted k (parents_by b)) ran.book.vertices (record { size = ran.book.good.packed.size; climbs = ran.book.good.packed.trees.climbs });
              lows = lows_there;
            }

        module _ (names : List ℕ) (named : Labelled n (parents_by b) (lows_of b) names) where
          pub markable : Markable names opened syndrome
          markable =
              record {
                labelled = record {
                  few = omega (arith, w.lit.count, w.lent.vertices_limited);
                  inside = λ v h.
                      let below : v < n = omega (arith, w.lit.count) in
                      omega (arith, named.each v below, lows_there.below v below, w.lent.vertices_limited);
                };
                open_bytes = w.open_bytes ∙ sym w.lit.count;
                unlit = subst (λ k. Unlit (vertex_board k opened) (ones syndrome)) (sym w.lit.count) w.unlit;
              }

          -- they are the labels of the clusters
          labels_are : (v : ℕ) → v < n → label names v ≡ label (clusters board s') v
          unfolding clusters
          labels_are v h =
              named.each v h
              ∙ sym (ap (λ l. label l v) (names_are board (full s') range ran.book.mirrors lows_there) ∙ names_label n (parents_by b) (lows_of b) v h)

          module _ (lit : List ℕ) (marks : MarksEnds (length syndrome) names opened syndrome lit) where
            abbrev front : List ℕ
            front = take n lit

            front_fits : n ≤ length lit
            front_fits = omega (arith, marks.long, w.lent.vertices_limited)

            pub front_long : length front ≡ n
            front_long = omega (arith, length-take n lit, front_fits)

            -- the bytes are the odd ends of the definitions
            ends_are : (v : ℕ) → v < n → ones front v ≡ odd_ends board l (ones syndrome) v
            unfolding odd_ends oddly_lit
            ends_are v h =
                ap (λ x. eqb x 1) (get_or-take n lit v 0 h)
                ∙ (subst (λ k. MarksEnds k names opened syndrome lit) w.lit.count marks).at v h
                ∙ ends_labelled board names l (ones syndrome) labels_are v h

            pub peelable : Peelable n ends s' front written
            peelable = peelable_by front front_long ends_are

            pub keyed : (e : ℕ) (k : List ℕ) → Peels n ends s' front e k → Keys policy sheet support written (solved_with r.count e) s' k
            keyed = keyed_by front front_long ends_are
