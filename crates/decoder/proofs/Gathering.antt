-- The start: every vertex alone with its own figure, then the full edges fused one after the other, so that the trees mirror the labels by
-- the full edges passed. Assumes nothing.
use Prim.Native.Nat.{ℕ, suc, ◌+◌, ◌*◌, ◌<◌}
use mathlib.Core.Path.{◌≡◌, sym, ap, ◌∙◌, subst}
use mathlib.Core.Logic.{◌≢◌}
use mathlib.Core.Bool.{true, false, ◌&&◌, and-false, and-true}
use mathlib.Core.List.{List}
use native.Mathlib.Omega.{arith}
use borrow.Author.Tests.{eq-eqb, ne_eqb}
use lib.ListN.{length, get_or, length-replicate}
use Rattle.model.specs.Sums.{Set, bit, ones}
use Rattle.model.specs.Board.{Board, unmarked, is_open}
use Rattle.model.specs.Components.{label, within, labels_up_to, labels}
use Rattle.model.specs.Growth.{full, clusters, oddly_lit, holds_open, exposed, boundary}
use Rattle.model.proofs.SumLaws.{some_one}
use Rattle.model.proofs.CountLaws.{count_one}
use Rattle.theory.proofs.Components.{labels_length}
use Rattle.theory.proofs.OddMembers.{odd_one}
use Rattle.theory.proofs.MarksAside.{unmarked_inside}
use Rattle.union_find.specs.Trees.{root_of}
use Rattle.union_find.specs.Joining.{Mirrors}
use Rattle.union_find.proofs.Fresh.{alone_root}
use Rattle.union_find.proofs.Packing.{alone_packed, packed_alone}
use Rattle.union_find.proofs.Labels.{mirrors_alone, mirrors_united, mirrors_passed}
use Rattle.decoder.specs.declared.book.Book.{Book}
use Rattle.decoder.specs.Exposures.{counted}
use Rattle.decoder.specs.Figures.{Lows, name_of, names, Leads, Figured}
use Rattle.decoder.specs.Rings.{Rings}
use Rattle.decoder.specs.Books.{parents_by, lows_of, Good, TrueBook, own_labels, KeepsTrue, Fresh, Gatherable, BothKept, Unites}
use Rattle.decoder.proofs.NameLaws.{names_label, names_are}
use Rattle.decoder.proofs.NamesTold.{told_long, lone_told}
use Rattle.decoder.proofs.EndCounts.{counted_exposed}
use Rattle.decoder.proofs.RingLaws.{rings_alone}
use Rattle.decoder.proofs.Fusing.{keeps_on}

-- the full edges below k are fused, from a fresh book on
pub record Gathering (n : ℕ) (ends opened s : List ℕ) (fresh : Book) (k : ℕ) (now : Book) : Type 0 where
  pub good : Good now
  pub vertices : now.vertices ≡ n
  pub mirrors : Mirrors n (parents_by now) (labels_up_to (unmarked n (length s) ends opened) (full s) k)
  pub true_still : KeepsTrue fresh now

-- Every vertex alone

module _ (n : ℕ) (ends opened syndrome s x ring : List ℕ) (g : Gatherable n ends opened syndrome s x ring) (b : Book) (w : Fresh n opened syndrome x b) where
  abbrev B : Board
  B = unmarked n (length s) ends opened

  abbrev S : Set
  S = ones syndrome

  own_name : (v : ℕ) → v < n → name_of (parents_by b) (lows_of b) v ≡ v
  own_name = lone_told g.lent.vertices_limited (alone_packed w.alone) w.figures

  fresh_good : Good b
  fresh_good =
      rw w.vertices
      record {
        packed = packed_alone w.alone;
        lows = record {
          long = omega (arith, told_long b.figure, g.lent.vertices_limited);
          below = λ v h. rw (own_name v h) (omega arith);
          same = λ v h. ap (root_of (parents_by b)) (own_name v h);
        };
        figures_long = w.figures.long;
      }

  abbrev l : List ℕ
  l = own_labels b

  own_label : (v : ℕ) → v < n → label l v ≡ v
  own_label v h = rw w.vertices (names_label n (parents_by b) (lows_of b) v h ∙ own_name v h)

  alone_here : (a : ℕ) → a < n → within l a a ≡ true
  alone_here a h = eq-eqb _ _ (own_label a h)

  not_here : (a v : ℕ) → v < n → v ≢ a → within l a v ≡ false
  not_here a v h q = ne_eqb _ _ (λ e. q (sym (own_label v h) ∙ e))

  boundary_one : (a : ℕ) → a < n → boundary B s l a ≡ bit (counted x a)
  unfolding boundary
  boundary_one a h =
      count_one n a (λ v. within l a v && exposed B s v) h (λ v i q. rw (not_here a v i q))
      ∙ rw (alone_here a h) (ap bit (sym (counted_exposed n (length s) ends opened s x g.counts a (omega (arith, g.lent.vertices_limited)))))

  lit_one : (a : ℕ) → a < n → oddly_lit B l S a ≡ S a
  unfolding oddly_lit
  lit_one a h =
      odd_one n a (λ v. S v && within l a v) h (λ v i q. rw (not_here a v i (λ e. q (sym e))) (and-false (S v)))
      ∙ rw (alone_here a h) (and-true (S a))

  open_one : (a : ℕ) → a < n → holds_open B l a ≡ is_open B a
  unfolding holds_open
  open_one a h =
      some_one n a (λ v. is_open B v && within l a v) h (λ v i q. rw (not_here a v i q) (and-false (is_open B v)))
      ∙ rw (alone_here a h) (and-true (is_open B a))

  -- the figures of lone vertices are true of the supports
  fresh_figured : Figured B S s l b.figure
  fresh_figured =
      record {
        kept = record {
          named = λ a lead.
              let h = lead.below in
              w.figures.each a h ∙ sym (rw (boundary_one a h, lit_one a h, open_one a h));
          others = λ a h none.
              omega (arith, w.figures.others a (omega (arith, not_below a none)) h);
        };
      }
    where
      not_below : (a : ℕ) → (Leads n l a → ⊥) → a < n → ⊥
      not_below a none h = none (record { below = h; own = own_label a h })

  -- the rings of lone vertices
  pub fresh_rings : Rings b.vertices (parents_by b) (lows_of b) x ring
  fresh_rings = rw w.vertices (rings_alone n (parents_by b) (lows_of b) x ring (alone_root (alone_packed w.alone)) g.rings)

  -- The full edges are fused

  pub gather_none : Gathering n ends opened s b 0 b
  gather_none =
      record {
        good = fresh_good;
        vertices = w.vertices;
        mirrors = mirrors_alone B (full s) (alone_packed w.alone);
        true_still = record { figures = λ C T z q h. h };
      }

  module _ (k : ℕ) (h : k < length s) (now : Book) (u : Gathering n ends opened s b k now) where
    -- an edge's ends are vertices of the book
    pub gather_kept : (c d : ℕ) → c ≡ get_or ends (2 * k) 0 → d ≡ get_or ends (2 * k + 1) 0 → BothKept now c d
    gather_kept c d is_c is-d =
        record {
          good = u.good;
          first = omega (arith, u.vertices, g.lent.first_in_range k h);
          second = omega (arith, u.vertices, g.lent.second_in_range k h);
        }

    -- a full edge makes its ends' clusters one
    pub gather_full : full s k ≡ true → (c d : ℕ) → c ≡ get_or ends (2 * k) 0 → d ≡ get_or ends (2 * k + 1) 0 → (after : Book) → Unites now c d after → Gathering n ends opened s b (suc k) after
    unfolding labels_up_to
    gather_full is_full c d is_c is-d after f =
        record {
          good = f.good;
          vertices = f.vertices ∙ u.vertices;
          mirrors =
              rw (is_full, ← is_c, ← is-d)
              (mirrors_united u.mirrors (omega (arith, labels_length B (full s) k)) (omega (arith, g.lent.first_in_range k h)) (omega (arith, g.lent.second_in_range k h))
              (λ i j hi hj. f.one i j (omega (arith, u.vertices)) (omega (arith, u.vertices))));
          true_still = keeps_on b now after (u.vertices ∙ sym w.vertices) u.true_still f.true_still;
        }

    -- another does nothing
    pub gather_other : full s k ≡ false → Gathering n ends opened s b (suc k) now
    gather_other other =
        record { good = u.good; vertices = u.vertices; mirrors = mirrors_passed B (full s) k other u.mirrors; true_still = u.true_still }

  -- the end
  pub gather_all : (now : Book) → Gathering n ends opened s b (length s) now → TrueBook B S s now
  unfolding clusters labels
  gather_all now u =
      record {
        vertices = u.vertices;
        good = u.good;
        mirrors = all;
        figures = rw (names_are B (full s) (unmarked_inside g.lent) all lows_here) (subst (λ i. Figured B S s (names i (parents_by now) (lows_of now)) now.figure) u.vertices (u.true_still.figures B S s (sym w.vertices) fresh_figured));
      }
    where
      all : Mirrors n (parents_by now) (clusters B s)
      all = rw (length-replicate {A = ℕ} (length s) 0) u.mirrors

      lows_here : Lows n (parents_by now) (lows_of now)
      lows_here = subst (λ i. Lows i (parents_by now) (lows_of now)) u.vertices u.good.lows
