-- The odd ends, marked vertex by vertex: a cluster's count is odd as long as it is oddly lit and no open vertex of it was met, so the
-- first to be met is its smallest. Assumes nothing.
use Prim.Native.Nat.{ℕ, suc, ◌%◌, ◌<◌}
use mathlib.Core.Path.{◌≡◌, refl, sym, ap, ap₂, ◌∙◌}
use mathlib.Core.Bool.{Bool, true, false, not, ◌&&◌, ◌||◌, and-false, and-true, or-false, or-true}
use mathlib.Core.List.{List}
use native.Mathlib.Nat.{not-suc-le-zero}
use native.Mathlib.Decide.{ℕ_discrete}
use native.Mathlib.Omega.{arith}
use borrow.Author.Tests.{eq-eqb, ne_eqb, not-true}
use lib.ListN.{length, get_or, set, replicate, length-set, length-replicate}
use lib.Seq.{get_or-set_same, get_or-set_other}
use lib.Dec.{eqb}
use Rattle.model.specs.Sums.{Set, ◌⊕◌, ones, some_up_to}
use Rattle.model.specs.Board.{Board, Unlit, vertex_limit}
use Rattle.model.specs.Components.{label, within}
use Rattle.model.specs.Growth.{oddly_lit}
use Rattle.model.specs.Correction.{outlet, odd_ends}
use Rattle.model.proofs.Xor.{xor_false, and_left, and_right}
use Rattle.model.proofs.SumLaws.{below_suc}
use Rattle.model.proofs.CountLaws.{count_parity}
use Rattle.decoder.specs.Tallies.{Tallies}
use Rattle.decoder.specs.OddEnds.{vertex_board, open_at, odd_at, MarksEnds}

module _ (n : ℕ) (labels opened syndrome : List ℕ) where
  abbrev B : Board
  B = vertex_board n opened

  abbrev S : Set
  S = ones syndrome

  abbrev lit : Set
  lit = oddly_lit B labels S

  -- the first k vertices are marked, and the counts of the clusters with an open one among them are 0
  pub record MarkedUpTo (k : ℕ) (ends counts : List ℕ) : Type 0 where
    pub ends_long : length ends ≡ vertex_limit
    pub marked : (u : ℕ) → u < k → ones ends u ≡ odd_ends B labels S u
    pub counts_long : length counts ≡ vertex_limit
    pub left : (a : ℕ) → a < vertex_limit → odd_at counts a ≡ (lit a && not (open_at k labels opened a))

  pub marked_none : (m : ℕ) (counts : List ℕ) → m ≡ vertex_limit → Tallies n labels syndrome counts → MarkedUpTo 0 (replicate m 0) counts
  unfolding oddly_lit some_up_to
  marked_none m counts long t =
      record {
        ends_long = length-replicate m 0 ∙ long;
        marked = λ u h. absurd (not-suc-le-zero h);
        counts_long = t.long;
        left = λ a h.
            ap (λ x. eqb (x % 2) 1) (t.at a h) ∙ count_parity n (λ v. ones syndrome v && within labels a v) ∙ sym (and-true (lit a));
      }

  module _ {k : ℕ} {ends counts : List ℕ} (w : MarkedUpTo k ends counts) (few : k < vertex_limit) (inside : label labels k < vertex_limit) where
    abbrev a : ℕ
    a = label labels k

    -- one more vertex with its mark
    write : (x : ℕ) → eqb x 1 ≡ odd_ends B labels S k → (u : ℕ) → u < suc k → ones (set ends k x) u ≡ odd_ends B labels S u
    write x is u h =
        below_suc k u h
        (λ l. ap (λ y. eqb y 1) (get_or-set_other ends k u x 0 (λ q. omega arith)) ∙ w.marked u l)
        (λ q. rw q (ap (λ y. eqb y 1) (get_or-set_same ends k x 0 (omega (arith, w.ends_long))) ∙ is))

    -- other clusters see nothing of it
    apart : (b : ℕ) → (a ≡ b → ⊥) → open_at (suc k) labels opened b ≡ open_at k labels opened b
    unfolding some_up_to
    apart b other = rw (ne_eqb a b other, and-false (ones opened k)) (or-false (open_at k labels opened b))

    -- an open vertex is the first of a cluster that is oddly lit: it is an odd end, and the cluster's count is cleared
    pub marked_outlet : (ones opened k && odd_at counts a) ≡ true → k < n → Unlit B S → MarkedUpTo (suc k) (set ends k 1) (set counts a 0)
    unfolding odd_ends some_up_to
    marked_outlet p h unlit =
        record {
          ends_long = length-set ends k 1 ∙ w.ends_long;
          marked = write 1 (sym here);
          counts_long = length-set counts a 0 ∙ w.counts_long;
          left = λ b l. elim (ℕ_discrete a b) [
            | yes q ↦
                rw (← q)
                (ap (λ x. eqb (x % 2) 1) (get_or-set_same counts a 0 0 (omega (arith, w.counts_long)))
                ∙ sym (ap₂ (λ x y. lit a && not (open_at k labels opened a || (x && y))) opens (eq-eqb a a refl)
                ∙ ap (λ x. lit a && not x) (or-true (open_at k labels opened a)) ∙ and-false (lit a)))
            | no q ↦
                ap (λ x. eqb (x % 2) 1) (get_or-set_other counts a b 0 0 (λ e. q (sym e)))
                ∙ w.left b l ∙ sym (ap (λ x. lit b && not x) (apart b q))
          ];
        }
      where
        opens : ones opened k ≡ true
        opens = and_left (ones opened k) _ p

        both : (lit a && not (open_at k labels opened a)) ≡ true
        both = sym (w.left a inside) ∙ and_right (ones opened k) _ p

        here : odd_ends B labels S k ≡ true
        here =
            ap (λ s. s ⊕ (outlet B labels k && lit a)) (unlit k h opens)
            ∙ ap₂ (λ x y. (ones opened k && not x) && y) (not-true (open_at k labels opened a) (and_right (lit a) _ both)) (and_left (lit a) _ both)
            ∙ ap (λ x. (x && true) && true) opens

    -- any other vertex is one where it is lit
    pub marked_other : (ones opened k && odd_at counts a) ≡ false → MarkedUpTo (suc k) (set ends k (get_or syndrome k 0)) counts
    unfolding odd_ends some_up_to
    marked_other p =
        record {
          ends_long = length-set ends k (get_or syndrome k 0) ∙ w.ends_long;
          marked = write (get_or syndrome k 0) (sym (ap (λ t. S k ⊕ t) out ∙ xor_false (S k)));
          counts_long = w.counts_long;
          left = λ b l. elim (ℕ_discrete a b) [
            | yes q ↦ rw (← q, eq-eqb a a refl) (w.left a inside ∙ same (ones opened k) refl)
            | no q ↦ w.left b l ∙ sym (ap (λ x. lit b && not x) (apart b q))
          ];
        }
      where
        none : (o : Bool) → ones opened k ≡ o → (o && (lit a && not (open_at k labels opened a))) ≡ false
        none o q = rw q at (ap (λ x. ones opened k && x) (sym (w.left a inside)) ∙ p)

        turn : (o x y : Bool) → (o && (x && not y)) ≡ false → ((o && not y) && x) ≡ false
        turn true true true q = refl
        turn true true false q = q
        turn true false true q = refl
        turn true false false q = refl
        turn false x y q = refl

        out : (outlet B labels k && lit a) ≡ false
        out = turn (ones opened k) (lit a) (open_at k labels opened a) (none (ones opened k) refl)

        same : (o : Bool) → ones opened k ≡ o → (lit a && not (open_at k labels opened a)) ≡ (lit a && not (open_at k labels opened a || (o && true)))
        same true q = none true q ∙ sym (ap (λ x. lit a && not x) (or-true (open_at k labels opened a)) ∙ and-false (lit a))
        same false q = ap (λ x. lit a && not x) (sym (or-false (open_at k labels opened a)))

  pub marked_all : {ends counts : List ℕ} → MarkedUpTo n ends counts → MarksEnds n labels opened syndrome ends
  marked_all w = record { long = w.ends_long; at = w.marked }
