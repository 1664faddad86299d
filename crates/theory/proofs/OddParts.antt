-- Odd parts: an odd part holds an odd number of syndrome vertices and no open vertex. So a cut around it tells the syndrome.
-- Assumes nothing.
use Prim.Native.Nat.{ℕ, ◌<◌}
use mathlib.Core.Path.{◌≡◌, sym, ap, ap₂, ◌∙◌}
use mathlib.Core.Bool.{true, false, not, ◌&&◌, true≢false, and-true}
use mathlib.Core.List.{List}
use borrow.Author.Tests.{not-true, not-false}
use Rattle.std.proofs.lemmas.Bool.{false_from_ne_true, and_from}
use Rattle.model.specs.Sums.{Set, ◌⊕◌, odd_up_to}
use Rattle.model.specs.Board.{Board, Inside, edges, first_end, second_end, is_open}
use Rattle.model.specs.Syndrome.{HasSyndrome}
use Rattle.model.specs.Components.{within}
use Rattle.model.specs.Growth.{oddly_lit, holds_open, odd}
use Rattle.model.proofs.Xor.{and_left, and_right}
use Rattle.model.proofs.SumLaws.{odd_cong, some_none, none_some, some_cong}
use Rattle.theory.proofs.Syndromes.{Avoids, Sealed, cut_syndrome}

-- it rests on which vertices lie in the part
pub odd_within : (B : Board) (l m : List ℕ) (S : Set) (a : ℕ) → ((v : ℕ) → v < B.vertices → within l a v ≡ within m a v) → odd B l S a ≡ odd B m S a
unfolding odd oddly_lit holds_open
odd_within B l m S a same =
    ap₂ (λ x y. x && not y)
    (odd_cong B.vertices (λ v. S v && within l a v) (λ v. S v && within m a v) (λ v h. ap (λ t. S v && t) (same v h)))
    (some_cong B.vertices (λ v. is_open B v && within l a v) (λ v. is_open B v && within m a v) (λ v h. ap (λ t. is_open B v && t) (same v h)))

module _ (B : Board) (l : List ℕ) where
  -- a part that holds no open vertex avoids them
  pub avoids_open : (a : ℕ) → holds_open B l a ≡ false → Avoids B (within l a)
  unfolding holds_open
  avoids_open a p =
      record {
        shut = λ v h i. false_from_ne_true (is_open B v)
            (λ o. true≢false (sym (and_from (is_open B v) (within l a v) o i) ∙ some_none B.vertices (λ v. is_open B v && within l a v) p v h));
      }

  -- where no vertex is open, none holds one, and to be odd is to be oddly lit
  pub sealed_holds : Sealed B → (a : ℕ) → holds_open B l a ≡ false
  unfolding holds_open
  sealed_holds w a = none_some B.vertices (λ v. is_open B v && within l a v) (λ v h. ap (λ o. o && within l a v) (w.shut v h))

  module _ (S : Set) (a : ℕ) where
    pub odd_lit : odd B l S a ≡ true → oddly_lit B l S a ≡ true
    unfolding odd
    odd_lit p = and_left (oddly_lit B l S a) _ p

    pub odd_shut : odd B l S a ≡ true → holds_open B l a ≡ false
    unfolding odd
    odd_shut p = not-true (holds_open B l a) (and_right (oddly_lit B l S a) _ p)

    pub lit_odd : oddly_lit B l S a ≡ true → holds_open B l a ≡ false → odd B l S a ≡ true
    unfolding odd
    lit_odd p q = and_from (oddly_lit B l S a) (not (holds_open B l a)) p (ap not q)

    pub even_lit : oddly_lit B l S a ≡ false → odd B l S a ≡ false
    unfolding odd
    even_lit p = rw p

    -- a part that is not odd though it is oddly lit holds an open vertex
    pub even_open : odd B l S a ≡ false → oddly_lit B l S a ≡ true → holds_open B l a ≡ true
    unfolding odd
    even_open p q = not-false (holds_open B l a) (rw q at p)

    pub odd_avoids : odd B l S a ≡ true → Avoids B (within l a)
    odd_avoids p = avoids_open a (odd_shut p)

    pub sealed_odd : Sealed B → odd B l S a ≡ oddly_lit B l S a
    unfolding odd
    sealed_odd w = rw (sealed_holds w a) (and-true (oddly_lit B l S a))

    -- the cut around an odd part
    pub odd_cut : Inside B → (E : Set) → HasSyndrome B E S → odd B l S a ≡ true
        → odd_up_to (edges B) (λ e. E e && (within l a (first_end B e) ⊕ within l a (second_end B e))) ≡ true
    unfolding oddly_lit
    odd_cut r E has p = sym (cut_syndrome B r (within l a) E S (odd_avoids p) has) ∙ odd_lit p
