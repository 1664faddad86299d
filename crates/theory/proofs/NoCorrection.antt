-- There is no correction exactly when no set of the board's edges has the syndrome; no open vertex is in that.
-- Assumes nothing.
use Prim.Native.Nat.{ℕ, ◌<◌}
use mathlib.Core.Path.{◌≡◌, refl, sym, ap, ◌∙◌, subst}
use mathlib.Core.Bool.{Bool, true, false, ◌&&◌, and-false, true≢false}
use mathlib.Core.Logic.{◌↔◌}
use mathlib.Core.Option.{Option, none, some}
use borrow.Author.Tests.{eqb-true, eqb-false, ne_eqb}
use lib.Dec.{eqb}
use Rattle.std.proofs.lemmas.Bool.{false_from_ne_true}
use Rattle.model.specs.Sums.{Set, ◌⊕◌}
use Rattle.model.specs.Board.{Board, Inside, Unlit, edges, first_end, second_end}
use Rattle.model.specs.Syndrome.{HasSyndrome}
use Rattle.model.specs.Components.{label, labels, within}
use Rattle.model.specs.Growth.{oddly_lit, odd}
use Rattle.model.specs.Correction.{correction}
use Rattle.model.specs.Decoding.{parts, in_odd_part, smallest_odd}
use Rattle.model.specs.Demand3.{Unmet}
use Rattle.model.proofs.Xor.{xor_self}
use Rattle.model.proofs.SumLaws.{odd_none, none_first}
use Rattle.theory.proofs.GrowthRun.{NoneOdd}
use Rattle.theory.proofs.OddParts.{odd_cut, even_lit}
use Rattle.theory.proofs.Connected.{along}
use Rattle.theory.proofs.Components.{connected_part, part_own}
use Rattle.theory.proofs.SmallestOdd.{smallest_odd_exactly}
use Rattle.theory.proofs.OddEnds.{correction_has_syndrome}

-- A set with the syndrome, made of edges of F only, leaves no part of F odd: none of its edges crosses a part.
pub part_even : (B : Board) → Inside B → (F E S : Set) → ((e : ℕ) → e < edges B → E e ≡ true → F e ≡ true) → HasSyndrome B E S → (a : ℕ)
    → odd B (labels B F) S a ≡ false
part_even B r F E S sub has a =
    false_from_ne_true _
    (λ p. true≢false (sym (odd_cut B (labels B F) S a r E has p)
    ∙ odd_none (edges B) (λ e. E e && (within (labels B F) a (first_end B e) ⊕ within (labels B F) a (second_end B e)))
    (λ e h. go e h (E e) refl)))
  where
    go : (e : ℕ) → e < edges B → (t : Bool) → E e ≡ t
        → (E e && (within (labels B F) a (first_end B e) ⊕ within (labels B F) a (second_end B e))) ≡ false
    go e h true p = rw (p, connected_part B F (along e h (sub e h p))) (xor_self (within (labels B F) a (second_end B e)))
    go e h false p = rw p

-- where the part of every vertex is even, no part is odd: a number that labels no vertex has none
pub even_parts : (B : Board) → Inside B → (F S : Set) → ((v : ℕ) → v < B.vertices → odd B (labels B F) S (label (labels B F) v) ≡ false)
    → NoneOdd B (labels B F) S
unfolding oddly_lit
even_parts B r F S each = record { even = λ a h. go a h (eqb (label (labels B F) a) a) refl }
  where
    unused : (a : ℕ) → (label (labels B F) a ≡ a → ⊥) → (v : ℕ) → v < B.vertices → (S v && within (labels B F) a v) ≡ false
    unused a foreign v h =
        ap (λ t. S v && t) (ne_eqb (label (labels B F) v) a (λ q. foreign (subst (λ x. label (labels B F) x ≡ x) q (part_own B F r v h))))
        ∙ and-false (S v)

    go : (a : ℕ) → a < B.vertices → (t : Bool) → eqb (label (labels B F) a) a ≡ t → odd B (labels B F) S a ≡ false
    go a h true p = subst (λ x. odd B (labels B F) S x ≡ false) (eqb-true _ _ p) (each a h)
    go a h false p = even_lit B (labels B F) S a (odd_none B.vertices (λ v. S v && within (labels B F) a v) (unused a (eqb-false _ _ p)))

-- Theorem: no correction

-- where a part of the whole board is odd, no set has the syndrome
pub no_correction_unmet : (B : Board) → Inside B → (S : Set) (v : ℕ) → smallest_odd B S ≡ some v → Unmet B S
unfolding in_odd_part parts
no_correction_unmet B r S v p E has =
    let w = (smallest_odd_exactly B S v).0 p in
    true≢false (sym w.holds ∙ part_even B r (λ e. true) E S (λ e h q. refl) has (label (parts B) v))

-- otherwise one has it, a subset of the whole board's forest
pub some_correction : (B : Board) → Inside B → (S : Set) → Unlit B S → smallest_odd B S ≡ none → HasSyndrome B (correction B (λ e. true) S) S
unfolding smallest_odd in_odd_part parts
some_correction B r S unlit p =
    correction_has_syndrome B r (λ e. true) S (even_parts B r (λ e. true) S (none_first B.vertices (in_odd_part B S) p)) unlit

-- some part is odd: the vertex that number 10 shows
pub record SomeOdd (B : Board) (S : Set) : Type 0 where
  pub vertex : ℕ
  pub smallest : smallest_odd B S ≡ some vertex

pub no_correction_exactly : (B : Board) → Inside B → (S : Set) → Unlit B S → SomeOdd B S ↔ Unmet B S
no_correction_exactly B r S unlit = (λ o. no_correction_unmet B r S o.vertex o.smallest, λ unmet. go unmet (smallest_odd B S) refl)
  where
    go : Unmet B S → (o : Option ℕ) → smallest_odd B S ≡ o → SomeOdd B S
    go unmet (some v) p = record { vertex = v; smallest = p }
    go unmet none p = absurd (unmet (correction B (λ e. true) S) (some_correction B r S unlit p))
