-- The parity of the syndrome on a union of parts is that of the number of its oddly lit parts. Assumes nothing.
use Prim.Native.Nat.{ℕ, ◌<◌}
use mathlib.Core.Path.{◌≡◌, refl, sym, ap, ◌∙◌}
use mathlib.Core.Bool.{Bool, true, false, ◌&&◌, and-false, and-true, and_comm}
use borrow.Author.Tests.{eqb-true}
use Rattle.model.specs.Sums.{Set, odd_up_to}
use Rattle.model.specs.Board.{Board, Inside}
use Rattle.model.specs.Components.{label, labels, within}
use Rattle.model.specs.Growth.{oddly_lit}
use Rattle.model.proofs.SumLaws.{odd_cong, odd_none, odd_and, odd_exchange, odd_at}
use Rattle.theory.proofs.Components.{part_below, part_own}

-- A is a union of parts by the edges of F
pub record Union (B : Board) (F A : Set) : Type 0 where
  pub same : (u v : ℕ) → u < B.vertices → v < B.vertices → label (labels B F) u ≡ label (labels B F) v → A u ≡ A v

module _ (B : Board) (r : Inside B) (F S A : Set) (union : Union B F A) where
  pub union_parity : odd_up_to B.vertices (λ u. S u && A u) ≡ odd_up_to B.vertices (λ a. A a && oddly_lit B (labels B F) S a)
  unfolding oddly_lit
  union_parity =
      odd_cong B.vertices (λ u. S u && A u) (λ u. odd_up_to B.vertices (λ a. (S u && A u) && within (labels B F) a u))
      (λ u h. sym (odd_at B.vertices (label (labels B F) u) (λ a. S u && A u) (part_below B F u h)))
      ∙ odd_exchange B.vertices B.vertices (λ u a. (S u && A u) && within (labels B F) a u)
      ∙ odd_cong B.vertices (λ a. odd_up_to B.vertices (λ u. (S u && A u) && within (labels B F) a u)) (λ a. A a && oddly_lit B (labels B F) S a)
      (λ a k. odd_cong B.vertices (λ u. (S u && A u) && within (labels B F) a u) (λ u. A a && (S u && within (labels B F) a u))
      (λ u h. term a u k h (within (labels B F) a u) refl)
      ∙ odd_and B.vertices (A a) (λ u. S u && within (labels B F) a u))
    where
      term : (a u : ℕ) → a < B.vertices → u < B.vertices → (t : Bool) → within (labels B F) a u ≡ t
          → ((S u && A u) && within (labels B F) a u) ≡ (A a && (S u && within (labels B F) a u))
      term a u k h true p =
          let is = eqb-true (label (labels B F) u) a p in
          let alike = union.same u a h k (sym (part_own B F r u h) ∙ ap (label (labels B F)) is) in
          rw (p, alike, and-true (S u), and-true (S u && A a)) (and_comm (S u) (A a))
      term a u k h false p = rw (p, and-false (S u), and-false (S u && A u), and-false (A a))

  -- without an oddly lit part it is even
  pub union_even : ((a : ℕ) → a < B.vertices → A a ≡ true → oddly_lit B (labels B F) S a ≡ false)
      → odd_up_to B.vertices (λ u. S u && A u) ≡ false
  union_even even = union_parity ∙ odd_none B.vertices (λ a. A a && oddly_lit B (labels B F) S a) (λ a h. go a h (A a) refl)
    where
      go : (a : ℕ) → a < B.vertices → (t : Bool) → A a ≡ t → (A a && oddly_lit B (labels B F) S a) ≡ false
      go a h true p = rw (p, even a h p)
      go a h false p = rw p
