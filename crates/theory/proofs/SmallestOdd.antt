-- The vertex that number 10 shows: it lies in an odd part, no smaller vertex does, and it is the smallest vertex of its own part.
-- Assumes nothing.
use Prim.Native.Nat.{ℕ, ◌<◌}
use mathlib.Core.Path.{◌≡◌, sym, ap, ◌∙◌, subst}
use mathlib.Core.Bool.{true, true≢false}
use mathlib.Core.Logic.{◌↔◌, ⊎_elim}
use mathlib.Core.Option.{some}
use native.Mathlib.Nat.{eq-or-lt_of_le}
use Rattle.model.specs.Sums.{Set}
use Rattle.model.specs.Board.{Board, Inside}
use Rattle.model.specs.Components.{label}
use Rattle.model.specs.Growth.{odd}
use Rattle.model.specs.Decoding.{parts, in_odd_part, smallest_odd}
use Rattle.model.proofs.SumLaws.{First, first_is, first_found}
use Rattle.theory.proofs.Connected.{alone}
use Rattle.theory.proofs.Components.{Smallest, part_own, part_smallest}

-- Theorem: v is shown exactly where it lies in an odd part and no smaller vertex does
pub smallest_odd_exactly : (B : Board) (S : Set) (v : ℕ) → (smallest_odd B S ≡ some v) ↔ First B.vertices (in_odd_part B S) v
unfolding smallest_odd
smallest_odd_exactly B S v = (first_found B.vertices (in_odd_part B S) v, first_is B.vertices (in_odd_part B S) v)

-- a part's label lies in it, so it is odd where the part is
label_in_odd_part : (B : Board) → Inside B → (S : Set) (v : ℕ) → v < B.vertices → in_odd_part B S (label (parts B) v) ≡ in_odd_part B S v
unfolding in_odd_part parts
label_in_odd_part B r S v h = ap (odd B (parts B) S) (part_own B (λ e. true) r v h)

-- Theorem: what is shown is the smallest of the vertices connected to it
pub smallest_of_part : (B : Board) → Inside B → (S : Set) (v : ℕ) → smallest_odd B S ≡ some v → Smallest B (λ e. true) v v
unfolding parts
smallest_of_part B r S v p =
    ⊎_elim (λ q. subst (Smallest B (λ e. true) v) q s) (λ l. absurd (smaller l))
    (eq-or-lt_of_le (s.least v (alone v)))
  where
    w : First B.vertices (in_odd_part B S) v
    w = (smallest_odd_exactly B S v).0 p

    s : Smallest B (λ e. true) v (label (parts B) v)
    s = part_smallest B (λ e. true) r v w.less

    smaller : label (parts B) v < v → ⊥
    smaller l = true≢false (sym (label_in_odd_part B r S v w.less ∙ w.holds) ∙ w.before _ l)
