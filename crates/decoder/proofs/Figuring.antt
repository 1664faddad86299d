-- Figures by the definition, and figures by the counts of ends: the same, where the counts are those of the supports. Assumes nothing.
use Prim.Native.Nat.{ℕ, ◌+◌, ◌≤◌, ◌<◌}
use mathlib.Core.Path.{◌≡◌, sym, ap, ◌∙◌}
use mathlib.Core.Bool.{cond, ◌&&◌}
use mathlib.Core.List.{List}
use native.Mathlib.Omega.{arith}
use Rattle.model.specs.Sums.{Set}
use Rattle.model.specs.Board.{Board, unmarked, vertex_limit}
use Rattle.model.specs.Components.{within}
use Rattle.model.specs.Growth.{full, oddly_lit, holds_open, exposed, boundary}
use Rattle.model.proofs.SumLaws.{count_cong}
use Rattle.decoder.specs.Figures.{even_mark, open_mark, figure_of, name_mark, Keeps, Figured}
use Rattle.decoder.specs.Exposures.{Exposures, counted}
use Rattle.decoder.specs.Shutting.{sized}
use Rattle.decoder.proofs.NamesTold.{marks_small}
use Rattle.decoder.proofs.EndCounts.{counted_exposed}

-- what a figure says beside the boundary size
pub beside : Board → Set → List ℕ → ℕ → ℕ
beside B S l a = cond (oddly_lit B l S a) 0 even_mark + cond (holds_open B l a) open_mark 0

pub beside_small : (B : Board) (S : Set) (l : List ℕ) (a : ℕ) → beside B S l a + vertex_limit < name_mark
unfolding beside
beside_small B S l a = marks_small (oddly_lit B l S a) (holds_open B l a)

module _ (n m : ℕ) (ends opened : List ℕ) (few : n ≤ vertex_limit) (S : Set) (s x l figure : List ℕ) (w : Exposures m ends (full s) x) where
  abbrev B : Board
  B = unmarked n m ends opened

  boundary_counted : (a : ℕ) → sized n l (counted x) (beside B S l) a ≡ figure_of (boundary B s l a) (oddly_lit B l S a) (holds_open B l a)
  unfolding boundary beside
  boundary_counted a =
      ap (λ z. beside B S l a + z)
      (count_cong n (λ v. within l a v && counted x v) (λ v. within l a v && exposed B s v)
      (λ v h. ap (λ t. within l a v && t) (counted_exposed n m ends opened s x w v (omega arith))))
      ∙ omega arith

  pub figured_sized : Figured B S s l figure → Keeps n l (sized n l (counted x) (beside B S l)) figure
  figured_sized f = record { named = λ a lead. f.kept.named a lead ∙ sym (boundary_counted a); others = f.kept.others }

  pub sized_figured : Keeps n l (sized n l (counted x) (beside B S l)) figure → Figured B S s l figure
  sized_figured k = record { kept = record { named = λ a lead. k.named a lead ∙ boundary_counted a; others = k.others } }
