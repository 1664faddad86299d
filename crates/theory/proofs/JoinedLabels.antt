-- What one more edge does to the labels: two vertices have one label exactly where they had before, or each had that of an end of the
-- edge. The order in which edges are added does not matter.
-- Assumes nothing.
use Prim.Native.Nat.{ℕ, ◌<◌}
use mathlib.Core.Path.{◌≡◌, refl, sym, ◌∙◌}
use mathlib.Core.Logic.{◌⊎◌, inl, inr, ⊎_elim}
use mathlib.Core.Bool.{Bool, true, ◌&&◌, ◌||◌}
use lib.Dec.{eqb}
use borrow.Author.Tests.{eqb-true, eq-eqb}
use Rattle.std.proofs.lemmas.Bool.{and_from, or_cases, or_left, or_right}
use Rattle.std.specs.Cmp.{both_ways}
use Rattle.model.specs.Sums.{Set}
use Rattle.model.specs.Board.{Board, Inside, edges, first_end, second_end}
use Rattle.model.specs.Components.{label, labels}
use Rattle.model.proofs.Xor.{and_left, and_right}
use Rattle.theory.proofs.Connected.{Connected, along, back, chain, Through, beside, forward, backward, EdgesAmong, connected_mono, through_edge}
use Rattle.theory.proofs.Components.{connected_part, part_connected}

-- the labels x and y become one: which of the labels u and v are then equal
abbrev pub joined_by : ℕ → ℕ → ℕ → ℕ → Bool
joined_by x y u v = eqb u v || ((eqb u x || eqb u y) && (eqb v x || eqb v y))

end_test : (x y u : ℕ) → (u ≡ x) ⊎ (u ≡ y) → (eqb u x || eqb u y) ≡ true
end_test x y u = ⊎_elim (λ p. or_left (eqb u x) (eqb u y) (eq-eqb u x p)) (λ p. or_right (eqb u x) (eqb u y) (eq-eqb u y p))

test_end : (x y u : ℕ) → (eqb u x || eqb u y) ≡ true → (u ≡ x) ⊎ (u ≡ y)
test_end x y u p = ⊎_elim (λ q. inl (eqb-true u x q)) (λ q. inr (eqb-true u y q)) (or_cases (eqb u x) (eqb u y) p)

joined_across : (x y u v : ℕ) → (u ≡ x) ⊎ (u ≡ y) → (v ≡ x) ⊎ (v ≡ y) → joined_by x y u v ≡ true
joined_across x y u v p q = or_right (eqb u v) _ (and_from _ _ (end_test x y u p) (end_test x y v q))

-- G is F and edge e
pub record Adds (B : Board) (F : Set) (e : ℕ) (G : Set) : Type 0 where
  pub edge : e < edges B
  pub each : (i : ℕ) → i < edges B → G i ≡ (F i || eqb e i)

module _ (B : Board) (r : Inside B) (F : Set) (e : ℕ) (G : Set) (w : Adds B F e G) where
  edge_added : G e ≡ true
  edge_added = w.each e w.edge ∙ or_right (F e) (eqb e e) (eq-eqb e e refl)

  kept : EdgesAmong F (edges B) G (edges B)
  kept = record { less = λ i h p. h; holds = λ i h p. w.each i h ∙ or_left (F i) (eqb e i) p }

  only : (i : ℕ) → i < edges B → G i ≡ true → ((i < edges B) × (F i ≡ true)) ⊎ (i ≡ e)
  only i h p = ⊎_elim (λ q. inl (h, q)) (λ q. inr (sym (eqb-true e i q))) (or_cases (F i) (eqb e i) (sym (w.each i h) ∙ p))

  -- the label of v by F
  abbrev by : ℕ → ℕ
  by v = label (labels B F) v

  abbrev a : ℕ
  a = first_end B e

  abbrev b : ℕ
  b = second_end B e

  -- connected by F to an end of e: connected by G to its first end
  reaches : (u : ℕ) → u < B.vertices → (by u ≡ by a) ⊎ (by u ≡ by b) → Connected B G (edges B) u a
  reaches u h =
      ⊎_elim
      (λ p. connected_mono B F (edges B) G (edges B) kept (part_connected B F r u a h (r.first_in_range e w.edge) p))
      (λ p. chain (connected_mono B F (edges B) G (edges B) kept (part_connected B F r u b h (r.second_in_range e w.edge) p)) (back (along e w.edge edge_added)))

  module _ (u v : ℕ) (hu : u < B.vertices) (hv : v < B.vertices) where
    crossing : Through B F (edges B) e u v → joined_by (by a) (by b) (by u) (by v) ≡ true
    crossing (beside c) = or_left (eqb (by u) (by v)) _ (eq-eqb (by u) (by v) (connected_part B F c))
    crossing (forward c d) = joined_across (by a) (by b) (by u) (by v) (inl (connected_part B F c)) (inr (sym (connected_part B F d)))
    crossing (backward c d) = joined_across (by a) (by b) (by u) (by v) (inr (connected_part B F c)) (inl (sym (connected_part B F d)))

    connects : joined_by (by a) (by b) (by u) (by v) ≡ true → Connected B G (edges B) u v
    connects p =
        ⊎_elim
        (λ q. connected_mono B F (edges B) G (edges B) kept (part_connected B F r u v hu hv (eqb-true (by u) (by v) q)))
        (λ q. chain (reaches u hu (test_end (by a) (by b) (by u) (and_left (eqb (by u) (by a) || eqb (by u) (by b)) _ q))) (back (reaches v hv (test_end (by a) (by b) (by v) (and_right (eqb (by u) (by a) || eqb (by u) (by b)) _ q)))))
        (or_cases (eqb (by u) (by v)) _ p)

    -- the labels by G
    pub added_edge : eqb (label (labels B G) u) (label (labels B G) v) ≡ joined_by (by a) (by b) (by u) (by v)
    added_edge =
        both_ways _ _
        (λ p. crossing (through_edge B F (edges B) G (edges B) e only (part_connected B G r u v hu hv (eqb-true _ _ p))))
        (λ p. eq-eqb _ _ (connected_part B G (connects p)))
