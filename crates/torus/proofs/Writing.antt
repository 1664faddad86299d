-- What one turn of the builder's loop over the vertices writes: the ends of one vertex's two edges. Assumes nothing.
use Prim.Native.Nat.{ℕ, ◌+◌, ◌*◌, ◌<◌}
use mathlib.Core.Path.{◌≡◌, refl, sym, ◌∙◌}
use mathlib.Core.List.{List}
use native.Mathlib.Omega.{arith}
use lib.ListN.{length, set, length-set}
use Rattle.model.specs.Torus.{right_of, below, torus_end}
use Rattle.torus.proofs.Edges.{first_end_lem, second_end_lem, right_to, below_to}
use Rattle.torus.specs.Filling.{Filled}
use Rattle.torus.proofs.Filling.{filled_more, filled_to}

-- the four ends of the edges 2v and 2v + 1
end_0 : (L v : ℕ) → v ≡ torus_end L (4 * v)
end_0 L v = let h : 4 * v ≡ 2 * (2 * v) = omega arith in rw h (sym (first_end_lem L (2 * v) ∙ (omega arith)))

end_1 : (L v : ℕ) → right_of L v ≡ torus_end L (4 * v + 1)
end_1 L v = let h : 4 * v ≡ 2 * (2 * v) = omega arith in rw h (sym (second_end_lem L (2 * v) ∙ right_to L v))

end_2 : (L v : ℕ) → v ≡ torus_end L (4 * v + 2)
end_2 L v =
    let h : 4 * v + 2 ≡ 2 * (2 * v + 1) = omega arith in rw h (sym (first_end_lem L (2 * v + 1) ∙ (omega arith)))

end_3 : (L v : ℕ) → below L v ≡ torus_end L (4 * v + 3)
end_3 L v =
    let h : 4 * v + 3 ≡ 2 * (2 * v + 1) + 1 = omega arith in rw h (sym (second_end_lem L (2 * v + 1) ∙ below_to L v))

pub ends_more :
    (L v : ℕ) (l : List ℕ) (a b : ℕ) → Filled (torus_end L) (4 * v) l → 4 * v + 3 < length l → a ≡ right_of L v → b ≡ below L v →
    Filled (torus_end L) (4 * (v + 1)) (set (set (set (set l (4 * v) v) (4 * v + 1) a) (4 * v + 2) v) (4 * v + 3) b)
ends_more L v l a b w long right down =
    let w₁ = filled_more (4 * v) v w refl (omega arith) (end_0 L v) in
    let w₂ = filled_more (4 * v + 1) a w₁ refl (simp length-set (omega arith)) (right ∙ end_1 L v) in
    let w₃ = filled_more (4 * v + 2) v w₂ (omega arith) (simp length-set (omega arith)) (end_2 L v) in
    let w₄ = filled_more (4 * v + 3) b w₃ (omega arith) (simp length-set (omega arith)) (down ∙ end_3 L v) in
    filled_to (4 * (v + 1)) w₄ (omega arith)
