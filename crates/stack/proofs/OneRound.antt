-- A stack of one layer is the torus itself, and its syndrome is what was read. Assumes nothing.
use Prim.Native.Nat.{ℕ, ◌*◌, ◌/◌, ◌%◌, ◌<◌}
use mathlib.Core.Path.{◌≡◌, sym, ap, ap₂, ◌∙◌}
use mathlib.Core.List.{List}
use native.Mathlib.Nat.{div-eq_of_lt, mod-eq_of_lt}
use native.Mathlib.Omega.{arith}
use Rattle.model.specs.Sums.{bit, values}
use Rattle.model.specs.Board.{ValidBytes}
use Rattle.model.specs.Torus.{torus_from, torus_to, torus_end, torus_mark, torus_ends, torus_marks, torus}
use Rattle.model.specs.Stack.{layer_vertices, layer_edges, stack_edges, vertex_in, flat, stack_edge, stack_end, stack_mark, stack_ends, stack_marks, stack, layer_syndrome, stack_syndrome}
use Rattle.model.proofs.ListLaws.{values_are, values_cong}
use Rattle.stack.proofs.StackEdges.{flat_is}
use Rattle.stack.proofs.Changes.{first_layer_byte}

module _ (L : ℕ) where
  -- its edges are those of layer 0
  one_edge : (e : ℕ) → e < layer_edges L → stack_edge L 1 e ≡ flat 0 e
  one_edge e h = flat_is L 1 e (omega arith) ∙ ap₂ flat (div-eq_of_lt h) (mod-eq_of_lt h)

  no_shift : (v : ℕ) → vertex_in L 0 v ≡ v
  no_shift v = omega arith

  one_ends : stack_ends L 1 ≡ torus_ends L
  unfolding stack_ends torus_ends
  one_ends =
      ap (λ m. values m (stack_end L 1)) {x = 2 * stack_edges L 1} {y = 4 * (L * L)} (omega arith)
      ∙ values_cong (4 * (L * L)) (stack_end L 1) (torus_end L)
      (λ i h. rw (one_edge (i / 2) (omega arith), no_shift (torus_from (i / 2)), no_shift (torus_to L (i / 2))))

  one_marks : stack_marks L 1 ≡ torus_marks L
  unfolding stack_marks torus_marks
  one_marks =
      ap (λ m. values m (stack_mark L 1)) {x = stack_edges L 1} {y = 2 * (L * L)} (omega arith)
      ∙ values_cong (2 * (L * L)) (stack_mark L 1) (torus_mark L) (λ e h. rw (one_edge e h))

  pub one_round : stack L 1 ≡ torus L
  unfolding stack torus
  one_round =
      let same : 1 * (L * L) ≡ L * L = omega arith in
      rw (one_ends, one_marks, same)

  pub one_reading : (readings : List ℕ) → ValidBytes (layer_vertices L) readings → stack_syndrome L 1 readings ≡ readings
  unfolding stack_syndrome
  one_reading readings valid =
      let same : 1 * layer_vertices L ≡ layer_vertices L = omega arith in
      rw same
      (sym (values_are (layer_vertices L) (λ u. bit (layer_syndrome L readings (u / layer_vertices L) (u % layer_vertices L))) readings valid.count
      (λ u h. first_layer_byte L (layer_vertices L) u readings valid h h)))
