-- The stack in document 02's words. Vertex v of the torus in layer k is k × L² + v. Edge e of the torus in layer k has number k × 2L² + e,
-- the torus's ends in that layer and the torus's mark; the edge from vertex v in layer k to vertex v in layer k + 1 has number
-- R × 2L² + k × L² + v and mark 0. No vertex is open. Assumes nothing.
use Prim.Native.Nat.{ℕ, ◌+◌, ◌*◌, ◌<◌}
use mathlib.Core.Path.{◌≡◌, sym, ap, ◌∙◌}
use native.Mathlib.Nat.{add_assoc}
use native.Mathlib.Omega.{arith}
use lib.ListN.{length}
use Rattle.model.specs.Board.{edges, first_end, second_end, mark}
use Rattle.model.specs.Torus.{torus}
use Rattle.model.specs.Stack.{layer_vertices, layer_edges, stack_vertices, stack_edges, vertex_in, upright, stack_edge, lower_end, upper_end, edge_mark, stack_end, stack_mark, stack_ends, stack_marks, stack}
use Rattle.model.proofs.ListLaws.{length_values, get_d_values}
use Rattle.theory.proofs.Syndromes.{Sealed, without_open_sealed}
use Rattle.torus.proofs.TorusRows as Flat-rows
use Rattle.stack.proofs.StackEdges.{first_end_lem, second_end_lem, flat_less, flat_number, upright_less, upright_number}

-- the counts; the ends and the mark of each edge are read off the definition
pub end_total : (L R : ℕ) → length (stack L R).ends ≡ 2 * stack_edges L R
unfolding stack stack_ends
end_total L R = length_values (2 * stack_edges L R) (stack_end L R)

pub edge_total : (L R : ℕ) → edges (stack L R) ≡ stack_edges L R
unfolding stack stack_marks
edge_total L R = length_values (stack_edges L R) (stack_mark L R)

pub first_is : (L R e : ℕ) → e < stack_edges L R → first_end (stack L R) e ≡ lower_end L (stack_edge L R e)
unfolding stack stack_ends
first_is L R e h = get_d_values (2 * stack_edges L R) (stack_end L R) (2 * e) 0 (omega arith) ∙ first_end_lem L R e

pub second_is : (L R e : ℕ) → e < stack_edges L R → second_end (stack L R) e ≡ upper_end L (stack_edge L R e)
unfolding stack stack_ends
second_is L R e h = get_d_values (2 * stack_edges L R) (stack_end L R) (2 * e + 1) 0 (omega arith) ∙ second_end_lem L R e

pub mark_is : (L R e : ℕ) → e < stack_edges L R → mark (stack L R) e ≡ edge_mark L (stack_edge L R e)
unfolding stack stack_marks
mark_is L R e h = get_d_values (stack_edges L R) (stack_mark L R) e 0 h

-- edge e of the torus, in layer k
module _ (L R k e : ℕ) (in_stack : k < R) (in-layer : e < layer_edges L) where
  flat_within : k * layer_edges L + e < stack_edges L R
  flat_within = omega (arith, flat_less L R k e in_stack in-layer)

  pub flat_first : first_end (stack L R) (k * layer_edges L + e) ≡ k * layer_vertices L + first_end (torus L) e
  flat_first =
      first_is L R (k * layer_edges L + e) flat_within
      ∙ ap (lower_end L) (flat_number L R k e in_stack in-layer)
      ∙ ap (vertex_in L k) (sym (Flat-rows.first_is L e in-layer))

  pub flat_second : second_end (stack L R) (k * layer_edges L + e) ≡ k * layer_vertices L + second_end (torus L) e
  flat_second =
      second_is L R (k * layer_edges L + e) flat_within
      ∙ ap (upper_end L) (flat_number L R k e in_stack in-layer)
      ∙ ap (vertex_in L k) (sym (Flat-rows.second_is L e in-layer))

  pub flat_mark : mark (stack L R) (k * layer_edges L + e) ≡ mark (torus L) e
  flat_mark =
      mark_is L R (k * layer_edges L + e) flat_within
      ∙ ap (edge_mark L) (flat_number L R k e in_stack in-layer)
      ∙ sym (Flat-rows.mark_is L e in-layer)

-- the edge from vertex v in layer k to vertex v in layer k + 1
module _ (L R k v : ℕ) (in_stack : k + 1 < R) (in-layer : v < layer_vertices L) where
  upright_within : R * layer_edges L + k * layer_vertices L + v < stack_edges L R
  upright_within = omega (arith, upright_less L R k v in_stack in-layer)

  is_upright : stack_edge L R (R * layer_edges L + k * layer_vertices L + v) ≡ upright k v
  is_upright =
      ap (stack_edge L R) (add_assoc (R * layer_edges L) (k * layer_vertices L) v) ∙ upright_number L R k v in-layer

  pub upright_first : first_end (stack L R) (R * layer_edges L + k * layer_vertices L + v) ≡ k * layer_vertices L + v
  upright_first = first_is L R (R * layer_edges L + k * layer_vertices L + v) upright_within ∙ ap (lower_end L) is_upright

  pub upright_second : second_end (stack L R) (R * layer_edges L + k * layer_vertices L + v) ≡ (k + 1) * layer_vertices L + v
  upright_second = second_is L R (R * layer_edges L + k * layer_vertices L + v) upright_within ∙ ap (upper_end L) is_upright

  pub upright_mark : mark (stack L R) (R * layer_edges L + k * layer_vertices L + v) ≡ 0
  upright_mark = mark_is L R (R * layer_edges L + k * layer_vertices L + v) upright_within ∙ ap (edge_mark L) is_upright

-- no vertex is open
pub stack_sealed : (L R : ℕ) → Sealed (stack L R)
unfolding stack
stack_sealed L R = without_open_sealed (stack_vertices L R) (stack_ends L R) (stack_marks L R)
