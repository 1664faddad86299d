-- The stack of each side and number of rounds that is built is a valid board. Assumes nothing.
use Prim.Native.Nat.{ℕ, ◌+◌, ◌-◌, ◌/◌, ◌%◌, ◌≤◌, ◌<◌}
use mathlib.Core.Path.{◌≡◌}
use native.Mathlib.Decide.{dec_lt}
use native.Mathlib.Omega.{arith}
use Rattle.model.specs.Board.{Valid, edges}
use Rattle.model.specs.Torus.{torus_to}
use Rattle.model.specs.Stack.{layer_edges, stack_vertices, flat_edges, stack_edges, stack_edge, lower_end, upper_end, edge_mark, stack}
use Rattle.model.proofs.OpenBytes.{zeros_valid}
use Rattle.torus.proofs.TorusValid.{to_less, mark_less}
use Rattle.stack.specs.Layers.{StackWithin}
use Rattle.stack.proofs.Numbering.{some_vertex, first_layer, flat_count, upright_count, edges_limited}
use Rattle.stack.proofs.StackEdges.{vertex_less, flat_is, flat_layer, flat_edge, lower_half, upright_is, upright_lower, upright_upper}
use Rattle.stack.proofs.StackRows.{edge_total, end_total, first_is, second_is, mark_is}

-- the ends of an edge are vertices of the stack, and its mark is at most 3, as on the torus
module _ (L R e : ℕ) (w : StackWithin L R) (h : e < stack_edges L R) where
  abbrev u : ℕ
  u = e - flat_edges L R

  past : flat_edges L R ≤ e → e ≡ flat_edges L R + u
  past later = omega arith

  lower_less : lower_end L (stack_edge L R e) < stack_vertices L R
  lower_less =
      elim (dec_lt e (flat_edges L R)) [
        | yes first ↦ omega (arith, lower_half L R e first, flat_count L R)
        | no last ↦
            rw (past (omega arith), upright_lower L R u) (omega (arith, upright_count L R w))
      ]

  upper_less : upper_end L (stack_edge L R e) < stack_vertices L R
  upper_less =
      elim (dec_lt e (flat_edges L R)) [
        | yes first ↦
            rw (flat_is L R e first)
            (vertex_less L R (e / layer_edges L) (torus_to L (e % layer_edges L))
            (flat_layer L R e (some_vertex L R w) first)
            (to_less L (e % layer_edges L) w.side.least (flat_edge L e (some_vertex L R w))))
        | no last ↦
            rw (past (omega arith), upright_upper L R u) (omega (arith, upright_count L R w, first_layer L R w))
      ]

  mark_small : edge_mark L (stack_edge L R e) ≤ 3
  mark_small =
      elim (dec_lt e (flat_edges L R)) [
        | yes first ↦ rw (flat_is L R e first) (mark_less L (e % layer_edges L) w.side.least (flat_edge L e (some_vertex L R w)))
        | no last ↦ rw (past (omega arith), upright_is L R u) (omega arith)
      ]

pub stack_valid : (L R : ℕ) → StackWithin L R → Valid (stack L R)
unfolding stack
stack_valid L R w =
    record {
      some_vertex = omega (arith, some_vertex L R w, first_layer L R w);
      inside = record {
        vertices_limited = w.vertices_limited;
        edges_limited = omega (arith, edge_total L R, edges_limited L R w);
        two_ends = omega (arith, end_total L R, edge_total L R);
        first_in_range = λ e h. rw (first_is L R e (within e h)) (lower_less L R e w (within e h));
        second_in_range = λ e h. rw (second_is L R e (within e h)) (upper_less L R e w (within e h));
      };
      mark_in_range = λ e h. rw (mark_is L R e (within e h)) (mark_small L R e w (within e h));
      open_bytes = zeros_valid (stack_vertices L R);
    }
  where
    within : (e : ℕ) → e < edges (stack L R) → e < stack_edges L R
    within e h = omega (arith, edge_total L R)
