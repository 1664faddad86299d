-- What one turn of each loop over the edges writes: both ends of one edge. Assumes nothing.
use Prim.Native.Nat.{ℕ, ◌+◌, ◌*◌, ◌/◌, ◌%◌, ◌<◌}
use mathlib.Core.Path.{◌≡◌, refl, sym, ap, ◌∙◌}
use mathlib.Core.List.{List}
use native.Mathlib.Omega.{arith}
use lib.ListN.{length, set, length-set}
use Rattle.model.specs.Stack.{layer_vertices, layer_edges, stack_vertices, flat_edges, flat, stack_edge, lower_end, upper_end, stack_end}
use Rattle.torus.specs.Filling.{Filled}
use Rattle.torus.proofs.Filling.{filled_more, filled_to}
use Rattle.stack.proofs.Numbering.{flat_count}
use Rattle.stack.proofs.StackEdges.{first_end_lem, second_end_lem, flat_is, lower_half, upright_lower, upright_upper}

-- edge e, with its ends a and b
ends_more :
    (L R e : ℕ) (l : List ℕ) (a b : ℕ) → Filled (stack_end L R) (2 * e) l → 2 * e + 1 < length l → a ≡ lower_end L (stack_edge L R e)
    → b ≡ upper_end L (stack_edge L R e) → Filled (stack_end L R) (2 * (e + 1)) (set (set l (2 * e) a) (2 * e + 1) b)
ends_more L R e l a b w long first second =
    let w₁ = filled_more (2 * e) a w refl (omega arith) (first ∙ sym (first_end_lem L R e)) in
    let w₂ = filled_more (2 * e + 1) b w₁ refl (simp length-set (omega arith)) (second ∙ sym (second_end_lem L R e)) in
    filled_to (2 * (e + 1)) w₂ (omega arith)

-- an edge in a layer: its first end has half its number
pub flat_more :
    (L R e : ℕ) (l : List ℕ) (b : ℕ) → e < flat_edges L R → Filled (stack_end L R) (2 * e) l → 2 * e + 1 < length l
    → b ≡ upper_end L (flat (e / layer_edges L) (e % layer_edges L))
    → Filled (stack_end L R) (2 * (e + 1)) (set (set l (2 * e) (e / 2)) (2 * e + 1) b)
flat_more L R e l b h w long second =
    ends_more L R e l (e / 2) b w long (sym (lower_half L R e h)) (second ∙ sym (ap (upper_end L) (flat_is L R e h)))

-- the edge from stacked vertex u to the next layer
pub upright_more :
    (L R u : ℕ) (l : List ℕ) → Filled (stack_end L R) (2 * (2 * stack_vertices L R + u)) l → 2 * (2 * stack_vertices L R + u) + 1 < length l
    → Filled (stack_end L R) (2 * (2 * stack_vertices L R + (u + 1)))
    (set (set l (2 * (2 * stack_vertices L R + u)) u) (2 * (2 * stack_vertices L R + u) + 1) (u + layer_vertices L))
upright_more L R u l w long =
    filled_to (2 * (2 * stack_vertices L R + (u + 1)))
    (ends_more L R (2 * stack_vertices L R + u) l u (u + layer_vertices L) w long lower upper)
    (omega arith)
  where
    lower : u ≡ lower_end L (stack_edge L R (2 * stack_vertices L R + u))
    lower = rw (← flat_count L R) (sym (upright_lower L R u))

    upper : u + layer_vertices L ≡ upper_end L (stack_edge L R (2 * stack_vertices L R + u))
    upper = rw (← flat_count L R) (sym (upright_upper L R u))
