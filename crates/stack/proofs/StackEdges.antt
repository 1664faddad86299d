-- The stack edge by edge: first the edges of all layers, each layer's in the order of the torus, then those between layers. Every number is
-- that of one edge. Assumes nothing.
use Prim.Native.Nat.{ℕ, ◌+◌, ◌*◌, ◌-◌, ◌/◌, ◌%◌, ◌≤◌, ◌<◌}
use mathlib.Core.Path.{◌≡◌, sym, ap, ap₂, ◌∙◌}
use native.Mathlib.Nat.{mod-lt, div-add-mod', div-lt_iff_lt-mul, mul_left_comm, add-mul}
use native.Mathlib.Decide.{dec_lt}
use native.Mathlib.Omega.{arith}
use borrow.Author.Tests.{lt-ltb, le-ltb, eq-eqb, ne_eqb}
use lib.Arith.{digits_lt, digits_div, digits_mod}
use Rattle.model.specs.Sums.{Set}
use Rattle.model.specs.Stack.{layer_vertices, layer_edges, stack_vertices, flat_edges, stack_edges, vertex_in, flat, upright, edge_number, stack_edge, lower_end, upper_end, stack_end}

-- the entries of both ends
pub first_end_lem : (L R e : ℕ) → stack_end L R (2 * e) ≡ lower_end L (stack_edge L R e)
first_end_lem L R e =
    let half : 2 * e / 2 ≡ e = omega arith in
    rw (eq-eqb (2 * e % 2) 0 (omega arith), half)

pub second_end_lem : (L R e : ℕ) → stack_end L R (2 * e + 1) ≡ upper_end L (stack_edge L R e)
second_end_lem L R e =
    let half : (2 * e + 1) / 2 ≡ e = omega arith in
    rw (ne_eqb ((2 * e + 1) % 2) 0 (λ q. omega arith), half)

-- a vertex in a layer is one of the stack's
pub vertex_less : (L R k v : ℕ) → k < R → v < layer_vertices L → vertex_in L k v < stack_vertices L R
vertex_less L R k v in_stack in-layer = digits_lt in_stack in-layer

-- and every vertex of the stack lies in a layer: sets that agree in all layers agree
pub by_layers : (L R : ℕ) → 1 ≤ layer_vertices L → (S T : Set)
    → ((k v : ℕ) → k < R → v < layer_vertices L → S (vertex_in L k v) ≡ T (vertex_in L k v))
    → (u : ℕ) → u < stack_vertices L R → S u ≡ T u
by_layers L R some S T agree u h =
    let split = div-add-mod' u (layer_vertices L) in
    ap S (sym split)
    ∙ agree (u / layer_vertices L) (u % layer_vertices L)
    ((div-lt_iff_lt-mul {k = layer_vertices L} {x = u} {y = R} (omega arith)).1 h) (mod-lt u (omega arith))
    ∙ ap T split

-- the edges of the layers: those whose number is below flat_edges
pub flat_is : (L R i : ℕ) → i < flat_edges L R → stack_edge L R i ≡ flat (i / layer_edges L) (i % layer_edges L)
flat_is L R i h = rw (lt-ltb i (flat_edges L R) h)

-- such an edge is edge e of the torus, in layer k
pub flat_layer : (L R i : ℕ) → 1 ≤ layer_vertices L → i < flat_edges L R → i / layer_edges L < R
flat_layer L R i some h = (div-lt_iff_lt-mul {k = layer_edges L} {x = i} {y = R} (omega arith)).1 h

pub flat_edge : (L i : ℕ) → 1 ≤ layer_vertices L → i % layer_edges L < layer_edges L
flat_edge L i some = mod-lt i (omega arith)

pub flat_less : (L R k e : ℕ) → k < R → e < layer_edges L → edge_number L R (flat k e) < flat_edges L R
flat_less L R k e in_stack in-layer = digits_lt in_stack in-layer

pub flat_number : (L R k e : ℕ) → k < R → e < layer_edges L → stack_edge L R (edge_number L R (flat k e)) ≡ flat k e
flat_number L R k e in_stack in-layer =
    flat_is L R (k * layer_edges L + e) (flat_less L R k e in_stack in-layer)
    ∙ ap₂ flat (digits_div k in-layer) (digits_mod k in-layer)

-- the edges between layers: those from flat_edges on
pub upright_is : (L R u : ℕ) → stack_edge L R (flat_edges L R + u) ≡ upright (u / layer_vertices L) (u % layer_vertices L)
upright_is L R u =
    let past : flat_edges L R + u - flat_edges L R ≡ u = omega arith in
    rw (le-ltb (flat_edges L R + u) (flat_edges L R) (omega arith), past)

-- such an edge leads from vertex v in layer k to the next layer, which there is
pub upright_layer : (L R u : ℕ) → 1 ≤ layer_vertices L → flat_edges L R + u < stack_edges L R → u / layer_vertices L + 1 < R
upright_layer L R u some h =
    let below : u / layer_vertices L < R - 1 = (div-lt_iff_lt-mul {k = layer_vertices L} {x = u} {y = R - 1} (omega arith)).1 (omega arith) in
    omega arith

pub upright_less : (L R k v : ℕ) → k + 1 < R → v < layer_vertices L → edge_number L R (upright k v) < stack_edges L R
upright_less L R k v in_stack in-layer =
    let below : k < R - 1 = omega arith in
    omega (arith, digits_lt below in-layer)

pub upright_number : (L R k v : ℕ) → v < layer_vertices L → stack_edge L R (edge_number L R (upright k v)) ≡ upright k v
upright_number L R k v in-layer =
    upright_is L R (vertex_in L k v) ∙ ap₂ upright (digits_div k in-layer) (digits_mod k in-layer)

-- every number is that of its edge
pub number_edge : (L R i : ℕ) → edge_number L R (stack_edge L R i) ≡ i
number_edge L R i =
    elim (dec_lt i (flat_edges L R)) [
      | yes h ↦ ap (edge_number L R) (flat_is L R i h) ∙ div-add-mod' i (layer_edges L)
      | no h ↦
          let u = i - flat_edges L R in
          let from : i ≡ flat_edges L R + u = omega arith in
          ap (λ j. edge_number L R (stack_edge L R j)) from ∙ ap (edge_number L R) (upright_is L R u)
          ∙ omega (arith, div-add-mod' u (layer_vertices L))
    ]

-- the ends: the first end of a layer's edge has half its number, and edge flat_edges + u leads from stacked vertex u to the one above it
pub lower_half : (L R e : ℕ) → e < flat_edges L R → lower_end L (stack_edge L R e) ≡ e / 2
lower_half L R e h =
    ap (lower_end L) (flat_is L R e h)
    ∙ omega (arith, div-add-mod' e (layer_edges L), mul_left_comm (e / layer_edges L) 2 (layer_vertices L))

pub upright_lower : (L R u : ℕ) → lower_end L (stack_edge L R (flat_edges L R + u)) ≡ u
upright_lower L R u = ap (lower_end L) (upright_is L R u) ∙ div-add-mod' u (layer_vertices L)

pub upright_upper : (L R u : ℕ) → upper_end L (stack_edge L R (flat_edges L R + u)) ≡ u + layer_vertices L
upright_upper L R u =
    ap (upper_end L) (upright_is L R u)
    ∙ omega (arith, div-add-mod' u (layer_vertices L), add-mul (u / layer_vertices L) 1 (layer_vertices L))
