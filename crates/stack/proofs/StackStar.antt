-- What meets a stacked vertex: the edges of its own layer, as on the torus, the edge to the next layer, where there is one, and the edge
-- from the layer below, where there is one. Assumes nothing.
use Prim.Native.Nat.{ℕ, zero, suc, ◌+◌, ◌*◌, ◌-◌, ◌/◌, ◌≤◌, ◌<◌}
use mathlib.Core.Path.{◌≡◌, refl, sym, ap, ap₂, ◌∙◌}
use mathlib.Core.Bool.{Bool, true, false, ◌&&◌, and_comm, and-false}
use native.Mathlib.Nat.{suc-mul, zero-mul}
use native.Mathlib.Decide.{dec_lt}
use native.Mathlib.Omega.{arith}
use borrow.Author.Tests.{lt-ltb, le-ltb, eqb-true, eqb-false, eq-eqb, ne_eqb}
use lib.Arith.{digits_lt, digits_div}
use lib.Dec.{eqb, ltb}
use Rattle.model.specs.Sums.{Set, ◌⊕◌, odd_up_to}
use Rattle.model.specs.Syndrome.{meets, odd_end, syndrome}
use Rattle.model.specs.Torus.{torus_from, torus_to, torus_ends, torus_marks, torus}
use Rattle.model.specs.Stack.{layer_vertices, layer_edges, stack_edges, vertex_in, flat, upright, edge_number, stack_edge, lower_end, upper_end, stack_ends, stack_marks, stack}
use Rattle.model.proofs.OpenBytes.{none_open}
use Rattle.model.proofs.Xor.{xor_assoc, and_xor}
use Rattle.model.proofs.EqualTests.{eqb_turned}
use Rattle.model.proofs.SumLaws.{odd_cong, odd_none, odd_xor, odd_and, odd_at, odd_append, odd_blocks}
use Rattle.theory.proofs.Syndromes.{shut_syndrome}
use Rattle.torus.proofs.TorusRows as Flat-rows
use Rattle.torus.proofs.TorusValid.{to_less}
use Rattle.stack.specs.Layers.{StackWithin}
use Rattle.stack.proofs.StackEdges.{flat_number, upright_lower, upright_upper}
use Rattle.stack.proofs.StackRows.{edge_total, first_is, second_is}

-- D has the edge from vertex v in layer k to the next layer, which there is
abbrev pub to_above : (L R : ℕ) → Set → ℕ → Set
to_above L R D k v = ltb (k + 1) R && D (edge_number L R (upright k v))

-- D has the edge to vertex v in layer k from the layer below; below layer 0 there is none
abbrev pub from_below : (L R : ℕ) → Set → ℕ → Set
from_below L R D zero v = false
from_below L R D (suc j) v = D (edge_number L R (upright j v))

-- two numbers with the digits j, a and k, v to the base n are equal where both digits are
eqb_digits : (n j k a v : ℕ) → a < n → v < n → eqb (j * n + a) (k * n + v) ≡ (eqb k j && eqb a v)
eqb_digits n j k a v low high = go (eqb k j) refl
  where
    go : (t : Bool) → eqb k j ≡ t → eqb (j * n + a) (k * n + v) ≡ (t && eqb a v)
    go true p = let q : k ≡ j = eqb-true k j p in rw q (digit (eqb a v) refl)
      where
        digit : (s : Bool) → eqb a v ≡ s → eqb (j * n + a) (j * n + v) ≡ s
        digit true r = eq-eqb (j * n + a) (j * n + v) (omega (arith, eqb-true a v r))
        digit false r = ne_eqb (j * n + a) (j * n + v) (λ e. eqb-false a v r (omega arith))
    go false p =
        ne_eqb (j * n + a) (k * n + v)
        (λ e. eqb-false k j p (sym (digits_div k high) ∙ ap (λ x. x / n) (sym e) ∙ digits_div j low))

-- a sum over one number that may lie beyond
odd_single : (n a : ℕ) (f : Set) → odd_up_to n (λ i. f i && eqb i a) ≡ (ltb a n && f a)
odd_single n a f =
    elim (dec_lt a n) [
      | yes h ↦
          odd_cong n (λ i. f i && eqb i a) (λ i. f i && eqb a i) (λ i l. ap (λ t. f i && t) (eqb_turned i a))
          ∙ odd_at n a f h ∙ rw (lt-ltb a n h)
      | no h ↦
          odd_none n (λ i. f i && eqb i a) (λ i l. rw (ne_eqb i a (λ e. omega arith)) (and-false (f i)))
          ∙ rw (le-ltb a n (omega arith))
    ]

-- adding one number to both sides changes no comparison
eqb_shift : (n a b x y : ℕ) → a ≡ x + n → b ≡ y + n → eqb a b ≡ eqb x y
eqb_shift n a b x y p q = go (eqb x y) refl
  where
    go : (t : Bool) → eqb x y ≡ t → eqb a b ≡ t
    go true r = eq-eqb a b (omega (arith, eqb-true x y r))
    go false r = ne_eqb a b (λ e. eqb-false x y r (omega arith))

module _ (L R : ℕ) (w : StackWithin L R) (k v : ℕ) (in_stack : k < R) (in-layer : v < layer_vertices L) (D : Set) where
  abbrev n : ℕ
  n = layer_vertices L

  abbrev m : ℕ
  m = layer_edges L

  abbrev here : ℕ
  here = vertex_in L k v

  -- edge e is in D and meets the vertex
  abbrev at : Set
  at e = D e && (eqb (lower_end L (stack_edge L R e)) here ⊕ eqb (upper_end L (stack_edge L R e)) here)

  -- the whole is both parts
  parts : odd_end (stack L R) D here ≡ odd_up_to (R * m) at ⊕ odd_up_to ((R - 1) * n) (λ i. at (R * m + i))
  unfolding odd_end
  parts =
      ap (λ c. odd_up_to c (λ e. D e && meets (stack L R) e here)) (edge_total L R)
      ∙ odd_cong (stack_edges L R) (λ e. D e && meets (stack L R) e here) at
      (λ e h. rw (first_is L R e h, second_is L R e h))
      ∙ odd_append (R * m) ((R - 1) * n) at

  -- the layers: only its own has edges that meet it, and there they are the torus's
  abbrev own : ℕ → Set
  own j e = D (j * m + e) && (eqb (torus_from e) v ⊕ eqb (torus_to L e) v)

  front : (d t a b : Bool) → (d && ((t && a) ⊕ (t && b))) ≡ (t && (d && (a ⊕ b)))
  front d true a b = refl
  front d false a b = and-false d

  layer : (j : ℕ) → j < R → odd_up_to m (λ e. at (j * m + e)) ≡ (odd_up_to m (own j) && eqb k j)
  layer j h =
      odd_cong m (λ e. at (j * m + e)) (λ e. eqb k j && own j e)
      (λ e l.
      let from = eqb_digits n j k (torus_from e) v (omega arith) in-layer in
      let to = eqb_digits n j k (torus_to L e) v (to_less L e w.side.least l) in-layer in
      rw (flat_number L R j e h l, from, to) (front (D (j * m + e)) (eqb k j) (eqb (torus_from e) v) (eqb (torus_to L e) v)))
      ∙ odd_and m (eqb k j) (own j)
      ∙ and_comm (eqb k j) (odd_up_to m (own j))

  flat_part : syndrome (torus L) (λ e. D (edge_number L R (flat k e))) v ≡ odd_up_to m (own k)
  unfolding odd_end torus
  flat_part =
      shut_syndrome (torus L) (λ e. D (k * m + e)) v (none_open n (torus_ends L) (torus_marks L) v)
      ∙ ap (λ c. odd_up_to c (λ e. D (k * m + e) && meets (torus L) e v)) (Flat-rows.edge_count L)
      ∙ odd_cong m (λ e. D (k * m + e) && meets (torus L) e v) (own k)
      (λ e h. rw (Flat-rows.first_is L e h, Flat-rows.second_is L e h))

  layers : odd_up_to (R * m) at ≡ syndrome (torus L) (λ e. D (edge_number L R (flat k e))) v
  layers =
      odd_blocks R m at
      ∙ odd_cong R (λ j. odd_up_to m (λ e. at (j * m + e))) (λ j. odd_up_to m (own j) && eqb k j) layer
      ∙ odd_at R k (λ j. odd_up_to m (own j)) in_stack
      ∙ sym flat_part

  -- between layers: edge R × 2L² + i leads from stacked vertex i to i + L²
  abbrev rising : Set
  rising i = D (R * m + i)

  last : R - 1 ≤ k → ltb here ((R - 1) * n) ≡ false
  last top =
      let same : R - 1 ≡ k = omega arith in
      rw same (le-ltb (k * n + v) (k * n) (omega arith))

  next : ltb here ((R - 1) * n) ≡ ltb (k + 1) R
  next =
      elim (dec_lt (k + 1) R) [
        | yes h ↦
            let low : k < R - 1 = omega arith in
            lt-ltb here ((R - 1) * n) (digits_lt low in-layer) ∙ sym (lt-ltb (k + 1) R h)
        | no h ↦ last (omega arith) ∙ sym (le-ltb (k + 1) R (omega arith))
      ]

  above : odd_up_to ((R - 1) * n) (λ i. rising i && eqb i here) ≡ to_above L R D k v
  above = odd_single ((R - 1) * n) here rising ∙ ap (λ t. t && rising here) next

  below : (k : ℕ) → k < R → odd_up_to ((R - 1) * n) (λ i. rising i && eqb (i + n) (vertex_in L k v)) ≡ from_below L R D k v
  below zero h =
      odd_none ((R - 1) * n) (λ i. rising i && eqb (i + n) (0 * n + v))
      (λ i l. rw (ne_eqb (i + n) (0 * n + v) (λ e. omega (arith, zero-mul n))) (and-false (rising i)))
  below (suc j) h =
      let low : j < R - 1 = omega arith in
      odd_cong ((R - 1) * n) (λ i. rising i && eqb (i + n) (suc j * n + v)) (λ i. rising i && eqb i (j * n + v))
      (λ i l. ap (λ t. rising i && t) (eqb_shift n (i + n) (suc j * n + v) i (j * n + v) refl (omega (arith, suc-mul j n))))
      ∙ odd_single ((R - 1) * n) (j * n + v) rising
      ∙ rw (lt-ltb (j * n + v) ((R - 1) * n) (digits_lt low in-layer))

  between : odd_up_to ((R - 1) * n) (λ i. at (R * m + i)) ≡ to_above L R D k v ⊕ from_below L R D k v
  between =
      odd_cong ((R - 1) * n) (λ i. at (R * m + i)) (λ i. (rising i && eqb i here) ⊕ (rising i && eqb (i + n) here))
      (λ i h. rw (upright_lower L R i, upright_upper L R i) (and_xor (rising i) (eqb i here) (eqb (i + n) here)))
      ∙ odd_xor ((R - 1) * n) (λ i. rising i && eqb i here) (λ i. rising i && eqb (i + n) here)
      ∙ ap₂ ◌⊕◌ above (below k in_stack)

  pub stack_star : syndrome (stack L R) D (vertex_in L k v)
      ≡ syndrome (torus L) (λ e. D (edge_number L R (flat k e))) v ⊕ to_above L R D k v ⊕ from_below L R D k v
  unfolding stack
  stack_star =
      shut_syndrome (stack L R) D here (none_open (R * n) (stack_ends L R) (stack_marks L R) here)
      ∙ parts
      ∙ ap₂ ◌⊕◌ layers between
      ∙ sym (xor_assoc (syndrome (torus L) (λ e. D (edge_number L R (flat k e))) v) (to_above L R D k v) (from_below L R D k v))
