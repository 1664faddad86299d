-- A set of edges of the torus, laid into layer 0 of the stack: it has as many edges there, is closed where the set is, and crosses both
-- lines as the set does, which is its shadow. So a winding loop of the torus is one of the stack. Assumes nothing.
use Prim.Native.Nat.{ℕ, zero, suc, ◌+◌, ◌*◌, ◌-◌, ◌≤◌, ◌<◌}
use mathlib.Core.Path.{◌≡◌, refl, sym, ap, ap₂, ◌∙◌}
use mathlib.Core.Bool.{true, false, ◌&&◌, and-false}
use native.Mathlib.Nat.{mul-le-mul_right, suc-mul}
use native.Mathlib.Omega.{arith}
use borrow.Author.Tests.{lt-ltb, le-ltb}
use lib.Dec.{ltb}
use Rattle.model.specs.Sums.{Set, ◌⊕◌, count_up_to}
use Rattle.model.specs.Board.{edges}
use Rattle.model.specs.Syndrome.{syndrome}
use Rattle.model.specs.Winding.{winds, size}
use Rattle.model.specs.Torus.{torus}
use Rattle.model.specs.Stack.{layer_vertices, layer_edges, stack_edges, vertex_in, flat, upright, edge_number, stack}
use Rattle.model.proofs.SumLaws.{odd_cong, count_cong, count_none}
use Rattle.model.proofs.CountLaws.{count_append}
use Rattle.theory.proofs.OddMembers.{odd_one}
use Rattle.theory.proofs.Syndromes.{syndrome_cong, syndrome_empty}
use Rattle.theory.proofs.CrossedLines.{Line, crosses, crosses_oddly, Closed, winds_alike}
use Rattle.torus.proofs.TorusRows as Flat-rows
use Rattle.stack.specs.Layers.{StackWithin}
use Rattle.stack.proofs.Numbering.{some_vertex}
use Rattle.stack.proofs.StackEdges.{by_layers}
use Rattle.stack.proofs.StackRows.{edge_total}
use Rattle.stack.proofs.StackStar.{to_above, from_below, stack_star}
use Rattle.stack.proofs.LoopShadows.{shadow, shadow_crosses}

-- the edges of E in layer 0, and no others
abbrev pub in_layer_zero : ℕ → Set → Set
in_layer_zero L E i = ltb i (layer_edges L) && E i

module _ (L R : ℕ) (w : StackWithin L R) (E : Set) where
  abbrev n : ℕ
  n = layer_vertices L

  abbrev m : ℕ
  m = layer_edges L

  abbrev D : Set
  D = in_layer_zero L E

  enough : m ≤ R * m
  enough = omega (arith, mul-le-mul_right m w.some_round)

  laid : (e : ℕ) → e < m → D e ≡ E e
  laid e h = rw (lt-ltb e m h)

  beyond : (i : ℕ) → m ≤ i → D i ≡ false
  beyond i h = rw (le-ltb i m h)

  -- in layer 0 it is E, and in every other layer nothing
  at_zero : (e : ℕ) → e < m → D (edge_number L R (flat 0 e)) ≡ E e
  at_zero e h =
      let here : 0 * m + e ≡ e = omega arith in
      ap D here ∙ laid e h

  above_zero : (k e : ℕ) → D (edge_number L R (flat (suc k) e)) ≡ false
  above_zero k e = beyond (suc k * m + e) (omega (arith, suc-mul k m))

  no_upright : (k v : ℕ) → D (edge_number L R (upright k v)) ≡ false
  no_upright k v = beyond (R * m + vertex_in L k v) (omega (arith, enough))

  -- so its shadow is E
  own_shadow : (e : ℕ) → e < m → shadow L R D e ≡ E e
  own_shadow e h =
      odd_one R 0 (λ k. D (edge_number L R (flat k e))) w.some_round (λ k l apart. off k apart) ∙ at_zero e h
    where
      off : (k : ℕ) → (0 ≡ k → ⊥) → D (edge_number L R (flat k e)) ≡ false
      off zero apart = absurd (apart refl)
      off (suc k) apart = above_zero k e

  -- and it crosses both lines as E does
  layer_crosses : (x : Line) → crosses_oddly (torus L) x E ≡ crosses_oddly (stack L R) x D
  unfolding crosses_oddly
  layer_crosses x =
      odd_cong (edges (torus L)) (λ e. E e && crosses (torus L) x e) (λ e. shadow L R D e && crosses (torus L) x e)
      (λ e h. ap (λ t. t && crosses (torus L) x e) (sym (own_shadow e (omega (arith, Flat-rows.edge_count L)))))
      ∙ sym (shadow_crosses L R w D x)

  -- no edge leads to another layer, so layer 0 has the syndrome of E, and the others have none
  no_above : (k v : ℕ) → to_above L R D k v ≡ false
  no_above k v = ap (λ t. ltb (k + 1) R && t) (no_upright k v) ∙ and-false (ltb (k + 1) R)

  no_below : (k v : ℕ) → from_below L R D k v ≡ false
  no_below zero v = refl
  no_below (suc k) v = no_upright k v

  layer_even : Closed (torus L) E → (k v : ℕ) → v < n → syndrome (torus L) (λ e. D (edge_number L R (flat k e))) v ≡ false
  unfolding torus
  layer_even shut zero v h =
      syndrome_cong (torus L) (λ e. D (edge_number L R (flat 0 e))) E (λ e l. at_zero e (omega (arith, Flat-rows.edge_count L))) v
      ∙ shut.at v h
  layer_even shut (suc k) v h =
      syndrome_cong (torus L) (λ e. D (edge_number L R (flat (suc k) e))) (λ e. false) (λ e l. above_zero k e) v
      ∙ syndrome_empty (torus L) v

  layer_closed : Closed (torus L) E → Closed (stack L R) D
  unfolding stack
  layer_closed shut =
      record {
        at = by_layers L R (some_vertex L R w) (syndrome (stack L R) D) (λ u. false)
            (λ k v in_stack in-layer.
            stack_star L R w k v in_stack in-layer D
            ∙ ap₂ ◌⊕◌ (ap₂ ◌⊕◌ (layer_even shut k v in-layer) (no_above k v)) (no_below k v));
      }

  -- as many edges
  pub layer_size : size (stack L R) D ≡ size (torus L) E
  layer_size =
      let rest = stack_edges L R - m in
      let whole : edges (stack L R) ≡ m + rest = omega (arith, edge_total L R, enough) in
      ap (λ c. count_up_to c D) whole
      ∙ count_append m rest D
      ∙ ap₂ ◌+◌ (count_cong m D E laid) (count_none rest (λ i. D (m + i)) (λ i h. beyond (m + i) (omega arith)))
      ∙ omega (arith, ap (λ c. count_up_to c E) (Flat-rows.edge_count L))

  -- so it winds where E does
  pub layer_winds : winds (torus L) E ≡ true → winds (stack L R) D ≡ true
  layer_winds = winds_alike (torus L) (stack L R) E D layer_closed layer_crosses
