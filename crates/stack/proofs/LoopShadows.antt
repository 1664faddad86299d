-- The shadow of a set of stacked edges: the edges of the torus that it has in an odd number of layers. It crosses both lines as the set
-- does, is closed where the set is, and has no more edges. So the shadow of a winding loop is a winding loop. Assumes nothing.
use Prim.Native.Nat.{ℕ, zero, suc, ◌+◌, ◌*◌, ◌-◌, ◌≤◌, ◌<◌}
use mathlib.Core.Path.{◌≡◌, refl, sym, ap, ap₂, ◌∙◌}
use mathlib.Core.Bool.{Bool, true, false, ◌&&◌, and_comm, and-false}
use native.Mathlib.Nat.{le_refl, suc-mul}
use native.Mathlib.Omega.{arith}
use borrow.Author.Tests.{lt-ltb, le-ltb}
use Rattle.model.specs.Sums.{Set, ◌⊕◌, odd_up_to, count_up_to}
use Rattle.model.specs.Board.{Board, mark}
use Rattle.model.specs.Syndrome.{syndrome}
use Rattle.model.specs.Winding.{winds, size}
use Rattle.model.specs.Torus.{torus}
use Rattle.model.specs.Stack.{layer_vertices, layer_edges, stack_edges, vertex_in, flat, edge_number, edge_mark, stack}
use Rattle.model.proofs.Xor.{xor_false, xor_comm, xor_twice, xor_equal}
use Rattle.model.proofs.SumLaws.{odd_cong, odd_none, odd_and, odd_exchange, odd_append, odd_blocks, count_none}
use Rattle.model.proofs.CountLaws.{count_append, count_less}
use Rattle.theory.proofs.Syndromes.{syndrome_empty, syndrome_together}
use Rattle.theory.proofs.CrossedLines.{Line, crosses, same_mark, no_mark, crosses_oddly, Closed, winds_alike}
use Rattle.theory.proofs.Totals.{count_xor}
use Rattle.torus.proofs.TorusRows as Flat-rows
use Rattle.stack.specs.Layers.{StackWithin}
use Rattle.stack.proofs.StackEdges.{vertex_less, upright_is}
use Rattle.stack.proofs.StackRows.{edge_total, mark_is, flat_mark}
use Rattle.stack.proofs.StackStar.{to_above, from_below, stack_star}

-- edge e of the torus is in the shadow of D where D has it in an odd number of the R layers
abbrev pub shadow : ℕ → ℕ → Set → Set
shadow L R D e = odd_up_to R (λ k. D (edge_number L R (flat k e)))

-- the parity of the edges of the shadow that lie in c is that of all layers
shadow_parity : (R m : ℕ) (f : ℕ → ℕ → Bool) (c : Set)
    → odd_up_to R (λ k. odd_up_to m (λ e. f k e && c e)) ≡ odd_up_to m (λ e. odd_up_to R (λ k. f k e) && c e)
shadow_parity R m f c =
    odd_exchange R m (λ k e. f k e && c e)
    ∙ odd_cong m (λ e. odd_up_to R (λ k. f k e && c e)) (λ e. odd_up_to R (λ k. f k e) && c e)
    (λ e h.
    odd_cong R (λ k. f k e && c e) (λ k. c e && f k e) (λ k l. and_comm (f k e) (c e))
    ∙ odd_and R (c e) (λ k. f k e)
    ∙ and_comm (c e) (odd_up_to R (λ k. f k e)))

-- the syndrome of the shadow is that of all layers
shadow_syndrome : (B : Board) (R : ℕ) (f : ℕ → Set) (v : ℕ)
    → syndrome B (λ e. odd_up_to R (λ k. f k e)) v ≡ odd_up_to R (λ k. syndrome B (f k) v)
unfolding odd_up_to
shadow_syndrome B zero f v = syndrome_empty B v
shadow_syndrome B (suc R) f v =
    syndrome_together B (λ e. odd_up_to R (λ k. f k e)) (f R) v
    ∙ ap (λ x. x ⊕ syndrome B (f R) v) (shadow_syndrome B R f v)

-- the shadow has no more edges than all layers
shadow_count : (R m : ℕ) (D : Set) → count_up_to m (λ e. odd_up_to R (λ k. D (k * m + e))) ≤ count_up_to (R * m) D
unfolding odd_up_to
shadow_count zero m D = omega (arith, none_counted)
  where
    none_counted : count_up_to m (λ e. false) ≡ 0
    none_counted = count_none m (λ e. false) (λ i h. refl)
shadow_count (suc R) m D =
    rw (suc-mul R m)
    (omega (
      arith,
      count_xor m (λ e. odd_up_to R (λ k. D (k * m + e))) (λ e. D (R * m + e)),
      shadow_count R m D,
      count_append (R * m) m D,
    ))

module _ (L R : ℕ) (w : StackWithin L R) (D : Set) where
  abbrev n : ℕ
  n = layer_vertices L

  abbrev m : ℕ
  m = layer_edges L

  -- The lines: the edges of each layer cross them as the torus's do, and those between layers cross none.
  layer_crosses : (x : Line) (k : ℕ) → k < R
      → odd_up_to m (λ e. D (k * m + e) && crosses (stack L R) x (k * m + e)) ≡ odd_up_to m (λ e. D (k * m + e) && crosses (torus L) x e)
  layer_crosses x k h =
      odd_cong m (λ e. D (k * m + e) && crosses (stack L R) x (k * m + e)) (λ e. D (k * m + e) && crosses (torus L) x e)
      (λ e l. ap (λ t. D (k * m + e) && t) (same_mark (stack L R) (torus L) x (k * m + e) e (flat_mark L R k e h l)))

  between_crosses : (x : Line) → odd_up_to ((R - 1) * n) (λ i. D (R * m + i) && crosses (stack L R) x (R * m + i)) ≡ false
  between_crosses x =
      odd_none ((R - 1) * n) (λ i. D (R * m + i) && crosses (stack L R) x (R * m + i))
      (λ i h.
      let zero-mark : mark (stack L R) (R * m + i) ≡ 0 = mark_is L R (R * m + i) (omega arith) ∙ ap (edge_mark L) (upright_is L R i) in
      ap (λ t. D (R * m + i) && t) (no_mark (stack L R) x (R * m + i) zero-mark) ∙ and-false (D (R * m + i)))

  pub shadow_crosses : (x : Line) → crosses_oddly (stack L R) x D ≡ crosses_oddly (torus L) x (shadow L R D)
  unfolding crosses_oddly
  shadow_crosses x =
      ap (λ c. odd_up_to c (λ e. D e && crosses (stack L R) x e)) (edge_total L R)
      ∙ odd_append (R * m) ((R - 1) * n) (λ e. D e && crosses (stack L R) x e)
      ∙ ap₂ ◌⊕◌ (odd_blocks R m (λ e. D e && crosses (stack L R) x e)) (between_crosses x)
      ∙ xor_false _
      ∙ odd_cong R (λ k. odd_up_to m (λ e. D (k * m + e) && crosses (stack L R) x (k * m + e)))
      (λ k. odd_up_to m (λ e. D (k * m + e) && crosses (torus L) x e)) (layer_crosses x)
      ∙ shadow_parity R m (λ k e. D (k * m + e)) (crosses (torus L) x)
      ∙ ap (λ c. odd_up_to c (λ e. shadow L R D e && crosses (torus L) x e)) (sym (Flat-rows.edge_count L))

  -- Closed: what the first layers leave odd at v is the edge from the last of them to the next one.
  module _ (shut : Closed (stack L R) D) (v : ℕ) (in-layer : v < n) where
    abbrev layer_at : ℕ → Bool
    layer_at k = syndrome (torus L) (λ e. D (edge_number L R (flat k e))) v

    abbrev risen : ℕ → Bool
    risen zero = false
    risen (suc k) = to_above L R D k v

    risen_from : (k : ℕ) → k < R → risen k ≡ from_below L R D k v
    risen_from zero h = refl
    risen_from (suc k) h = rw (lt-ltb (k + 1) R (omega arith))

    moved : (s t b : Bool) → s ⊕ t ⊕ b ≡ false → b ⊕ s ≡ t
    moved s t b p = ap (λ x. x ⊕ s) (sym (xor_equal (s ⊕ t) b p) ∙ xor_comm s t) ∙ xor_twice t s

    star : (k : ℕ) → k < R → layer_at k ⊕ to_above L R D k v ⊕ from_below L R D k v ≡ false
    unfolding stack
    star k h = sym (stack_star L R w k v h in-layer D) ∙ shut.at (vertex_in L k v) (vertex_less L R k v h in-layer)

    rises : (j : ℕ) → j ≤ R → odd_up_to j layer_at ≡ risen j
    unfolding odd_up_to
    rises zero h = refl
    rises (suc k) h =
        ap (λ x. x ⊕ layer_at k) (rises k (omega arith) ∙ risen_from k (omega arith))
        ∙ moved (layer_at k) (to_above L R D k v) (from_below L R D k v) (star k (omega arith))

    -- from the last layer there is none
    nothing_risen : (r : ℕ) → r ≡ R → 1 ≤ r → risen r ≡ false
    nothing_risen zero q h = refl
    nothing_risen (suc k) q h = rw (le-ltb (k + 1) R (omega arith))

    shadow_even : syndrome (torus L) (shadow L R D) v ≡ false
    shadow_even =
        shadow_syndrome (torus L) R (λ k e. D (edge_number L R (flat k e))) v
        ∙ rises R (le_refl R)
        ∙ nothing_risen R refl w.some_round

  pub shadow_closed : Closed (stack L R) D → Closed (torus L) (shadow L R D)
  unfolding torus
  shadow_closed shut = record { at = shadow_even shut }

  -- no more edges
  pub shadow_size : size (torus L) (shadow L R D) ≤ size (stack L R) D
  shadow_size =
      rw (Flat-rows.edge_count L, edge_total L R)
      (omega (arith, shadow_count R m D, count_less (R * m) (stack_edges L R) D (omega arith)))

  -- so it winds where D does
  pub shadow_winds : winds (stack L R) D ≡ true → winds (torus L) (shadow L R D) ≡ true
  shadow_winds = winds_alike (stack L R) (torus L) D (shadow L R D) shadow_closed shadow_crosses
