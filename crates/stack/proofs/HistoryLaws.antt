-- Histories and sets of stacked edges. The syndrome of a history's events is what changes from each round's reading to the next, so it is
-- the stack's syndrome of some readings exactly where they are the history's; and every set of stacked edges is the events of a history.
-- Assumes nothing.
use Prim.Native.Nat.{ℕ, zero, suc, ◌+◌, ◌-◌, ◌/◌, ◌%◌, ◌<◌}
use mathlib.Core.Path.{◌≡◌, refl, sym, ap, ap₂, ◌∙◌}
use mathlib.Core.Bool.{Bool, true, false}
use mathlib.Core.List.{List}
use mathlib.Core.Logic.{◌↔◌}
use native.Mathlib.Decide.{dec_lt}
use native.Mathlib.Omega.{arith}
use borrow.Author.Tests.{lt-ltb, le-ltb}
use lib.Arith.{digits_div, digits_mod}
use Rattle.model.specs.Sums.{Set, ◌⊕◌, ones}
use Rattle.model.specs.Syndrome.{syndrome, HasSyndrome}
use Rattle.model.specs.Torus.{torus}
use Rattle.model.specs.Stack.{layer_vertices, stack_vertices, flat_edges, stack_edges, vertex_in, flat, upright, edge_number, stack, read_at, layer_syndrome, stack_syndrome}
use Rattle.model.specs.Histories.{History, flipped_by, read_by, ReadingsOf, happens, events, history_of}
use Rattle.model.proofs.Xor.{xor_false, xor_twice}
use Rattle.model.proofs.ListLaws.{ones_bytes}
use Rattle.theory.proofs.Syndromes.{syndrome_cong, syndrome_together, has_syndrome_cong}
use Rattle.torus.proofs.TorusRows as Flat-rows
use Rattle.stack.specs.Layers.{StackWithin}
use Rattle.stack.proofs.Numbering.{some_vertex}
use Rattle.stack.proofs.StackEdges.{vertex_less, by_layers, flat_is, flat_number, upright_is, upright_layer, upright_number, number_edge}
use Rattle.stack.proofs.StackRows.{edge_total}
use Rattle.stack.proofs.StackStar.{to_above, stack_star}

-- the stack's syndrome of these readings, layer by layer
layer_bytes : (L R : ℕ) (readings : List ℕ) (k v : ℕ) → k < R → v < layer_vertices L
    → ones (stack_syndrome L R readings) (vertex_in L k v) ≡ layer_syndrome L readings k v
unfolding stack_syndrome
layer_bytes L R readings k v in_stack in-layer =
    ones_bytes (stack_vertices L R) (λ u. layer_syndrome L readings (u / layer_vertices L) (u % layer_vertices L))
    (vertex_in L k v) (vertex_less L R k v in_stack in-layer)
    ∙ ap₂ (λ j u. layer_syndrome L readings j u) (digits_div k in-layer) (digits_mod k in-layer)

-- What a history changes in round k: its reading, exclusive or the previous one; in round 0 its reading.
abbrev pub changed_by : (L R : ℕ) → History L R → ℕ → Set
changed_by L R h zero v = read_by L R h 0 v
changed_by L R h (suc k) v = read_by L R h (suc k) v ⊕ read_by L R h k v

telescopes : (a b c d : Bool) → b ⊕ c ⊕ d ≡ ((a ⊕ b) ⊕ c) ⊕ (a ⊕ d)
telescopes false b c d = refl
telescopes true true true true = refl
telescopes true true true false = refl
telescopes true true false true = refl
telescopes true true false false = refl
telescopes true false true true = refl
telescopes true false true false = refl
telescopes true false false true = refl
telescopes true false false false = refl

module _ (L R : ℕ) (w : StackWithin L R) (h : History L R) where
  abbrev E : Set
  E = events L R h

  -- the events in layer k are its round's flips, and those to the next layer its wrong readings
  own_flips : (k v : ℕ) → k < R
      → syndrome (torus L) (λ e. E (edge_number L R (flat k e))) v ≡ syndrome (torus L) (h.flips k) v
  own_flips k v in_stack =
      syndrome_cong (torus L) (λ e. E (edge_number L R (flat k e))) (h.flips k)
      (λ e l. ap (happens L R h) (flat_number L R k e in_stack (omega (arith, Flat-rows.edge_count L)))) v

  wrong_at : (k v : ℕ) → v < layer_vertices L → E (edge_number L R (upright k v)) ≡ h.wrong k v
  wrong_at k v in-layer = ap (happens L R h) (upright_number L R k v in-layer)

  -- the last layer has no edge to a next one, and nothing is read wrongly there
  wrong_above : (k v : ℕ) → k < R → v < layer_vertices L → to_above L R E k v ≡ h.wrong k v
  wrong_above k v in_stack in-layer =
      elim (dec_lt (k + 1) R) [
        | yes l ↦ rw (lt-ltb (k + 1) R l) (wrong_at k v in-layer)
        | no l ↦ rw (le-ltb (k + 1) R (omega arith)) (sym (h.last_right k (omega arith) v in-layer))
      ]

  -- The syndrome of the events is what changes.
  pub events_change : (k v : ℕ) → k < R → v < layer_vertices L → syndrome (stack L R) E (vertex_in L k v) ≡ changed_by L R h k v
  events_change zero v in_stack in-layer =
      stack_star L R w 0 v in_stack in-layer E
      ∙ ap₂ (λ x y. x ⊕ y ⊕ false) (own_flips 0 v in_stack) (wrong_above 0 v in_stack in-layer)
      ∙ xor_false (read_by L R h 0 v)
  events_change (suc k) v in_stack in-layer =
      let old = flipped_by h.flips k in
      let new = h.flips (suc k) in
      stack_star L R w (suc k) v in_stack in-layer E
      ∙ ap₂ ◌⊕◌ (ap₂ ◌⊕◌ (own_flips (suc k) v in_stack) (wrong_above (suc k) v in_stack in-layer)) (wrong_at k v in-layer)
      ∙ telescopes (syndrome (torus L) old v) (syndrome (torus L) new v) (h.wrong (suc k) v) (h.wrong k v)
      ∙ ap (λ x. (x ⊕ h.wrong (suc k) v) ⊕ (syndrome (torus L) old v ⊕ h.wrong k v)) (sym (syndrome_together (torus L) old new v))

  module _ (readings : List ℕ) where
    -- So where the readings are the history's, its events have the stack's syndrome ..
    pub events_syndrome : ReadingsOf L R h readings → HasSyndrome (stack L R) E (ones (stack_syndrome L R readings))
    unfolding stack
    events_syndrome is =
        record {
          at = by_layers L R (some_vertex L R w) (syndrome (stack L R) E) (ones (stack_syndrome L R readings))
              (λ k v in_stack in-layer.
              events_change k v in_stack in-layer
              ∙ same k v in_stack in-layer
              ∙ sym (layer_bytes L R readings k v in_stack in-layer));
        }
      where
        same : (k v : ℕ) → k < R → v < layer_vertices L → changed_by L R h k v ≡ layer_syndrome L readings k v
        same zero v in_stack in-layer = sym (is.each 0 v in_stack in-layer)
        same (suc k) v in_stack in-layer =
            sym (ap₂ ◌⊕◌ (is.each (suc k) v in_stack in-layer) (is.each k v (omega arith) in-layer))

    -- .. and the reverse, round by round.
    pub syndrome_events : HasSyndrome (stack L R) E (ones (stack_syndrome L R readings)) → ReadingsOf L R h readings
    unfolding stack
    syndrome_events has = record { each = round }
      where
        change : (k v : ℕ) → k < R → v < layer_vertices L → layer_syndrome L readings k v ≡ changed_by L R h k v
        change k v in_stack in-layer =
            sym (layer_bytes L R readings k v in_stack in-layer)
            ∙ sym (has.at (vertex_in L k v) (vertex_less L R k v in_stack in-layer))
            ∙ events_change k v in_stack in-layer

        round : (k v : ℕ) → k < R → v < layer_vertices L → read_at L readings k v ≡ read_by L R h k v
        round zero v in_stack in-layer = change 0 v in_stack in-layer
        round (suc k) v in_stack in-layer =
            sym (xor_twice (read_at L readings (suc k) v) (read_at L readings k v))
            ∙ ap₂ ◌⊕◌ (change (suc k) v in_stack in-layer) (round k v (omega arith) in-layer)
            ∙ xor_twice (read_by L R h (suc k) v) (read_by L R h k v)

-- Every set of stacked edges is the events of its history.
pub arises : (L R : ℕ) → StackWithin L R → (E : Set) (i : ℕ) → i < stack_edges L R → events L R (history_of L R E) i ≡ E i
arises L R w E i h =
    elim (dec_lt i (flat_edges L R)) [
      | yes first ↦
          ap (happens L R (history_of L R E)) (flat_is L R i first)
          ∙ sym (ap (λ s. E (edge_number L R s)) (flat_is L R i first))
          ∙ ap E (number_edge L R i)
      | no last ↦ later (i - flat_edges L R) (omega arith)
    ]
  where
    later : (u : ℕ) → i ≡ flat_edges L R + u → events L R (history_of L R E) i ≡ E i
    later u q =
        let inside = upright_layer L R u (some_vertex L R w) (omega arith) in
        ap (events L R (history_of L R E)) q
        ∙ ap (happens L R (history_of L R E)) (upright_is L R u)
        ∙ rw (lt-ltb (u / layer_vertices L + 1) R inside)
        (sym (ap (λ s. E (edge_number L R s)) (upright_is L R u)) ∙ ap E (number_edge L R (flat_edges L R + u)))
        ∙ ap E (sym q)

-- So a set has the stack's syndrome of these readings exactly where they are its history's.
pub syndrome_readings : (L R : ℕ) → StackWithin L R → (E : Set) (readings : List ℕ)
    → HasSyndrome (stack L R) E (ones (stack_syndrome L R readings)) → ReadingsOf L R (history_of L R E) readings
syndrome_readings L R w E readings has =
    syndrome_events L R w (history_of L R E) readings
    (has_syndrome_cong (stack L R) (events L R (history_of L R E)) E (ones (stack_syndrome L R readings))
    (λ e l. arises L R w E e (omega (arith, edge_total L R))) has)

pub readings_exactly : (L R : ℕ) → StackWithin L R → (E : Set) (readings : List ℕ)
    → HasSyndrome (stack L R) E (ones (stack_syndrome L R readings)) ↔ ReadingsOf L R (history_of L R E) readings
readings_exactly L R w E readings = (
  syndrome_readings L R w E readings,
  λ is.
      has_syndrome_cong (stack L R) E (events L R (history_of L R E)) (ones (stack_syndrome L R readings))
      (λ e l. sym (arises L R w E e (omega (arith, edge_total L R)))) (events_syndrome L R w (history_of L R E) readings is),
)
