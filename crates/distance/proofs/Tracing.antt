-- Going back along the kept edges, turn by turn: the bytes flipped so far and the edges still to be passed make up the whole trail.
-- Assumes nothing.
use Prim.Native.Nat.{ℕ, suc, ◌-◌, ◌≤◌, ◌<◌}
use mathlib.Core.Path.{◌≡◌, refl, sym, ap, ◌∙◌}
use mathlib.Core.Bool.{false}
use mathlib.Core.List.{List, ◌∷◌}
use native.Mathlib.Omega.{arith}
use lib.ListN.{get_or, set, replicate}
use lib.Dec.{eqb}
use Rattle.model.specs.Sums.{Set, ◌⊕◌, bit, bytes}
use Rattle.model.specs.Board.{Board, edge_limit}
use Rattle.model.proofs.Xor.{xor_false, xor_assoc}
use Rattle.model.proofs.Bits.{bit_bound}
use Rattle.model.proofs.ListLaws.{values_cong}
use Rattle.theory.proofs.Walks.{passed_oddly}
use Rattle.distance.specs.States.{across, padded, state_limit}
use Rattle.distance.specs.Search.{at, Kept, trail, passed_from}
use Rattle.distance.specs.Tracing.{Rooted, Traceable}
use Rattle.distance.proofs.StateLaws.{across_bound}
use Rattle.distance.proofs.ShownBytes.{byte_at, blank_bytes, flip_bytes}

-- the first edge of a trail
trail_first :
    (B : Board) (D K : ℕ → ℕ) (y : ℕ) → 1 < D y → Kept B D K y →
    trail B K (D y - 1) y ≡ K y ∷ trail B K (D (across B y (K y)) - 1) (across B y (K y))
unfolding trail
trail_first B D K y deep one =
    let long : D y - 1 ≡ suc (D (across B y (K y)) - 1) = omega (arith, one.above) in
    rw long

-- at the head of the loop: the edges shown so far, and those from state y to the start
pub record Tracing (ends marks D K : List ℕ) (from y : ℕ) (found : List ℕ) : Type 0 where
  pub rooted : Rooted ends marks D K
  pub inside : y < state_limit
  pub met : 1 ≤ at D y
  pub set_of : Set
  pub written : found ≡ bytes edge_limit set_of
  pub rest : (i : ℕ) →
      set_of i ⊕ passed_from (padded ends marks) (at D) (at K) y i ≡ passed_from (padded ends marks) (at D) (at K) from i

pub tracing_start : {ends marks D K : List ℕ} {from : ℕ} → Traceable ends marks D K from → Tracing ends marks D K from from (replicate edge_limit 0)
tracing_start t =
    record {
      rooted = t.rooted;
      inside = t.inside;
      met = t.met;
      set_of = λ i. false;
      written = blank_bytes edge_limit;
      rest = λ i. refl;
    }

module _ {ends marks D K : List ℕ} {from y : ℕ} {found : List ℕ} (tracing : Tracing ends marks D K from y found) where
  abbrev B : Board
  B = padded ends marks

  -- the bytes are 0 or 1
  pub found_byte : (i : ℕ) → i < edge_limit → get_or found i 0 ≤ 1
  found_byte i h = rw (tracing.written, byte_at edge_limit tracing.set_of i h) (bit_bound (tracing.set_of i))

  -- where the state is not the start
  module _ (deep : 1 < at D y) where
    pub kept_edge : Kept B (at D) (at K) y
    kept_edge = tracing.rooted.tree.kept y tracing.inside deep

    pub kept_place : at K y < edge_limit
    kept_place = omega (arith, kept_edge.edge, tracing.rooted.valid.inside.edges_limited)

    -- its kept edge is passed
    pub tracing_step : Tracing ends marks D K from (across B y (at K y)) (set found (at K y) (1 - get_or found (at K y) 0))
    tracing_step =
        record {
          rooted = tracing.rooted;
          inside = across_bound B tracing.rooted.valid y (at K y) kept_edge.edge;
          met = omega (arith, kept_edge.above);
          set_of = λ i. tracing.set_of i ⊕ eqb (at K y) i;
          written = rw tracing.written (flip_bytes edge_limit (at K y) tracing.set_of kept_place);
          rest = λ i.
              xor_assoc (tracing.set_of i) (eqb (at K y) i) (passed_from B (at D) (at K) (across B y (at K y)) i)
              ∙ ap (λ l. tracing.set_of i ⊕ passed_oddly l i) (sym (trail_first B (at D) (at K) y deep kept_edge))
              ∙ tracing.rest i;
        }

  -- at the start nothing is left
  pub tracing_end : at D y ≤ 1 → found ≡ bytes edge_limit (passed_from B (at D) (at K) from)
  unfolding trail
  tracing_end flat =
      tracing.written
      ∙ values_cong edge_limit (λ i. bit (tracing.set_of i)) (λ i. bit (passed_from B (at D) (at K) from i))
      (λ i h. ap bit (sym (xor_false (tracing.set_of i)) ∙ ap (λ k. tracing.set_of i ⊕ passed_oddly (trail B (at K) k y) i) none ∙ tracing.rest i))
    where
      none : 0 ≡ at D y - 1
      none = omega (arith, tracing.met)
