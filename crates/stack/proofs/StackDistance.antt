-- The distance of a stack is that of its torus: the shadow of a winding loop of the stack winds on the torus and has no more edges, and a
-- winding loop of the torus, laid into layer 0, winds on the stack. So the distance is the side, whatever the number of layers.
-- Assumes nothing.
use Prim.Native.Nat.{ℕ}
use mathlib.Core.Path.{◌≡◌, refl, sym, ◌∙◌}
use mathlib.Core.Bool.{false≢true}
use mathlib.Core.Logic.{◌↔◌}
use mathlib.Core.Option.{Option, none, some}
use native.Mathlib.Omega.{arith}
use Rattle.std.proofs.lemmas.Bool.{false_from_ne_true}
use Rattle.model.specs.Winding.{winds}
use Rattle.model.specs.Distance.{fewest}
use Rattle.model.specs.Demand3.{EveryLoopAbove}
use Rattle.model.specs.Torus.{torus}
use Rattle.model.specs.Stack.{stack}
use Rattle.theory.proofs.Distances.{Least, fewest_least, fewest_none, least_fewest, none_fewest}
use Rattle.torus.proofs.TorusDistance.{torus_distance}
use Rattle.stack.specs.Layers.{StackWithin}
use Rattle.stack.proofs.LoopShadows.{shadow, shadow_size, shadow_winds}
use Rattle.stack.proofs.LayerLoops.{in_layer_zero, layer_size, layer_winds}

-- every winding loop of the torus has more than k edges exactly where every winding loop of the stack has
pub stack_loops_above : (L R : ℕ) → StackWithin L R → (k : ℕ) → EveryLoopAbove (torus L) k ↔ EveryLoopAbove (stack L R) k
stack_loops_above L R w k = (
  λ flat.
      record { above = λ D p. omega (arith, flat.above (shadow L R D) (shadow_winds L R w D p), shadow_size L R w D) },
  λ stacked.
      record { above = λ E p. omega (arith, stacked.above (in_layer_zero L E) (layer_winds L R w E p), layer_size L R w E) },
)

-- the fewest edges of a winding loop of the torus are the fewest of one of the stack
pub stack_least : (L R : ℕ) → StackWithin L R → (d : ℕ) → Least (torus L) d → Least (stack L R) d
stack_least L R w d l =
    let E = l.reached.set in
    record {
      reached = record {
        set = in_layer_zero L E;
        holds = layer_winds L R w E l.reached.holds;
        count = layer_size L R w E ∙ l.reached.count;
      };
      least = λ D p. omega (arith, l.least (shadow L R D) (shadow_winds L R w D p), shadow_size L R w D);
    }

-- so the distances are one, and there is none where the torus has none
pub stack_distance : (L R : ℕ) → StackWithin L R → fewest (stack L R) ≡ fewest (torus L)
stack_distance L R w = go (fewest (torus L)) refl
  where
    go : (o : Option ℕ) → fewest (torus L) ≡ o → fewest (stack L R) ≡ o
    go none p =
        none_fewest (stack L R)
        (λ D.
        false_from_ne_true (winds (stack L R) D)
        (λ q. false≢true (sym (fewest_none (torus L) p (shadow L R D)) ∙ shadow_winds L R w D q)))
    go (some d) p = least_fewest (stack L R) d (stack_least L R w d (fewest_least (torus L) d p))

-- and that of the torus is its side
pub stack_distance_is_side : (L R : ℕ) → StackWithin L R → fewest (stack L R) ≡ some L
stack_distance_is_side L R w = stack_distance L R w ∙ torus_distance L w.side.least
