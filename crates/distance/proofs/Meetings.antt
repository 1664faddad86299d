-- A start that is met on another copy gives a closed walk that crosses a line an odd number of times. Assumes nothing.
use Prim.Native.Nat.{ℕ, ◌-◌, ◌/◌}
use mathlib.Core.Path.{◌≡◌, refl, sym, ◌∙◌}
use mathlib.Core.Bool.{Bool, true, false}
use mathlib.Core.List.{List}
use native.Mathlib.Omega.{arith}
use Rattle.std.specs.Prelude.{Option, Some}
use Rattle.model.specs.Sums.{bytes}
use Rattle.model.specs.Board.{Board, Valid, edge_limit}
use Rattle.theory.proofs.CrossedLines.{Line, line_a, line_b}
use Rattle.theory.proofs.Walks.{walk_crosses}
use Rattle.distance.specs.States.{on_a, on_b}
use Rattle.distance.specs.Search.{home, trail, passed_from}
use Rattle.distance.specs.Walking.{Met}
use Rattle.distance.specs.Found.{bound, ShowsWalk, Improved}
use Rattle.distance.proofs.StateLaws.{state_parts}
use Rattle.distance.proofs.Leading.{Leads, trail_leads, trail_length}

-- what is at the start's vertex and is not the start has a bit of its copy set
other_copy : {A : Type 0} (s y : ℕ) → y / 4 ≡ s → (y ≡ home s → ⊥) → (on_a y ≡ true → A) → (on_b y ≡ true → A) → A
other_copy {A} s y vertex apart a b = go (on_a y) (on_b y) refl refl
  where
    go : (p q : Bool) → on_a y ≡ p → on_b y ≡ q → A
    go true q e f = a e
    go false true e f = b f
    go false false e f = absurd (apart (sym (state_parts y) ∙ rw (e, f, vertex) (omega arith)))

met_walk :
    {B : Board} {s best : ℕ} {D K : ℕ → ℕ} {y : ℕ} → Valid B → (met : Met B s best D K y) →
    ShowsWalk B met.edges (bytes edge_limit (passed_from B D K y))
met_walk {B} {s} {best} {D} {K} {y} valid met =
    other_copy s y met.vertex met.apart (λ a. shows line_a (leads.crossed_a ∙ a)) (λ b. shows line_b (leads.crossed_b ∙ b))
  where
    long : D y - 1 ≡ met.edges
    long = omega (arith, met.depth)

    leads : Leads B s y (trail B K (D y - 1) y)
    leads = rw long (trail_leads valid met.tree met.edges y met.inside met.depth)

    shows :
        (x : Line) → walk_crosses B x (trail B K (D y - 1) y) ≡ true →
        ShowsWalk B met.edges (bytes edge_limit (passed_from B D K y))
    shows x crossed =
        record {
          vertex = s;
          list = trail B K (D y - 1) y;
          walk = rw met.vertex at leads.walk;
          line = x;
          crossed = crossed;
          long = trail_length B K (D y - 1) y ∙ long;
          written = refl;
        }

-- the loop that was met is the best
pub improved :
    {B : Board} {s : ℕ} {best : Option ℕ} {D K : ℕ → ℕ} {y : ℕ} {found found' : List ℕ} → Valid B → Met B s (bound best) D K y →
    found' ≡ bytes edge_limit (passed_from B D K y) → Improved B s best found (Some (D y - 1)) found'
improved {D = D} {y = y} valid met written =
    let long : D y - 1 ≡ met.edges = omega (arith, met.depth) in
    rw long
    (record {
      least = met.least;
      no_worse = omega (arith, met.fewer);
      same = λ q. absurd (omega (arith, met.fewer));
      kept = λ q. absurd (omega (arith, met.fewer));
      shown = λ h. rw written (met_walk valid met);
    })
