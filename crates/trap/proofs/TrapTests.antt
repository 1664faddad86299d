-- The tests of the search for a trap: those of the board, then 8, 16 and 23; and what is lent where none of them refuses. Assumes nothing.
use Prim.Native.Nat.{ℕ, ◌≤◌, ◌<◌}
use mathlib.Core.Path.{◌≡◌, sym, ◌∙◌}
use mathlib.Core.Bool.{Bool, ◌&&◌}
use mathlib.Core.List.{List, [], ◌∷◌}
use mathlib.Core.Option.{Option, none, some}
use native.Mathlib.Omega.{arith}
use borrow.Author.Tests.{leb-true, le-leb, lt-leb}
use lib.ListN.{length}
use lib.Dec.{leb}
use Rattle.std.specs.Prelude.{Result, Ok, Err}
use Rattle.model.specs.declared.refusal.Refusal.TheVariants.{LossByte, OpenByte, TrapEdges}
use Rattle.model.specs.declared.refusal.Refusal.{Refusal}
use Rattle.model.specs.Sums.{or_else, first_up_to}
use Rattle.model.specs.Board.{Board, edges, edge_limit}
use Rattle.model.specs.Refusals.{Rule, above, refusal_of, sized, edges_of, board_rules, loss_rule, open_rule, trap_limit, trap_edges_rule, distance_refusal, trap_refusal}
use Rattle.model.proofs.Xor.{and_left, and_right}
use Rattle.model.proofs.RuleLists.{unless_passes, refusal_append}
use Rattle.board.specs.Checks.{test_of}
use Rattle.board.proofs.Failures.{passes_on, refuses_first, passes_first, neither_fails, each_passes}
use Rattle.board.proofs.Passing.{ranged_valid, bytes_say}
use Rattle.board.proofs.Validity.{Boarded, board_passes, long_enough}
use Rattle.board.proofs.Calls.{passes_distance}
use Rattle.trap.specs.Settable.{Settable}

-- the losses and the set have a byte for each edge
abbrev pub trap_sized : Board → List ℕ → List ℕ → Bool
trap_sized B loss set = sized loss (edges_of B.ends) && sized set (edges_of B.ends)

-- what is tested beside the board
abbrev pub setting_rules : Board → List ℕ → List Rule
setting_rules B loss = loss_rule loss ∷ open_rule B.opened ∷ trap_edges_rule B ∷ []

pub trap_tests : (B : Board) (loss set : List ℕ)
    → trap_refusal B loss set ≡ or_else (refusal_of (board_rules B (trap_sized B loss set))) (refusal_of (setting_rules B loss))
unfolding trap_refusal
trap_tests B loss set = refusal_append (board_rules B (trap_sized B loss set)) (setting_rules B loss)

-- the test 23
pub too_many : (B : Board) → trap_limit < edges B → refusal_of (trap_edges_rule B ∷ []) ≡ some TrapEdges
too_many B h = rw (lt-leb (edges B) trap_limit h)

pub few_enough : (B : Board) → edges B ≤ trap_limit → refusal_of (trap_edges_rule B ∷ []) ≡ none
few_enough B h = rw (le-leb (edges B) trap_limit h)

module _ (B : Board) (loss set : List ℕ) where
  boarded : refusal_of (board_rules B (trap_sized B loss set)) ≡ none → Boarded B (trap_sized B loss set)
  boarded p = board_passes B (trap_sized B loss set) p

  loss_long : Boarded B (trap_sized B loss set) → length loss ≡ edges B
  loss_long w = long_enough B loss w.board.inside (and_left _ _ w.fit)

  -- what the board's tests allow the test 8 to index
  pub loss_allowed : refusal_of (board_rules B (trap_sized B loss set)) ≡ none → length loss ≤ edge_limit
  loss_allowed p = let w = boarded p in omega (arith, loss_long w, w.board.inside.edges_limited)

  -- where the board's tests pass, 8 decides, or 16 and 23; then, where 8 passes, those two; then 23 alone
  module _ {r : Result Unit Refusal} (tested : test_of r ≡ refusal_of (board_rules B (trap_sized B loss set))) (is : r ≡ Ok tt) where
    pub after_board : trap_refusal B loss set ≡ refusal_of (setting_rules B loss)
    after_board = trap_tests B loss set ∙ passes_on _ _ _ tested is

    module _ {o : Option ℕ} (found : o ≡ first_up_to (length loss) (above 1 loss)) where
      pub loss_fails : {e : ℕ} → o ≡ some e → trap_refusal B loss set ≡ some (LossByte (record { 0 = e }))
      loss_fails q = rw (after_board, ← found, q)

      module _ (nothing : o ≡ none) where
        after_loss : trap_refusal B loss set ≡ refusal_of (open_rule B.opened ∷ trap_edges_rule B ∷ [])
        after_loss = rw (after_board, ← found, nothing)

        module _ {u : Result Unit Refusal} (opens : test_of u ≡ refusal_of (open_rule B.opened ∷ [])) where
          pub open_fails : {n : Refusal} → u ≡ Err n → trap_refusal B loss set ≡ some n
          open_fails q = after_loss ∙ refuses_first (open_rule B.opened) (trap_edges_rule B ∷ []) u opens q

          pub after_open : u ≡ Ok tt → trap_refusal B loss set ≡ refusal_of (trap_edges_rule B ∷ [])
          after_open q = after_loss ∙ passes_first (open_rule B.opened) (trap_edges_rule B ∷ []) u opens q

  module _ (p : trap_refusal B loss set ≡ none) where
    board_kept : Boarded B (trap_sized B loss set)
    board_kept = boarded (neither_fails (refusal_of (board_rules B (trap_sized B loss set))) _ (sym (trap_tests B loss set) ∙ p)).0

    pub trap_passes : Settable B loss
    trap_passes =
        let t = neither_fails (refusal_of (board_rules B (trap_sized B loss set))) _ (sym (trap_tests B loss set) ∙ p) in
        let e = each_passes (setting_rules B loss) t.1 in
        let w = board_kept in
        record {
          board = ranged_valid B w.board (bytes_say _ B.opened (λ v. OpenByte (record { 0 = v })) w.board.open_long e.1.0);
          losses = bytes_say _ loss (λ e. LossByte (record { 0 = e })) (loss_long w) e.0;
          few = leb-true _ _ (unless_passes (leb (edges B) trap_limit) TrapEdges e.1.1.0);
        }

    -- the distance doesn't refuse it either
    pub trap_measurable : distance_refusal B set ≡ none
    trap_measurable =
        passes_distance B set
        (record { board = trap_passes.board; shown_long = long_enough B set board_kept.board.inside (and_right (sized loss (edges_of B.ends)) _ board_kept.fit) })
