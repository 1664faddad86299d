-- The game's tests: those of the whole board, then 20 to 22; and what is lent where none of them refuses, and the reverse. Assumes
-- nothing.
use Prim.Native.Nat.{ℕ, ◌+◌, ◌≤◌, ◌<◌}
use mathlib.Core.Path.{◌≡◌, sym, ◌∙◌}
use mathlib.Core.Bool.{Bool, ◌||◌, or-true}
use mathlib.Core.Logic.{◌⊎◌, inl, inr, ⊎_elim}
use mathlib.Core.List.{List, [], ◌∷◌}
use mathlib.Core.Option.{none, some}
use native.Mathlib.Omega.{arith}
use borrow.Author.Tests.{leb-true, ltb-false, eqb-true, le-ltb, le-leb, lt-leb, eq-eqb}
use lib.ListN.{length}
use lib.Dec.{eqb, leb}
use Rattle.std.proofs.lemmas.Bool.{or_cases}
use Rattle.model.specs.declared.refusal.Refusal.TheVariants.{GameEdges, PositionByte, MoveCount}
use Rattle.model.specs.declared.answers.Player.TheVariants.{Winder, Blocker}
use Rattle.model.specs.Sums.{or_else}
use Rattle.model.specs.Board.{Board, edges, edge_limit}
use Rattle.model.specs.Game.{held_count}
use Rattle.model.specs.Refusals.{Rule, tested, refusal_of, above, sized, edges_of, game_limit, game_edges_rule, position_rule, move_rule, game_refusal, whole_rules}
use Rattle.model.proofs.RuleLists.{unless_passes, refusal_append}
use Rattle.board.proofs.Failures.{neither_fails, each_passes, passes_each}
use Rattle.board.proofs.Passing.{place_passes, passes_place}
use Rattle.board.proofs.Validity.{whole_passes, passes_whole, long_enough, enough_long}
use Rattle.game.specs.Playable.{Playable}

-- the position has a byte for each edge
abbrev pub position_sized : Board → List ℕ → Bool
position_sized B p = sized p (edges_of B.ends)

-- what is tested of a position on a board that keeps its own rules
abbrev pub play_rules : Board → List ℕ → List Rule
play_rules B p = game_edges_rule B ∷ position_rule p ∷ move_rule p ∷ []

pub game_tests : (B : Board) (p : List ℕ)
    → game_refusal B p ≡ or_else (refusal_of (whole_rules B (position_sized B p))) (refusal_of (play_rules B p))
unfolding game_refusal
game_tests B p = refusal_append (whole_rules B (position_sized B p)) (play_rules B p)

-- the test 20: it refuses where there are too many edges, and else those of the position decide
pub too_many : (B : Board) (p : List ℕ) → game_limit < edges B → refusal_of (play_rules B p) ≡ some GameEdges
too_many B p h = rw (lt-leb (edges B) game_limit h)

pub few_enough : (B : Board) (p : List ℕ) → edges B ≤ game_limit → refusal_of (play_rules B p) ≡ refusal_of (position_rule p ∷ move_rule p ∷ [])
few_enough B p h = rw (le-leb (edges B) game_limit h)

-- what the board's tests allow the test 21 to index
pub position_allowed : (B : Board) (p : List ℕ) → refusal_of (whole_rules B (position_sized B p)) ≡ none → length p ≤ edge_limit
position_allowed B p q =
    let w = whole_passes B (position_sized B p) q in
    omega (arith, long_enough B p w.board.inside w.fit, w.board.inside.edges_limited)

pub game_passes : (B : Board) (p : List ℕ) → game_refusal B p ≡ none → Playable B p
game_passes B p q =
    let t = neither_fails (refusal_of (whole_rules B (position_sized B p))) _ (sym (game_tests B p) ∙ q) in
    let w = whole_passes B (position_sized B p) t.0 in
    let e = each_passes (play_rules B p) t.1 in
    let level = eqb (held_count Winder p) (held_count Blocker p) in
    let ahead = eqb (held_count Winder p) (held_count Blocker p + 1) in
    record {
      board = w.board;
      few = leb-true _ _ (unless_passes (leb (edges B) game_limit) GameEdges e.0);
      long = long_enough B p w.board.inside w.fit;
      bytes = λ i h. ltb-false _ _ (place_passes (length p) (above 2 p) (λ i. PositionByte (record { 0 = i })) e.1.0 i h);
      turns =
          ⊎_elim (λ l. inl (eqb-true _ _ l)) (λ l. inr (eqb-true _ _ l))
          (or_cases level ahead (unless_passes (level || ahead) MoveCount e.1.1.0));
    }

-- and the reverse
by_turns : (p : List ℕ) → (held_count Winder p ≡ held_count Blocker p) ⊎ (held_count Winder p ≡ held_count Blocker p + 1) → tested (move_rule p) ≡ none
by_turns p =
    ⊎_elim
    (λ level. rw (eq-eqb (held_count Winder p) (held_count Blocker p) level))
    (λ ahead. rw (eq-eqb (held_count Winder p) (held_count Blocker p + 1) ahead, or-true))

pub passes_game : (B : Board) (p : List ℕ) → Playable B p → game_refusal B p ≡ none
passes_game B p w =
    game_tests B p
    ∙ rw (passes_whole B (position_sized B p) (record { board = w.board; fit = enough_long B p w.board.inside w.long }))
    (few_enough B p w.few
    ∙ passes_each (position_rule p ∷ move_rule p ∷ []) (
      passes_place (length p) (above 2 p) (λ i. PositionByte (record { 0 = i })) (λ i h. le-ltb _ _ (w.bytes i h)),
      (by_turns p w.turns, tt),
    ))
