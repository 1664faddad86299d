-- The search from a position that passes the tests finds what the model says, and that is the outcome. Assumes nothing.
use Prim.Native.Nat.{ℕ, ◌^◌}
use mathlib.Core.Path.{◌≡◌, sym, ap, ◌∙◌}
use mathlib.Core.Logic.{◌≢◌}
use mathlib.Core.List.{List}
use mathlib.Core.Option.{none, some}
use native.Mathlib.Omega.{arith}
use borrow.Author.Tests.{eq-eqb, ne_eqb}
use lib.ListN.{length}
use Rattle.model.specs.declared.answers.Player.TheVariants.{Winder, Blocker}
use Rattle.model.specs.declared.answers.Forced.{Forced}
use Rattle.model.specs.declared.refusal.Refusal.{Refusal}
use Rattle.model.specs.Board.{Board, edges}
use Rattle.model.specs.Sums.{count_up_to}
use Rattle.model.specs.Words.{bit_of, number_with}
use Rattle.model.specs.Game.{is_free, held_by, free_count, held_count, winder_to_move, blocker_to_move, forced}
use Rattle.model.specs.Refusals.{game_refusal}
use Rattle.model.specs.GameOutcomes.{game_answer, Plays, PlaysSoundly}
use Rattle.model.proofs.SumLaws.{count_cong}
use Rattle.theory.proofs.BitLaws.{number_bit}
use Rattle.game.specs.Playable.{Playable}
use Rattle.game.specs.Searching.{Searchable, wind_from, block_from}
use Rattle.game.specs.LoopTable.{Filled}
use Rattle.game.proofs.MaskLaws.{apart_below}
use Rattle.game.proofs.Moves.{free_unheld}
use Rattle.game.proofs.Standing.{Stands, winds_alike, blocks_alike}
use Rattle.game.proofs.SoundPlay.{soundly}
use Rattle.std.specs.Prelude.{Ok, Err}

-- the masks and the count that the search begins with
module _ (B : Board) (p loops : List ℕ) (play : Playable B p) (filled : Filled B (2 ^ edges B) loops) {h f : ℕ}
    (held : h ≡ number_with (length p) (held_by Winder p)) (free : f ≡ number_with (length p) (is_free p)) where
  stands : Stands (edges B) p h f
  stands =
      record {
        long = play.long;
        held = held ∙ ap (λ m. number_with m (held_by Winder p)) play.long;
        free = free ∙ ap (λ m. number_with m (is_free p)) play.long;
      }

  pub searchable : {k : ℕ} → k ≡ free_count p → Searchable loops (edges B) h f k
  searchable left =
      let m = edges B in
      let room = apart_below m (is_free p) (held_by Winder p) (λ e l q. free_unheld Winder p e q) in
      record {
        few = play.few;
        long = filled.long;
        room = omega (arith, stands.held, stands.free, room);
        free_edges =
            left
            ∙ ap (λ n. count_up_to n (is_free p)) play.long
            ∙ count_cong m (is_free p) (bit_of f) (λ e l. sym (ap (λ x. bit_of x e) stands.free ∙ number_bit m (is_free p) e l));
      }

  -- where each has as many edges Winder begins, and else Blocker
  pub winder_begins : {k w b : ℕ} {r : Forced} → k ≡ free_count p → w ≡ held_count Winder p → b ≡ held_count Blocker p → w ≡ b
      → r ≡ wind_from k loops (edges B) h f → r ≡ forced B p
  unfolding forced
  winder_begins {k} {w} {b} left winders blockers level is =
      rw (← winders, ← blockers, eq-eqb w b level)
      (is ∙ winds_alike B loops filled k p h f stands ∙ ap (λ n. winder_to_move n B p) left)

  pub blocker_begins : {k w b : ℕ} {r : Forced} → k ≡ free_count p → w ≡ held_count Winder p → b ≡ held_count Blocker p → w ≢ b
      → r ≡ block_from k loops (edges B) h f → r ≡ forced B p
  unfolding forced
  blocker_begins {k} {w} {b} left winders blockers ahead is =
      rw (← winders, ← blockers, ne_eqb w b ahead)
      (is ∙ blocks_alike B loops filled k p h f stands ∙ ap (λ n. blocker_to_move n B p) left)

-- The outcome, where the tests refuse and where they pass

module _ (B : Board) (p : List ℕ) where
  pub refused : {n : Refusal} → game_refusal B p ≡ some n → Plays B p (Err n) × PlaysSoundly B p (Err n)
  unfolding game_answer
  refused {n} t =
      let is : Err n ≡ game_answer B p = rw t in
      (record { result = is }, soundly B p (Err n) is)

  pub played : {f : Forced} → game_refusal B p ≡ none → f ≡ forced B p → Plays B p (Ok f) × PlaysSoundly B p (Ok f)
  unfolding game_answer
  played {f} t q =
      let is : Ok f ≡ game_answer B p = rw t (ap Ok q) in
      (record { result = is }, soundly B p (Ok f) is)
