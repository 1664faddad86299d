-- Document 02, K11: the outcome of the game's call, and what players may rely on. It is lent nothing to fill. Assumes nothing.
use Rattle.std.specs.Prelude.{ℕ, ◌<◌, ◌≡◌, true, ◌⊎◌, List, Ok, Err}
use Rattle.std.proofs.Math.Option.{none}
use Rattle.model.specs.declared.numbers.Edge.{Edge}
use Rattle.model.specs.declared.answers.Player.{Player}
use Rattle.model.specs.declared.answers.Forced.{Forced}
use Rattle.model.specs.declared.answers.Forced.TheVariants.{Taking, Waiting}
use Rattle.model.specs.Board.{Board}
use Rattle.model.specs.Game.{taken, other, mover, over, won_by, winner, forced}
use Rattle.model.specs.Replies.{Strategy, Takeable, WinsBy, shown}
use Rattle.model.specs.Refusals.{game_refusal}
use Rattle.model.specs.Outcomes.{answer}
use Rattle.model.specs.Answers.{Game}

-- The answer: a refusal, or who can force the win, with the edge.
unfoldable pub game_answer : Board → List ℕ → Game
game_answer B p = answer (game_refusal B p) Err (Ok (forced B p))

pub record Plays (B : Board) (p : List ℕ) (r : Game) : Type 0 where
  pub result : r ≡ game_answer B p

-- What players may rely on. The winner named has a reply to every line of play, by taking the edges that the table shows; and no other
-- player has: whoever wins by any strategy is the winner named. An edge is shown only to the winner, and only where the winner is to move;
-- it may be taken, it is the first of the strategy's edges, and after any smaller one the other wins. Where none is shown, the game is over
-- or the other is to move; and where it is over, its winner is named and no edge. After any move the position is not refused either, so
-- that the table shows the edges of the whole line.
pub record PlaysSoundly (B : Board) (p : List ℕ) (r : Game) : Type 0 where
  pub replies : (f : Forced) → r ≡ Ok f → WinsBy B (winner f) (shown B) (mover p) p
  pub alone : (f : Forced) → r ≡ Ok f → (P : Player) (plan : Strategy) → WinsBy B P plan (mover p) p → P ≡ winner f
  pub begins : (P : Player) (e : Edge) → r ≡ Ok (Taking P e) → (P ≡ mover p) × Takeable B p e.0 × (shown B p ≡ e.0)
  pub smallest : (P : Player) (e : Edge) → r ≡ Ok (Taking P e)
      → (i : ℕ) → i < e.0 → Takeable B p i → WinsBy B (other P) (shown B) (other P) (taken P i p)
  pub waits : (P : Player) → r ≡ Ok (Waiting P) → (over B p ≡ true) ⊎ (P ≡ other (mover p))
  pub finished : (f : Forced) → r ≡ Ok f → over B p ≡ true → f ≡ Waiting (won_by B p)
  pub goes_on : (f : Forced) → r ≡ Ok f → (e : ℕ) → Takeable B p e → game_refusal B (taken (mover p) e p) ≡ none
