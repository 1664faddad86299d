-- Document 02, K11: a reply to every line of play. `WinsBy` has no word on how one is found; `shown` is the table's own. Assumes nothing.
use Rattle.std.specs.Prelude.{ℕ, ◌<◌, ◌≡◌, true, false, List}
use Rattle.model.specs.declared.answers.Player.{Player}
use Rattle.model.specs.declared.answers.Forced.{Forced}
use Rattle.model.specs.declared.answers.Forced.TheVariants.{Taking, Waiting}
use Rattle.model.specs.Board.{Board, edges}
use Rattle.model.specs.Game.{is_free, taken, other, over, won_by, forced}

-- a strategy: the edge to take in each position
abbrev pub Strategy : Type 0
Strategy = List ℕ → ℕ

-- e may be taken: it is one of the board's edges, and free
pub record Takeable (B : Board) (p : List ℕ) (e : ℕ) : Type 0 where
  pub an_edge : e < edges B
  pub free : is_free p e ≡ true

-- P wins from p on by the strategy, with the player `turn` to move, whatever the other takes. Every line of play is followed to its end: at
-- the end P has won; where P is to move, the strategy's edge may be taken, and P wins on from there; and where the other is to move, P wins
-- on after each edge that may be taken.
pub data WinsBy (B : Board) (P : Player) (plan : Strategy) : Player → List ℕ → Type 0 where
  at_end : {turn : Player} {p : List ℕ} → over B p ≡ true → won_by B p ≡ P → WinsBy B P plan turn p
  by_plan : {turn : Player} {p : List ℕ} → over B p ≡ false → turn ≡ P
      → Takeable B p (plan p) → WinsBy B P plan (other P) (taken P (plan p) p) → WinsBy B P plan turn p
  by_any : {turn : Player} {p : List ℕ} → over B p ≡ false → turn ≡ other P
      → ((e : ℕ) → Takeable B p e → WinsBy B P plan P (taken (other P) e p)) → WinsBy B P plan turn p

-- the table's own strategy: the edge that is shown for the position. Where none is, it says 0, which nobody takes: the game is over, or the
-- other is to move.
abbrev pub edge_shown : Forced → ℕ
edge_shown (Taking P e) = e.0
edge_shown (Waiting P) = 0

abbrev pub shown : Board → Strategy
shown B p = edge_shown (forced B p)
