-- Document 02, K11: the game of Winder and Blocker on the edges of a board, who can force the win, and the smallest edge that keeps it.
-- Assumes nothing.
use Rattle.std.specs.Prelude.{ℕ, zero, suc, Bool, true, false, cond, ◌&&◌, ◌||◌, List, length, get_or, set, eqb}
use Rattle.std.proofs.Math.Option.{Option, none, some}
use Rattle.model.specs.declared.answers.Player.{Player}
use Rattle.model.specs.declared.answers.Player.TheVariants.{Winder, Blocker}
use Rattle.model.specs.declared.answers.Forced.{Forced}
use Rattle.model.specs.declared.answers.Forced.TheVariants.{Taking, Waiting}
use Rattle.model.specs.Sums.{Set, count_up_to, first_up_to}
use Rattle.model.specs.Board.{Board, edges}
use Rattle.model.specs.Winding.{winds}
use Rattle.model.specs.Distance.{with}

-- A position has a byte for each edge: 0 where it is free, 1 where it is Winder's, 2 where it is Blocker's.

abbrev pub byte_of : Player → ℕ
byte_of Winder = 1
byte_of Blocker = 2

abbrev pub is_free : List ℕ → Set
is_free p e = eqb (get_or p e 0) 0

abbrev pub held_by : Player → List ℕ → Set
held_by P p e = eqb (get_or p e 0) (byte_of P)

-- how many edges are free, how many are a player's
abbrev pub free_count : List ℕ → ℕ
free_count p = count_up_to (length p) (is_free p)

abbrev pub held_count : Player → List ℕ → ℕ
held_count P p = count_up_to (length p) (held_by P p)

-- the position after a player has taken edge e
abbrev pub taken : Player → ℕ → List ℕ → List ℕ
taken P e p = set p e (byte_of P)

abbrev pub other : Player → Player
other Winder = Blocker
other Blocker = Winder

-- Winder begins, and they take turns: she moves where each has as many edges, and else Blocker does
abbrev pub mover : List ℕ → Player
mover p = cond (eqb (held_count Winder p) (held_count Blocker p)) Winder Blocker

-- The end of the game

-- some set made of D and any of H's edges below k winds
unfoldable pub loop_from : Board → Set → ℕ → Set → Bool
loop_from B H zero D = winds B D
loop_from B H (suc e) D = loop_from B H e D || (H e && loop_from B H e (with e D))

-- the edges of H contain a winding loop
unfoldable pub holds_loop : Board → Set → Bool
holds_loop B H = loop_from B H (edges B) (λ i. false)

-- Winder has won: her edges contain a winding loop
abbrev pub wound : Board → List ℕ → Bool
wound B p = holds_loop B (held_by Winder p)

-- the game is over: Winder has won, or the edges have run out
abbrev pub over : Board → List ℕ → Bool
over B p = wound B p || eqb (free_count p) 0

-- who has won where it is over
abbrev pub won_by : Board → List ℕ → Player
won_by B p = cond (wound B p) Winder Blocker

-- Who can force the win

abbrev pub winner : Forced → Player
winner (Taking P e) = P
winner (Waiting P) = P

abbrev pub same : Player → Player → Bool
same Winder Winder = true
same Winder Blocker = false
same Blocker Winder = false
same Blocker Blocker = true

-- P can force the win
abbrev pub forced_by : Player → Forced → Bool
forced_by P f = same P (winner f)

-- P is to move: by the edge that keeps the win, or else the other can force it
abbrev pub choosing : Player → Option ℕ → Forced
choosing P (some e) = Taking P (record { 0 = e })
choosing P none = Waiting (other P)

-- Each player's choice is judged by the other's best reply. With k edges free, the player to move keeps the win by the smallest of the free
-- edges after which that player can still force it. A game that is over shows no edge.
unfoldable mutual
  pub winder_to_move : ℕ → Board → List ℕ → Forced
  winder_to_move zero B p = Waiting (won_by B p)
  winder_to_move (suc k) B p =
      cond (wound B p) (Waiting Winder)
      (choosing Winder (first_up_to (edges B) (λ e. is_free p e && forced_by Winder (blocker_to_move k B (taken Winder e p)))))

  pub blocker_to_move : ℕ → Board → List ℕ → Forced
  blocker_to_move zero B p = Waiting (won_by B p)
  blocker_to_move (suc k) B p =
      cond (wound B p) (Waiting Winder)
      (choosing Blocker (first_up_to (edges B) (λ e. is_free p e && forced_by Blocker (winder_to_move k B (taken Blocker e p)))))

abbrev pub to_move : Player → ℕ → Board → List ℕ → Forced
to_move Winder k B p = winder_to_move k B p
to_move Blocker k B p = blocker_to_move k B p

-- who can force the win from a position, and by which edge
unfoldable pub forced : Board → List ℕ → Forced
forced B p = to_move (mover p) (free_count p) B p
