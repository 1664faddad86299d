-- Either winner named has a reply to every line of play, and no other player has: whoever follows the edges that are shown wins. Assumes
-- nothing.
use Prim.Native.Nat.{ℕ, zero, suc, ◌+◌, ◌<◌}
use mathlib.Core.Path.{◌≡◌, refl, sym, ap, subst, ◌∙◌}
use mathlib.Core.Bool.{Bool, true, false, cond, ◌&&◌, ◌||◌, or-true, false≢true}
use mathlib.Core.List.{List}
use mathlib.Core.Option.{Option, none, some}
use native.Mathlib.Omega.{arith}
use borrow.Author.Tests.{eq-eqb, ne_eqb}
use lib.Dec.{eqb}
use lib.ListN.{length}
use Rattle.model.specs.declared.answers.Player.{Player}
use Rattle.model.specs.declared.answers.Player.TheVariants.{Winder, Blocker}
use Rattle.model.specs.declared.answers.Forced.{Forced}
use Rattle.model.specs.declared.answers.Forced.TheVariants.{Taking, Waiting}
use Rattle.model.specs.Sums.{Set, first_up_to}
use Rattle.model.specs.Board.{Board, edges}
use Rattle.model.specs.Game.{is_free, free_count, held_count, taken, other, mover, wound, over, won_by, winner, same, forced_by, choosing, winder_to_move, to_move, forced}
use Rattle.model.specs.Replies.{Strategy, Takeable, WinsBy, at_end, by_plan, by_any, edge_shown, shown}
use Rattle.model.proofs.Xor.{and_left, and_right}
use Rattle.model.proofs.SumLaws.{First, first_found, none_first}
use Rattle.game.proofs.Moves.{other_twice, taken_long, free_count_lem, held_count_lem, others_count}

-- Whose turn it is, by the counts

abbrev pub Turn : Player → List ℕ → Type 0
Turn Winder p = held_count Winder p ≡ held_count Blocker p
Turn Blocker p = held_count Winder p ≡ held_count Blocker p + 1

pub turn_mover : (P : Player) (p : List ℕ) → Turn P p → mover p ≡ P
turn_mover Winder p t = rw (eq-eqb (held_count Winder p) (held_count Blocker p) t)
turn_mover Blocker p t = rw (ne_eqb (held_count Winder p) (held_count Blocker p) (λ q. omega arith))

pub turn_next : (P : Player) (p : List ℕ) (e : ℕ) → e < length p → is_free p e ≡ true → Turn P p → Turn (other P) (taken P e p)
turn_next Winder p e h f t = omega (arith, held_count_lem Winder p e h f, others_count Winder p e h f)
turn_next Blocker p e h f t = omega (arith, held_count_lem Blocker p e h f, others_count Blocker p e h f)

-- Players

same_player : (P Q : Player) → same P Q ≡ true → Q ≡ P
same_player Winder Winder p = refl
same_player Winder Blocker p = absurd (false≢true p)
same_player Blocker Winder p = absurd (false≢true p)
same_player Blocker Blocker p = refl

other_player : (P Q : Player) → same P Q ≡ false → Q ≡ other P
other_player Winder Winder p = absurd (false≢true (sym p))
other_player Winder Blocker p = refl
other_player Blocker Winder p = refl
other_player Blocker Blocker p = absurd (false≢true (sym p))

-- What a position with P to move comes to

module _ (B : Board) where
  -- the edges that keep the win, where k edges are free after the move
  abbrev pub keeps : Player → ℕ → List ℕ → Set
  keeps P k p e = is_free p e && forced_by P (to_move (other P) k B (taken P e p))

  -- the game is over; or an edge is shown, the smallest that keeps the win; or none keeps it
  pub data Course (P : Player) (p : List ℕ) : ℕ → Forced → Type 0 where
    ended : {k : ℕ} → over B p ≡ true → Course P p k (Waiting (won_by B p))
    chosen : {k : ℕ} (e : ℕ) → over B p ≡ false → First (edges B) (keeps P k p) e → Course P p (suc k) (Taking P (record { 0 = e }))
    lost : {k : ℕ} → over B p ≡ false → ((e : ℕ) → e < edges B → keeps P k p e ≡ false) → Course P p (suc k) (Waiting (other P))

  to_move_lem : (P : Player) (k : ℕ) (p : List ℕ)
      → to_move P (suc k) B p ≡ cond (wound B p) (Waiting Winder) (choosing P (first_up_to (edges B) (keeps P k p)))
  unfolding winder_to_move
  to_move_lem Winder k p = refl
  to_move_lem Blocker k p = refl

  run_out : (P : Player) (p : List ℕ) → to_move P 0 B p ≡ Waiting (won_by B p)
  unfolding winder_to_move
  run_out Winder p = refl
  run_out Blocker p = refl

  pub course : (P : Player) (k : ℕ) (p : List ℕ) → free_count p ≡ k → Course P p k (to_move P k B p)
  course P zero p n =
      rw (run_out P p) (ended (ap (λ n. wound B p || eqb n 0) n ∙ or-true (wound B p)))
  course P (suc k) p n = rw (to_move_lem P k p) (go (wound B p) refl (first_up_to (edges B) (keeps P k p)) refl)
    where
      unwound : wound B p ≡ false → over B p ≡ false
      unwound q = ap (λ b. b || eqb (free_count p) 0) q ∙ ne_eqb (free_count p) 0 (λ z. omega arith)

      go : (t : Bool) → wound B p ≡ t → (o : Option ℕ) → first_up_to (edges B) (keeps P k p) ≡ o
          → Course P p (suc k) (cond t (Waiting Winder) (choosing P o))
      go true q o r =
          subst (λ Q. Course P p (suc k) (Waiting Q)) (ap (λ b. cond b Winder Blocker) q) (ended (ap (λ b. b || eqb (free_count p) 0) q))
      go false q (some e) r = chosen e (unwound q) (first_found (edges B) (keeps P k p) e r)
      go false q none r = lost (unwound q) (none_first (edges B) (keeps P k p) r)

  -- where it is P's turn, the answer is that
  pub forced_is : (P : Player) (p : List ℕ) → Turn P p → forced B p ≡ to_move P (free_count p) B p
  unfolding forced
  forced_is P p t = rw (turn_mover P p t)

  -- a position that is followed by won ones is won: the winner of each is the one who can force it there
  module _ (P : Player) (p : List ℕ) where
    abbrev Next : ℕ → Type 0
    Next k = (e : ℕ) → e < edges B → is_free p e ≡ true → WinsBy B (winner (to_move (other P) k B (taken P e p))) (shown B) (other P) (taken P e p)

    -- after an edge that keeps the win P wins, after another the other
    kept : (k e : ℕ) → Next k → e < edges B → keeps P k p e ≡ true → WinsBy B P (shown B) (other P) (taken P e p)
    kept k e next l q =
        let after = to_move (other P) k B (taken P e p) in
        subst (λ Q. WinsBy B Q (shown B) (other P) (taken P e p))
        (same_player P (winner after) (and_right (is_free p e) (forced_by P after) q))
        (next e l (and_left (is_free p e) (forced_by P after) q))

    unkept : (k e : ℕ) → Next k → Takeable B p e → keeps P k p e ≡ false → WinsBy B (other P) (shown B) (other P) (taken P e p)
    unkept k e next t q =
        let after = to_move (other P) k B (taken P e p) in
        subst (λ Q. WinsBy B Q (shown B) (other P) (taken P e p))
        (other_player P (winner after) (sym (ap (λ b. b && forced_by P after) t.free) ∙ q))
        (next e t.an_edge t.free)

    follows : (k : ℕ) (f : Forced) → forced B p ≡ f → Course P p (suc k) f → Next k → WinsBy B (winner f) (shown B) P p
    follows k f q (ended o) next = at_end o refl
    follows k f q (chosen e o first) next =
        let names : shown B p ≡ e = ap edge_shown q in
        by_plan {p = p} o refl
        (rw names (record { an_edge = first.less; free = and_left (is_free p e) _ first.holds }))
        (rw names (kept k e next first.less first.holds))
    follows k f q (lost o loses) next =
        by_any o (sym (other_twice P))
        (λ e t.
        subst (λ Q. WinsBy B (other P) (shown B) (other P) (taken Q e p)) (sym (other_twice P)) (unkept k e next t (loses e t.an_edge)))

  -- all positions with k free edges are won by the winner named, so that those after a move from suc k are
  abbrev Won : ℕ → Type 0
  Won k = (P : Player) (p : List ℕ) → length p ≡ edges B → Turn P p → free_count p ≡ k → WinsBy B (winner (to_move P k B p)) (shown B) P p

  next : (k : ℕ) → Won k → (P : Player) (p : List ℕ) → length p ≡ edges B → Turn P p → free_count p ≡ suc k → Next P p k
  next k won P p long turn n e l f =
      let inside : e < length p = omega arith in
      won (other P) (taken P e p) (taken_long P p e ∙ long) (turn_next P p e inside f turn)
      (omega (arith, free_count_lem P p e inside f))

  -- The winner that is named wins, by the edges that are shown.
  pub wins : (k : ℕ) (P : Player) (p : List ℕ) → length p ≡ edges B → Turn P p → free_count p ≡ k
      → WinsBy B (winner (to_move P k B p)) (shown B) P p
  wins zero P p long turn n =
      rw (run_out P p) (at_end (ap (λ n. wound B p || eqb n 0) n ∙ or-true (wound B p)) refl)
  wins (suc k) P p long turn n =
      follows P p k (to_move P (suc k) B p) (forced_is P p turn ∙ ap (λ n. to_move P n B p) n) (course P (suc k) p n)
      (next k (wins k) P p long turn n)

  -- after an edge that doesn't keep the win the other wins
  pub loses : (k : ℕ) (P : Player) (p : List ℕ) → length p ≡ edges B → Turn P p → free_count p ≡ suc k
      → (e : ℕ) → Takeable B p e → keeps P k p e ≡ false → WinsBy B (other P) (shown B) (other P) (taken P e p)
  loses k P p long turn n e t q = unkept P p k e (next k (wins k) P p long turn n) t q

  -- Q's reply to a move of P's, and Q's move, where P is the other player
  reply : {P Q : Player} {rival : Strategy} (e : ℕ) (p : List ℕ) → other Q ≡ P → WinsBy B Q rival Q (taken (other Q) e p)
      → WinsBy B Q rival (other P) (taken P e p)
  reply {P} {Q} {rival} e p opposite w =
      subst (λ S. WinsBy B Q rival (other S) (taken S e p)) opposite
      (subst (λ S. WinsBy B Q rival S (taken (other Q) e p)) (sym (other_twice Q)) w)

  move : {P Q : Player} {rival : Strategy} (e : ℕ) (p : List ℕ) → Q ≡ other P → WinsBy B Q rival (other Q) (taken Q e p)
      → WinsBy B Q rival P (taken (other P) e p)
  move {P} {Q} {rival} e p opposite w =
      subst (λ S. WinsBy B Q rival S (taken (other P) e p)) (other_twice P)
      (subst (λ S. WinsBy B Q rival (other S) (taken S e p)) opposite w)

  -- No two players win: played against each other, two strategies come to one end.
  pub exclusive : {P Q : Player} {plan rival : Strategy} {turn : Player} {p : List ℕ} → WinsBy B P plan turn p → WinsBy B Q rival turn p → P ≡ Q
  exclusive (at_end o w) (at_end o' w') = sym w ∙ w'
  exclusive (at_end o w) (by_plan o' t' c' n') = absurd (false≢true (sym o' ∙ o))
  exclusive (at_end o w) (by_any o' t' n') = absurd (false≢true (sym o' ∙ o))
  exclusive (by_plan o t c n) (at_end o' w') = absurd (false≢true (sym o ∙ o'))
  exclusive (by_plan o t c n) (by_plan o' t' c' n') = sym t ∙ t'
  exclusive {plan = plan} {p = p} (by_plan o t c n) (by_any o' t' n') = exclusive n (reply (plan p) p (sym t' ∙ t) (n' (plan p) c))
  exclusive (by_any o t n) (at_end o' w') = absurd (false≢true (sym o ∙ o'))
  exclusive {rival = rival} {p = p} (by_any o t n) (by_plan o' t' c' n') = exclusive (n (rival p) c') (move (rival p) p (sym t' ∙ t) n')
  exclusive {P = P} {Q = Q} (by_any o t n) (by_any o' t' n') = sym (other_twice P) ∙ ap other (sym t ∙ t') ∙ other_twice Q
