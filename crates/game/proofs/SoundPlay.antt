-- What players may rely on follows from the answer. Assumes nothing.
use Prim.Native.Nat.{ℕ, ◌+◌, ◌<◌}
use mathlib.Core.Path.{◌≡◌, refl, sym, ap, subst, ◌∙◌}
use mathlib.Core.Bool.{true, false≢true}
use mathlib.Core.Logic.{◌⊎◌, inl, inr, ⊎_elim}
use mathlib.Core.List.{List}
use mathlib.Core.Option.{none}
use native.Mathlib.Omega.{arith}
use lib.Dec.{eqb}
use lib.ListN.{length}
use Rattle.model.specs.declared.numbers.Edge.{Edge}
use Rattle.model.specs.declared.answers.Player.{Player}
use Rattle.model.specs.declared.answers.Player.TheVariants.{Winder, Blocker}
use Rattle.model.specs.declared.answers.Forced.{Forced}
use Rattle.model.specs.declared.answers.Forced.TheVariants.{Taking, Waiting}
use Rattle.model.specs.Board.{Board, edges}
use Rattle.model.specs.Game.{is_free, free_count, held_count, taken, other, mover, over, won_by, winner, to_move, forced}
use Rattle.model.specs.Replies.{Takeable, WinsBy, edge_shown, shown}
use Rattle.model.specs.Refusals.{game_refusal}
use Rattle.model.specs.Outcomes.{answer}
use Rattle.model.specs.GameOutcomes.{game_answer, PlaysSoundly}
use Rattle.model.proofs.Contradiction.{zero_one}
use Rattle.model.proofs.Places.{answer_passed}
use Rattle.model.proofs.Xor.{and_left}
use Rattle.game.specs.Playable.{Playable}
use Rattle.game.proofs.Moves.{taken_long, byte_taken}
use Rattle.game.proofs.GameTests.{game_passes, passes_game}
use Rattle.game.proofs.Strategies.{Turn, turn_mover, turn_next, forced_is, Course, ended, chosen, lost, course, wins, loses, exclusive}
use Rattle.model.specs.Answers.{Game}
use Rattle.std.specs.Prelude.{Ok, Err}

-- Of what a position comes to

module _ (B : Board) (p : List ℕ) where
  begins : (k : ℕ) (f : Forced) → Course B (mover p) p k f → (P : Player) (e : Edge) → f ≡ Taking P e → (P ≡ mover p) × Takeable B p e.0
  begins k f (ended o) P e q = zero_one (cc)
  begins k f (chosen i o first) P e q =
      (sym (ap winner q), subst (Takeable B p) (ap edge_shown q) (record { an_edge = first.less; free = and_left (is_free p i) _ first.holds }))
  begins k f (lost o loss) P e q = zero_one (cc)

  waits : (k : ℕ) (f : Forced) → Course B (mover p) p k f → (P : Player) → f ≡ Waiting P → (over B p ≡ true) ⊎ (P ≡ other (mover p))
  waits k f (ended o) P q = inl o
  waits k f (chosen i o first) P q = zero_one (cc)
  waits k f (lost o loss) P q = inr (sym (ap winner q))

  finished : (k : ℕ) (f : Forced) → Course B (mover p) p k f → over B p ≡ true → f ≡ Waiting (won_by B p)
  finished k f (ended o) q = refl
  finished k f (chosen i o first) q = absurd (false≢true (sym o ∙ q))
  finished k f (lost o loss) q = absurd (false≢true (sym o ∙ q))

-- From a position that passes the tests

module _ (B : Board) (p : List ℕ) (play : Playable B p) where
  turned : Turn (mover p) p
  turned =
      ⊎_elim
      (λ q. subst (λ P. Turn P p) (sym (turn_mover Winder p q)) q)
      (λ q. subst (λ P. Turn P p) (sym (turn_mover Blocker p q)) q)
      play.turns

  its : forced B p ≡ to_move (mover p) (free_count p) B p
  its = forced_is B (mover p) p turned

  going : Course B (mover p) p (free_count p) (forced B p)
  going = subst (λ f. Course B (mover p) p (free_count p) f) (sym its) (course B (mover p) (free_count p) p refl)

  replies : WinsBy B (winner (forced B p)) (shown B) (mover p) p
  replies = subst (λ f. WinsBy B (winner f) (shown B) (mover p) p) (sym its) (wins B (free_count p) (mover p) p play.long turned refl)

  pub edge_below : (P : Player) (e : Edge) → forced B p ≡ Taking P e → e.0 < edges B
  edge_below P e q = (begins B p (free_count p) (forced B p) going P e q).1.an_edge

  smallest : (k : ℕ) (f : Forced) → free_count p ≡ k → Course B (mover p) p k f → (P : Player) (e : Edge) → f ≡ Taking P e
      → (i : ℕ) → i < e.0 → Takeable B p i → WinsBy B (other P) (shown B) (other P) (taken P i p)
  smallest k f n (ended o) P e q i l t = zero_one (cc)
  smallest k f n (chosen {k = j} s o first) P e q i l t =
      subst (λ Q. WinsBy B (other Q) (shown B) (other Q) (taken Q i p)) (ap winner q)
      (loses B j (mover p) p play.long turned n i t (first.before i (subst (λ x. i < x) (sym (ap edge_shown q)) l)))
  smallest k f n (lost o loss) P e q i l t = zero_one (cc)

  -- after a move the bytes and the counts are right again
  goes_on : (e : ℕ) → Takeable B p e → game_refusal B (taken (mover p) e p) ≡ none
  goes_on e t =
      let inside : e < length p = omega (arith, play.long, t.an_edge) in
      let long = taken_long (mover p) p e in
      passes_game B (taken (mover p) e p)
      (record {
        board = play.board;
        few = play.few;
        long = long ∙ play.long;
        bytes = λ i h. let here : i < length p = omega (arith, long) in byte_taken (mover p) p e inside t.free i (play.bytes i here) (eqb i e) refl;
        turns = next_turn (other (mover p)) (taken (mover p) e p) (turn_next (mover p) p e inside t.free turned);
      })
    where
      next_turn : (P : Player) (q : List ℕ) → Turn P q → (held_count Winder q ≡ held_count Blocker q) ⊎ (held_count Winder q ≡ held_count Blocker q + 1)
      next_turn Winder q t = inl t
      next_turn Blocker q t = inr t

-- Of the answer

-- the answer of a position that is not refused
abbrev in_named : Forced → Game → Forced
in_named d (Ok f) = f
in_named d (Err n) = d

module _ (B : Board) (p : List ℕ) (r : Game) (answered : r ≡ game_answer B p) where
  -- where it is not a refusal, the tests are passed
  unrefused : (f : Forced) → r ≡ Ok f → game_refusal B p ≡ none
  unfolding game_answer
  unrefused f q = answer_passed (game_refusal B p) (Ok (forced B p)) r answered (λ n s. zero_one (cc))

  passed : (f : Forced) → r ≡ Ok f → Playable B p × (f ≡ forced B p)
  unfolding game_answer
  passed f q = (game_passes B p (unrefused f q), ap (in_named f) (sym q ∙ answered ∙ ap (λ t. answer t Err (Ok (forced B p))) (unrefused f q)))

  pub soundly : PlaysSoundly B p r
  soundly =
      record {
        replies = λ f q. let w = passed f q in subst (λ f. WinsBy B (winner f) (shown B) (mover p) p) (sym w.1) (replies B p w.0);
        alone = λ f q P plan by.
            let w = passed f q in
            exclusive B by (subst (λ f. WinsBy B (winner f) (shown B) (mover p) p) (sym w.1) (replies B p w.0));
        begins = λ P e q.
            let w = passed (Taking P e) q in
            let b = begins B p (free_count p) (forced B p) (going B p w.0) P e (sym w.1) in
            (b.0, b.1, sym (ap edge_shown w.1));
        smallest = λ P e q.
            let w = passed (Taking P e) q in
            smallest B p w.0 (free_count p) (forced B p) refl (going B p w.0) P e (sym w.1);
        waits = λ P q.
            let w = passed (Waiting P) q in
            waits B p (free_count p) (forced B p) (going B p w.0) P (sym w.1);
        finished = λ f q o.
            let w = passed f q in
            w.1 ∙ finished B p (free_count p) (forced B p) (going B p w.0) o;
        goes_on = λ f q e t. goes_on B p (passed f q).0 e t;
      }
