-- The pass over the ends: an open end is sent to the gate, any other stays. Assumes nothing.
use Prim.Native.Nat.{ℕ, suc, ◌*◌, ◌≤◌, ◌<◌}
use mathlib.Core.Path.{◌≡◌, ap, ◌∙◌, subst}
use mathlib.Core.Bool.{cond}
use mathlib.Core.Logic.{◌≢◌}
use mathlib.Core.List.{List, []}
use native.Mathlib.Nat.{le_refl}
use native.Mathlib.Omega.{arith}
use borrow.Author.Tests.{eq-eqb, ne_eqb}
use lib.ListN.{length, get_or, set, take, length-set}
use lib.Seq.{get_or-set_same, get_or-set_other, get_or-take, length-take-le}
use Rattle.std.specs.Prelude.{Option, Some, None, unwrap_or, MatchOption}
use Rattle.std.specs.List.{AllWithin, HoldsAt}
use Rattle.model.specs.Sums.{ones, first_up_to, values}
use Rattle.model.specs.Board.{Board, board_of, without_open, Valid, edge_limit}
use Rattle.model.specs.Identified.{or_zero, gate, glued, glued_ends, identified}
use Rattle.model.proofs.SumLaws.{below_suc}
use Rattle.model.proofs.ListLaws.{values_are}
use Rattle.model.proofs.EndLaws.{end_in_range}
use Rattle.theory.proofs.Identified.{identified_valid}
use Rattle.board.proofs.Searching.{ends_at, ends_nowhere}
use Rattle.distance.specs.Found.{Shortest}
use Rattle.distance.specs.Gluing.{Gluable, Glues}

-- the place that is found is the smallest open vertex
pub gate_found : (opened : List ℕ) (r : Option ℕ) →
    MatchOption r (AllWithin (λ x. x ≡ 1 → ⊥) opened 0 (length opened))
    (λ i. (i < length opened) × HoldsAt (λ x. x ≡ 1) opened i × AllWithin (λ x. x ≡ 1 → ⊥) opened 0 i) →
    unwrap_or r 0 ≡ or_zero (first_up_to (length opened) (ones opened))
gate_found opened None shut =
    ap or_zero (ends_nowhere (length opened) (record { out = λ k h. ne_eqb _ 1 (shut k 0 (omega arith) h) }) (le_refl _))
gate_found opened (Some i) w =
    ap or_zero (ends_at (length opened) (record { out = λ k h. ne_eqb _ 1 (w.2 k 0 (omega arith) h) }) w.0 (eq-eqb _ 1 (w.1 0)))

module _ (ends opened : List ℕ) where
  abbrev B : Board
  B = board_of (length opened) ends [] opened

  -- the first k ends are sent
  pub record SentUpTo (k : ℕ) (l : List ℕ) : Type 0 where
    pub long : length l ≡ 2 * edge_limit
    pub at : (i : ℕ) → i < k → get_or l i 0 ≡ glued B (get_or ends i 0)

  module _ {k : ℕ} {l : List ℕ} (w : SentUpTo k l) (less : k < 2 * edge_limit) where
    more : (x : ℕ) → x ≡ glued B (get_or ends k 0) → SentUpTo (suc k) (set l k x)
    more x is =
        record {
          long = length-set l k x ∙ w.long;
          at = λ i h. below_suc k i h
              (λ j. get_or-set_other l k i x 0 (λ q. omega arith) ∙ w.at i j)
              (λ q. rw q (get_or-set_same l k x 0 (omega (arith, w.long)) ∙ is));
        }

    pub sent_open : (to : ℕ) → to ≡ or_zero (first_up_to (length opened) (ones opened)) → get_or opened (get_or ends k 0) 0 ≡ 1
        → SentUpTo (suc k) (set l k to)
    unfolding gate
    sent_open to is opens = more to (rw (eq-eqb _ _ opens) is)

    pub sent_shut : get_or opened (get_or ends k 0) 0 ≢ 1 → SentUpTo (suc k) (set l k (get_or ends k 0))
    sent_shut shut = more (get_or ends k 0) (rw (ne_eqb _ _ shut))

  pub sent_all : (l : List ℕ) → length ends ≤ 2 * edge_limit → SentUpTo (length ends) l → Glues ends opened l
  sent_all l few w =
      record {
        long = w.long;
        front =
            values_are (length ends) (λ i. glued B (get_or ends i 0)) (take (length ends) l)
            (length-take-le (length ends) l (omega (arith, w.long))) (λ i h. get_or-take (length ends) l i 0 h ∙ w.at i h);
      }

-- On a valid board: the ends can be sent, and the front of the array with the board's marks is the identified board.
module _ (n : ℕ) (ends marks opened : List ℕ) (valid : Valid (board_of n ends marks opened)) where
  pub gluable : (l : List ℕ) → length l ≡ 2 * edge_limit → Gluable ends opened l
  gluable l long =
      record {
        limit = omega (arith, valid.open_bytes.count, valid.inside.vertices_limited);
        inside = λ i h. omega (arith, end_in_range valid.inside i h, valid.open_bytes.count);
        few = omega (arith, valid.inside.two_ends, valid.inside.edges_limited);
        long = long;
      }

  module _ (l : List ℕ) (sent : Glues ends opened l) where
    pub front_fits : length ends ≤ length l
    front_fits = omega (arith, sent.long, valid.inside.two_ends, valid.inside.edges_limited)

    pub front_whole : length (take (length ends) l) ≡ length ends
    front_whole = length-take-le (length ends) l front_fits

    front_is : take (length ends) l ≡ glued_ends (board_of n ends marks opened)
    unfolding gate
    front_is =
        sent.front ∙ ap (λ k. values (length ends) (λ i. cond (ones opened (get_or ends i 0)) (or_zero (first_up_to k (ones opened))) (get_or ends i 0))) valid.open_bytes.count

    pub front_valid : Valid (without_open n (take (length ends) l) marks)
    front_valid = rw front_is (identified_valid (board_of n ends marks opened) valid.inside valid)

    pub front_shortest : (best : Option ℕ) (found : List ℕ) → Shortest (without_open n (take (length ends) l) marks) best found
        → Shortest (identified (board_of n ends marks opened)) best found
    front_shortest best found s = subst (λ k. Shortest (without_open n k marks) best found) front_is s
