-- The numbers of rounds: every vertex has a number, 0 or 1, which is one number on each cluster, and an edge that is not full has as many
-- half-edges as the numbers of its ends add up to. A round turns the numbers of the odd clusters over. So all odd clusters have one
-- number, that of the rounds so far modulo 2.
-- Assumes nothing.
use Prim.Native.Nat.{ℕ, ◌+◌, ◌<◌, min}
use mathlib.Core.Path.{◌≡◌, refl, sym, ap, ap₂, ◌∙◌}
use mathlib.Core.Bool.{Bool, true, false, cond, not, ◌&&◌, true≢false, false≢true}
use mathlib.Core.Logic.{◌⊎◌, inl, inr}
use mathlib.Core.List.{List}
use native.Mathlib.Omega.{arith}
use borrow.Author.Tests.{eqb-true, eqb-false}
use lib.ListN.{get_or}
use lib.Dec.{eqb}
use Rattle.std.proofs.lemmas.Bool.{false_from_ne_true}
use Rattle.model.specs.Sums.{Set, ◌⊕◌, bit}
use Rattle.model.specs.Board.{Board, Inside, edges, first_end, second_end, is_open}
use Rattle.model.specs.Components.{label, within}
use Rattle.model.specs.Growth.{start, full, clusters, oddly_lit, holds_open, odd, in_odd, swell}
use Rattle.model.proofs.Xor.{and_left, and_right}
use Rattle.model.proofs.SumLaws.{Some, some_found}
use Rattle.theory.proofs.OddParts.{odd_lit, lit_odd, odd_avoids}
use Rattle.theory.proofs.Connected.{along, connected_keeps, connected_mono}
use Rattle.theory.proofs.Components.{connected_part, part_connected}
use Rattle.theory.proofs.PartParity.{Union, union_even}
use Rattle.theory.proofs.WeightedGrowth.{lit_named, odd_named}
use Rattle.theory.proofs.Supports.{Supports, start_at, swell_at, swell_full}

-- numbers that fit the supports, with the number q on every odd cluster
pub record Numbered (B : Board) (S : Set) (s : List ℕ) (q : Bool) : Type 0 where
  pub number : Set
  pub one : (e : ℕ) → e < edges B → full s e ≡ true → number (first_end B e) ≡ number (second_end B e)
  pub halves : (e : ℕ) → e < edges B → full s e ≡ false → get_or s e 0 ≡ bit (number (first_end B e)) + bit (number (second_end B e))
  pub odds : (v : ℕ) → v < B.vertices → in_odd B (clusters B s) S v ≡ true → number v ≡ q

-- at the start all are 0
pub start_numbered : (B : Board) (S lost : Set) → Numbered B S (start B lost) false
start_numbered B S lost =
    record {
      number = λ v. false;
      one = λ e h p. refl;
      halves = λ e h p. start_at B lost e h ∙ go (lost e) (sym (ap (λ x. eqb x 2) (start_at B lost e h)) ∙ p);
      odds = λ v h p. refl;
    }
  where
    go : (t : Bool) → eqb (cond t 2 0) 2 ≡ false → ◌≡◌ {A = ℕ} (cond t 2 0) 0
    go true p = absurd (true≢false p)
    go false p = refl

-- What a round makes of an edge that is not full: x and y are the numbers of its ends, a and b say which of them grow. It becomes full,
-- and its ends have one number then; or it has as many half-edges as the new numbers add up to.
turned : (x y a b : Bool) → (a ≡ true → b ≡ true → x ≡ y) → (bit x + bit y ≡ 2 → ⊥)
    → ((min 2 (bit x + bit y + bit a + bit b) ≡ 2) × (x ⊕ a ≡ y ⊕ b)) ⊎ (min 2 (bit x + bit y + bit a + bit b) ≡ bit (x ⊕ a) + bit (y ⊕ b))
turned false false false false same open_edge = inr refl
turned false false false true same open_edge = inr refl
turned false false true false same open_edge = inr refl
turned false false true true same open_edge = inr refl
turned true false false false same open_edge = inr refl
turned true false false true same open_edge = inl (refl, refl)
turned true false true false same open_edge = inl (refl, refl)
turned true false true true same open_edge = absurd (true≢false (same refl refl))
turned false true false false same open_edge = inr refl
turned false true false true same open_edge = inl (refl, refl)
turned false true true false same open_edge = inl (refl, refl)
turned false true true true same open_edge = absurd (false≢true (same refl refl))
turned true true a b same open_edge = absurd (open_edge refl)

-- two bits that add up to 2 are one
both_one : (a b : Bool) → bit a + bit b ≡ 2 → a ≡ b
both_one true true p = refl
both_one false false p = refl
both_one true false p = absurd (omega arith)
both_one false true p = absurd (omega arith)

-- what is not q is the other one
other : (a q : Bool) → (a ≡ q → ⊥) → a ≡ not q
other true true p = absurd (p refl)
other true false p = refl
other false true p = refl
other false false p = absurd (p refl)

turns : (q : Bool) → q ⊕ true ≡ q → ⊥
turns true p = false≢true p
turns false p = true≢false p

module _ (B : Board) (r : Inside B) (S lost : Set) (s : List ℕ) (w : Supports B lost s) (q : Bool) (x : Numbered B S s q) where
  abbrev R : Set
  R = in_odd B (clusters B s) S

  abbrev next : List ℕ
  next = swell B s R

  abbrev turn : Set
  turn v = x.number v ⊕ R v

  -- the ends of a full edge lie in one cluster
  pub one_cluster : (e : ℕ) → e < edges B → full s e ≡ true → label (clusters B s) (first_end B e) ≡ label (clusters B s) (second_end B e)
  unfolding clusters
  one_cluster e h p = connected_part B (full s) (along e h p)

  edge_turned : (e : ℕ) → e < edges B → full s e ≡ false
      → ((get_or next e 0 ≡ 2) × (turn (first_end B e) ≡ turn (second_end B e)))
      ⊎ (get_or next e 0 ≡ bit (turn (first_end B e)) + bit (turn (second_end B e)))
  edge_turned e h p =
      rw (swell_at B s R e h, x.halves e h p)
      (turned (x.number (first_end B e)) (x.number (second_end B e)) (R (first_end B e)) (R (second_end B e))
      (λ a b. x.odds (first_end B e) (r.first_in_range e h) a ∙ sym (x.odds (second_end B e) (r.second_in_range e h) b))
      (λ two. eqb-false (get_or s e 0) 2 p (x.halves e h p ∙ two)))

  turn_one : (e : ℕ) → e < edges B → full next e ≡ true → turn (first_end B e) ≡ turn (second_end B e)
  turn_one e h p = go (full s e) refl
    where
      ended : full s e ≡ false → ((get_or next e 0 ≡ 2) × (turn (first_end B e) ≡ turn (second_end B e)))
          ⊎ (get_or next e 0 ≡ bit (turn (first_end B e)) + bit (turn (second_end B e))) → turn (first_end B e) ≡ turn (second_end B e)
      ended f (inl z) = z.1
      ended f (inr z) = both_one _ _ (sym z ∙ eqb-true (get_or next e 0) 2 p)

      go : (t : Bool) → full s e ≡ t → turn (first_end B e) ≡ turn (second_end B e)
      go true f = ap₂ ◌⊕◌ (x.one e h f) (ap (odd B (clusters B s) S) (one_cluster e h f))
      go false f = ended f (edge_turned e h f)

  turn_halves : (e : ℕ) → e < edges B → full next e ≡ false → get_or next e 0 ≡ bit (turn (first_end B e)) + bit (turn (second_end B e))
  turn_halves e h p = go (full s e) refl
    where
      ended : ((get_or next e 0 ≡ 2) × (turn (first_end B e) ≡ turn (second_end B e)))
          ⊎ (get_or next e 0 ≡ bit (turn (first_end B e)) + bit (turn (second_end B e)))
          → get_or next e 0 ≡ bit (turn (first_end B e)) + bit (turn (second_end B e))
      ended (inl z) = absurd (eqb-false (get_or next e 0) 2 p z.0)
      ended (inr z) = z

      go : (t : Bool) → full s e ≡ t → get_or next e 0 ≡ bit (turn (first_end B e)) + bit (turn (second_end B e))
      go true f = absurd (true≢false (sym (swell_full B lost s R w e h f) ∙ p))
      go false f = ended (edge_turned e h f)

  -- an odd cluster whose number after the round is q has no vertex of a cluster that was odd, so it would be a union of evenly lit clusters
  turn_odds : (v : ℕ) → v < B.vertices → in_odd B (clusters B next) S v ≡ true → turn v ≡ not q
  unfolding clusters oddly_lit holds_open
  turn_odds v h is_odd =
      other (turn v) q (λ p. true≢false (sym (odd_lit B (clusters B next) S (label (clusters B next) v) is_odd)
      ∙ union_even B r (full s) S A union (λ a k i. false_from_ne_true _ (λ o. none p a k i (shut_odd a k i o)))))
    where
      A : Set
      A = within (clusters B next) (label (clusters B next) v)

      union : Union B (full s) A
      union =
          record {
            same = λ u t hu ht p.
                ap (λ i. eqb i (label (clusters B next) v))
                (connected_part B (full next)
                (connected_mono B (full s) (edges B) (full next) (edges B)
                (record { less = λ e k f. k; holds = λ e k f. swell_full B lost s R w e k f })
                (part_connected B (full s) r u t hu ht p)));
          }

      -- the cluster is odd, so that it holds no open vertex, and a part of it holds none
      shut_odd : (a : ℕ) → a < B.vertices → A a ≡ true → oddly_lit B (clusters B s) S a ≡ true → odd B (clusters B s) S a ≡ true
      shut_odd a k i o =
          lit_odd B (clusters B s) S a o (false_from_ne_true (holds_open B (clusters B s) a) (λ p. outside (some_found B.vertices _ p)))
        where
          outside : Some B.vertices (λ u. is_open B u && within (clusters B s) a u) → ⊥
          outside u =
              let opens = and_left (is_open B u.at) _ u.holds in
              let own = eqb-true (label (clusters B s) u.at) a (and_right (is_open B u.at) _ u.holds) in
              let in-it = union.same u.at a u.less k (own ∙ sym (lit_named B (full s) S r a o)) ∙ i in
              true≢false (sym opens ∙ (odd_avoids B (clusters B next) S (label (clusters B next) v) is_odd).shut u.at u.less in-it)

      none : turn v ≡ q → (a : ℕ) → a < B.vertices → A a ≡ true → odd B (clusters B s) S a ≡ true → ⊥
      none p a k i o =
          let named = odd_named B (full s) S r a (record { below = k; is_odd = o }) in
          let in-odd : R a ≡ true = ap (odd B (clusters B s) S) named ∙ o in
          let together : turn a ≡ turn v
          = connected_keeps B (full next) (edges B) turn turn_one
          (part_connected B (full next) r a v k h (eqb-true (label (clusters B next) a) (label (clusters B next) v) i)) in
          turns q (sym (ap₂ ◌⊕◌ (x.odds a k in-odd) in-odd) ∙ together ∙ p)

  pub round_numbered : Numbered B S next (not q)
  round_numbered = record { number = turn; one = turn_one; halves = turn_halves; odds = turn_odds }
