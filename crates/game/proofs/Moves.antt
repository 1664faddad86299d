-- What a move changes in a position: the edge that is taken, and the counts. Assumes nothing.
use Prim.Native.Nat.{ℕ, suc, ◌≤◌, ◌<◌}
use mathlib.Core.Path.{◌≡◌, refl, sym, ap, ◌∙◌}
use mathlib.Core.Bool.{Bool, true, false, not, ◌&&◌, and-true, and-false}
use mathlib.Core.Logic.{◌≢◌}
use mathlib.Core.List.{List}
use native.Mathlib.Omega.{arith}
use borrow.Author.Tests.{eqb-true, eqb-false}
use lib.Dec.{eqb}
use lib.ListN.{length, get_or, length-set}
use lib.Seq.{get_or-set_same, get_or-set_other}
use Rattle.model.specs.declared.answers.Player.{Player}
use Rattle.model.specs.declared.answers.Player.TheVariants.{Winder, Blocker}
use Rattle.model.specs.Sums.{count_up_to}
use Rattle.model.specs.Correction.{without}
use Rattle.model.specs.Game.{byte_of, is_free, held_by, free_count, held_count, taken, other}
use Rattle.model.proofs.SumLaws.{count_cong}
use Rattle.model.proofs.CountLaws.{count_more}

pub other_twice : (P : Player) → other (other P) ≡ P
other_twice Winder = refl
other_twice Blocker = refl

-- no player's byte is 0, and each has its own
not_free : (P : Player) → eqb (byte_of P) 0 ≡ false
not_free Winder = refl
not_free Blocker = refl

its_own : (P : Player) → eqb (byte_of P) (byte_of P) ≡ true
its_own Winder = refl
its_own Blocker = refl

not_the_others : (P : Player) → eqb (byte_of P) (byte_of (other P)) ≡ false
not_the_others Winder = refl
not_the_others Blocker = refl

byte_small : (P : Player) → byte_of P ≤ 2
byte_small Winder = omega arith
byte_small Blocker = omega arith

-- a free edge is no player's
pub free_unheld : (P : Player) (p : List ℕ) (e : ℕ) → is_free p e ≡ true → held_by P p e ≡ false
free_unheld P p e h = ap (λ x. eqb x (byte_of P)) (eqb-true (get_or p e 0) 0 h) ∙ go P
  where
    go : (P : Player) → eqb 0 (byte_of P) ≡ false
    go Winder = refl
    go Blocker = refl

-- a position keeps its length, and its other bytes
pub taken_long : (P : Player) (p : List ℕ) (e : ℕ) → length (taken P e p) ≡ length p
taken_long P p e = length-set p e (byte_of P)

pub taken_there : (P : Player) (p : List ℕ) (e i : ℕ) → i ≢ e → get_or (taken P e p) i 0 ≡ get_or p i 0
taken_there P p e i h = get_or-set_other p e i (byte_of P) 0 h

module _ (P : Player) (p : List ℕ) (e : ℕ) (inside : e < length p) (free : is_free p e ≡ true) where
  taken_here : get_or (taken P e p) e 0 ≡ byte_of P
  taken_here = get_or-set_same p e (byte_of P) 0 inside

  pub byte_taken : (i : ℕ) → get_or p i 0 ≤ 2 → (t : Bool) → eqb i e ≡ t → get_or (taken P e p) i 0 ≤ 2
  byte_taken i small true q = rw (eqb-true i e q, taken_here) (byte_small P)
  byte_taken i small false q = rw (taken_there P p e i (eqb-false i e q)) small

  -- the edge is no longer free, and the others are as they were
  free_here : is_free (taken P e p) e ≡ false
  free_here = ap (λ x. eqb x 0) taken_here ∙ not_free P

  pub free_taken : (i : ℕ) → is_free (taken P e p) i ≡ without (is_free p) e i
  free_taken i = go (eqb i e) refl
    where
      go : (t : Bool) → eqb i e ≡ t → is_free (taken P e p) i ≡ (is_free p i && not t)
      go true q = ap (is_free (taken P e p)) (eqb-true i e q) ∙ free_here ∙ sym (and-false (is_free p i))
      go false q = ap (λ x. eqb x 0) (taken_there P p e i (eqb-false i e q)) ∙ sym (and-true (is_free p i))

  -- it is the player's, whose other edges are as they were
  pub held_here : held_by P (taken P e p) e ≡ true
  held_here = ap (λ x. eqb x (byte_of P)) taken_here ∙ its_own P

  pub held_before : (i : ℕ) → without (held_by P (taken P e p)) e i ≡ held_by P p i
  held_before i = go (eqb i e) refl
    where
      go : (t : Bool) → eqb i e ≡ t → (held_by P (taken P e p) i && not t) ≡ held_by P p i
      go true q = and-false (held_by P (taken P e p) i) ∙ sym (ap (held_by P p) (eqb-true i e q) ∙ free_unheld P p e free)
      go false q = and-true (held_by P (taken P e p) i) ∙ ap (λ x. eqb x (byte_of P)) (taken_there P p e i (eqb-false i e q))

  -- and the other player's all are
  pub held_others : (i : ℕ) → held_by (other P) (taken P e p) i ≡ held_by (other P) p i
  held_others i = go (eqb i e) refl
    where
      go : (t : Bool) → eqb i e ≡ t → held_by (other P) (taken P e p) i ≡ held_by (other P) p i
      go true q =
          ap (held_by (other P) (taken P e p)) (eqb-true i e q)
          ∙ ap (λ x. eqb x (byte_of (other P))) taken_here
          ∙ not_the_others P
          ∙ sym (ap (held_by (other P) p) (eqb-true i e q) ∙ free_unheld (other P) p e free)
      go false q = ap (λ x. eqb x (byte_of (other P))) (taken_there P p e i (eqb-false i e q))

  -- The counts

  pub free_count_lem : free_count p ≡ suc (free_count (taken P e p))
  free_count_lem =
      count_more (length p) e (is_free (taken P e p)) (is_free p) inside free_here free (λ i h. ap (λ x. eqb x 0) (sym (taken_there P p e i h)))
      ∙ ap (λ n. suc (count_up_to n (is_free (taken P e p)))) (sym (taken_long P p e))

  pub held_count_lem : held_count P (taken P e p) ≡ suc (held_count P p)
  held_count_lem =
      ap (λ n. count_up_to n (held_by P (taken P e p))) (taken_long P p e)
      ∙ count_more (length p) e (held_by P p) (held_by P (taken P e p)) inside (free_unheld P p e free) held_here
      (λ i h. ap (λ x. eqb x (byte_of P)) (taken_there P p e i h))

  pub others_count : held_count (other P) (taken P e p) ≡ held_count (other P) p
  others_count =
      ap (λ n. count_up_to n (held_by (other P) (taken P e p))) (taken_long P p e)
      ∙ count_cong (length p) (held_by (other P) (taken P e p)) (held_by (other P) p) (λ i h. held_others i)
