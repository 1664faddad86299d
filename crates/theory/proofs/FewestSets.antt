-- The least size of a set of edges that meets a test (model, Distance): it is reached by such a set, none is smaller, and there is none
-- exactly where no set meets the test. Assumes nothing.
use Prim.Native.Nat.{ℕ, zero, suc, ◌≤◌, ◌<◌, min}
use mathlib.Core.Path.{◌≡◌, refl, sym, ap, subst, ◌∙◌}
use mathlib.Core.Bool.{Bool, true, false, cond, ◌||◌, false≢true}
use mathlib.Core.Option.{Option, none, some}
use native.Mathlib.Nat.{not-le_of_lt}
use native.Mathlib.Omega.{arith}
use borrow.Author.Tests.{leb-true, leb-false, eqb-true, eqb-false, ne_eqb}
use lib.Dec.{eqb, leb}
use Rattle.std.proofs.lemmas.Bool.{false_from_ne_true}
use Rattle.model.specs.Sums.{Set}
use Rattle.model.specs.Board.{Board, edges}
use Rattle.model.specs.Winding.{size}
use Rattle.model.specs.Distance.{lesser, with, fewest_from, fewest_where}
use Rattle.model.proofs.SumLaws.{count_cong}

-- two sets have the same edges of the board
abbrev pub Alike : Board → Set → Set → Type 0
Alike B D E = (e : ℕ) → e < edges B → D e ≡ E e

-- a test that looks at no more of a set than the board's edges in it
abbrev pub OfEdges : Board → (Set → Bool) → Type 0
OfEdges B P = (D E : Set) → Alike B D E → P D ≡ P E

-- a set of d edges that meets P
pub record Member (B : Board) (P : Set → Bool) (d : ℕ) : Type 0 where
  pub set : Set
  pub holds : P set ≡ true
  pub count : size B set ≡ d

-- d is the fewest edges of such a set
pub record LeastWhere (B : Board) (P : Set → Bool) (d : ℕ) : Type 0 where
  pub reached : Member B P d
  pub least : (D : Set) → P D ≡ true → d ≤ size B D

-- E is made of D, whose edges are k or more, and of edges below k.
pub record Made (B : Board) (k : ℕ) (D E : Set) : Type 0 where
  pub above : (i : ℕ) → k ≤ i → i < edges B → D i ≡ E i
  pub below : (i : ℕ) → i < k → D i ≡ false

pub made_with : (B : Board) (e : ℕ) (D E : Set) → E e ≡ true → Made B (suc e) D E → Made B e (with e D) E
made_with B e D E p m =
    record { above = λ i h l. go i h l (eqb i e) refl; below = λ i h. rw (ne_eqb i e (λ q. omega arith)) (m.below i (omega arith)) }
  where
    go : (i : ℕ) → e ≤ i → i < edges B → (t : Bool) → eqb i e ≡ t → (t || D i) ≡ E i
    go i h l true q = sym (ap E (eqb-true i e q) ∙ p)
    go i h l false q = m.above i (omega (arith, eqb-false i e q)) l

pub made_without : (B : Board) (e : ℕ) (D E : Set) → E e ≡ false → Made B (suc e) D E → Made B e D E
made_without B e D E p m = record { above = λ i h l. go i h l (eqb i e) refl; below = λ i h. m.below i (omega arith) }
  where
    go : (i : ℕ) → e ≤ i → i < edges B → (t : Bool) → eqb i e ≡ t → D i ≡ E i
    go i h l true q = let same = eqb-true i e q in m.below i (omega arith) ∙ sym (ap E same ∙ p)
    go i h l false q = m.above i (omega (arith, eqb-false i e q)) l

-- every set is made of none and of all edges
pub made_whole : (B : Board) (E : Set) → Made B (edges B) (λ i. false) E
made_whole B E = record { above = λ i h l. absurd (not-le_of_lt l h); below = λ i h. refl }

-- the search finds no more than s
abbrev AtMost : Option ℕ → ℕ → Type 0
AtMost none s = ⊥
AtMost (some d) s = d ≤ s

lesser_left : (x y : Option ℕ) (s : ℕ) → AtMost x s → AtMost (lesser x y) s
lesser_left none y s p = elim p [ ]
lesser_left (some a) none s p = p
lesser_left (some a) (some b) s p = omega arith

lesser_right : (x y : Option ℕ) (s : ℕ) → AtMost y s → AtMost (lesser x y) s
lesser_right none y s p = p
lesser_right (some a) none s p = elim p [ ]
lesser_right (some a) (some b) s p = omega arith

-- What the search through all sets finds is reached.
abbrev Reached : Board → (Set → Bool) → Option ℕ → Type 0
Reached B P none = Unit {0}
Reached B P (some d) = Member B P d

lesser_reached : (B : Board) (P : Set → Bool) (x y : Option ℕ) → Reached B P x → Reached B P y → Reached B P (lesser x y)
lesser_reached B P none y p q = q
lesser_reached B P (some a) none p q = p
lesser_reached B P (some a) (some b) p q = go (leb a b) refl
  where
    go : (t : Bool) → leb a b ≡ t → Member B P (min a b)
    go true r = let low : min a b ≡ a = omega (arith, leb-true a b r) in rw low p
    go false r = let low : min a b ≡ b = omega (arith, leb-false a b r) in rw low q

from_reached : (B : Board) (P : Set → Bool) (k : ℕ) (D : Set) → Reached B P (fewest_from B P k D)
unfolding fewest_from
from_reached B P zero D = go (P D) refl
  where
    go : (t : Bool) → P D ≡ t → Reached B P (cond t (some (size B D)) none)
    go true p = record { set = D; holds = p; count = refl }
    go false p = tt
from_reached B P (suc e) D =
    lesser_reached B P (fewest_from B P e D) (fewest_from B P e (with e D)) (from_reached B P e D) (from_reached B P e (with e D))

pub where_reached : (B : Board) (P : Set → Bool) (d : ℕ) → fewest_where B P ≡ some d → Member B P d
unfolding fewest_where
where_reached B P d p = subst (Reached B P) p (from_reached B P (edges B) (λ i. false))

module _ (B : Board) (P : Set → Bool) (local : OfEdges B P) where
  from_bounds : (k : ℕ) (D E : Set) → Made B k D E → P E ≡ true → AtMost (fewest_from B P k D) (size B E)
  unfolding fewest_from
  from_bounds zero D E m w =
      let same : Alike B D E = λ i h. m.above i (omega arith) h in
      rw (local D E same ∙ w) (omega (arith, count_cong (edges B) D E same))
  from_bounds (suc e) D E m w = go (λ X n. from_bounds e X E n w) (E e) refl
    where
      go : ((X : Set) → Made B e X E → AtMost (fewest_from B P e X) (size B E)) → (t : Bool) → E e ≡ t
          → AtMost (lesser (fewest_from B P e D) (fewest_from B P e (with e D))) (size B E)
      go found true p = lesser_right (fewest_from B P e D) (fewest_from B P e (with e D)) (size B E) (found (with e D) (made_with B e D E p m))
      go found false p = lesser_left (fewest_from B P e D) (fewest_from B P e (with e D)) (size B E) (found D (made_without B e D E p m))

  where_at_most : (D : Set) → P D ≡ true → AtMost (fewest_where B P) (size B D)
  unfolding fewest_where
  where_at_most D w = from_bounds (edges B) (λ i. false) D (made_whole B D) w

  -- it is reached, and no set that meets the test is smaller
  pub where_least : (d : ℕ) → fewest_where B P ≡ some d → LeastWhere B P d
  where_least d p =
      record {
        reached = where_reached B P d p;
        least = λ D w. subst (λ o. AtMost o (size B D)) p (where_at_most D w);
      }

  -- where there is none, no set meets the test
  pub where_none : fewest_where B P ≡ none → (D : Set) → P D ≡ false
  where_none p D = false_from_ne_true (P D) (λ w. subst (λ o. AtMost o (size B D)) p (where_at_most D w))

  -- and the reverse of both
  pub least_where : (d : ℕ) → LeastWhere B P d → fewest_where B P ≡ some d
  least_where d l = go (fewest_where B P) refl
    where
      go : (o : Option ℕ) → fewest_where B P ≡ o → o ≡ some d
      go none p = absurd (false≢true (sym (where_none p l.reached.set) ∙ l.reached.holds))
      go (some c) p =
          let f = where_least c p in
          ap some {x = c} {y = d} (omega (
            arith,
            f.least l.reached.set l.reached.holds,
            l.least f.reached.set f.reached.holds,
            f.reached.count,
            l.reached.count,
          ))

  pub none_where : ((D : Set) → P D ≡ false) → fewest_where B P ≡ none
  none_where out = go (fewest_where B P) refl
    where
      go : (o : Option ℕ) → fewest_where B P ≡ o → o ≡ none
      go none p = refl
      go (some c) p = let f = (where_least c p).reached in absurd (false≢true (sym (out f.set) ∙ f.holds))
