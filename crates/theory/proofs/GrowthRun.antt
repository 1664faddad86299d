-- The run of growth by a policy (model, Growth): every state that it passes is reached by growths that the policy names, and it ends where
-- the policy names none or where its steps are used up. A policy that feeds odd clusters names some odd cluster as long as there is one;
-- it may name more than that. Nothing here rests on which.
-- Assumes nothing.
use Prim.Native.Nat.{ℕ, zero, suc, ◌+◌, ◌*◌, ◌≤◌, ◌<◌}
use mathlib.Core.Path.{◌≡◌, refl}
use mathlib.Core.Bool.{true, false}
use mathlib.Core.Logic.{◌⊎◌, inl, inr}
use mathlib.Core.List.{List}
use mathlib.Core.Option.{Option, none, some}
use native.Mathlib.Omega.{arith}
use Rattle.model.specs.Sums.{Set}
use Rattle.model.specs.Board.{Board, edges}
use Rattle.model.specs.Components.{within}
use Rattle.model.specs.Growth.{start, clusters, oddly_lit, odd, swell, Policy, chosen, Grown, grow_from, grown}

-- Odd clusters

-- no part holds an odd number of R
pub record EvenlyLit (B : Board) (l : List ℕ) (R : Set) : Type 0 where
  pub even : (a : ℕ) → a < B.vertices → oddly_lit B l R a ≡ false

-- the part labelled a is odd
pub record OddPart (B : Board) (l : List ℕ) (S : Set) (a : ℕ) : Type 0 where
  pub below : a < B.vertices
  pub is_odd : odd B l S a ≡ true

-- no part is odd
pub record NoneOdd (B : Board) (l : List ℕ) (S : Set) : Type 0 where
  pub even : (a : ℕ) → a < B.vertices → odd B l S a ≡ false

-- an odd cluster grows as a whole where the vertices of R grow
pub record Fed (B : Board) (S : Set) (s : List ℕ) (R : Set) : Type 0 where
  pub cluster : ℕ
  pub part : OddPart B (clusters B s) S cluster
  pub covers : (v : ℕ) → v < B.vertices → within (clusters B s) cluster v ≡ true → R v ≡ true

-- a policy under which some odd cluster grows as long as there is one
pub record Feeds (B : Board) (S : Set) (p : Policy) : Type 0 where
  pub feeds : (s : List ℕ) (R : Set) → p s ≡ some R → Fed B S s R
  pub stops : (s : List ℕ) → p s ≡ none → NoneOdd B (clusters B s) S

-- The run

-- supports s are reached from the start by g growths that the policy names
pub data Reached (B : Board) (p : Policy) (lost : Set) : List ℕ → ℕ → Type 0 where
  begin : Reached B p lost (start B lost) 0
  after : {s : List ℕ} {g : ℕ} {R : Set} → Reached B p lost s g → p s ≡ some R → Reached B p lost (swell B s R) (suc g)

-- induction along the run
pub reached_holds : (B : Board) (p : Policy) (lost : Set) (P : List ℕ → ℕ → Type 0) → P (start B lost) 0
    → ((s : List ℕ) (g : ℕ) (R : Set) → p s ≡ some R → P s g → P (swell B s R) (suc g))
    → {s : List ℕ} {g : ℕ} → Reached B p lost s g → P s g
reached_holds B p lost P first next begin = first
reached_holds B p lost P first next (after {s} {g} {R} r q) = next s g R q (reached_holds B p lost P first next r)

-- grow_from, one step at a time
pub run_stops : (B : Board) (p : Policy) (k : ℕ) (s : List ℕ) (g : ℕ) → p s ≡ none → grow_from B p k s g ≡ record { support = s; count = g }
unfolding grow_from
run_stops B p zero s g q = refl
run_stops B p (suc k) s g q = rw q

pub run_grows : (B : Board) (p : Policy) (k : ℕ) (s : List ℕ) (g : ℕ) (R : Set) → p s ≡ some R
    → grow_from B p (suc k) s g ≡ grow_from B p k (swell B s R) (suc g)
unfolding grow_from
run_grows B p k s g R q = rw q

-- the end of a run of at most k steps after g growths
pub record Ends (B : Board) (p : Policy) (lost : Set) (k g : ℕ) (x : Grown) : Type 0 where
  pub reached : Reached B p lost x.support x.count
  pub few : x.count ≤ g + k
  pub settled : (x.count ≡ g + k) ⊎ (p x.support ≡ none)

pub run_ends : (B : Board) (p : Policy) (lost : Set) (k : ℕ) (s : List ℕ) (g : ℕ) → Reached B p lost s g → Ends B p lost k g (grow_from B p k s g)
unfolding grow_from
run_ends B p lost zero s g r = record { reached = r; few = omega arith; settled = inl (omega arith) }
run_ends B p lost (suc k) s g r = go (λ R q. run_ends B p lost k (swell B s R) (suc g) (after r q)) (p s) refl
  where
    later : (x : Grown) → Ends B p lost k (suc g) x → Ends B p lost (suc k) g x
    later x e = record { reached = e.reached; few = omega (arith, e.few); settled = moved e.settled }
      where
        moved : (x.count ≡ suc g + k) ⊎ (p x.support ≡ none) → (x.count ≡ g + suc k) ⊎ (p x.support ≡ none)
        moved (inl q) = inl (omega arith)
        moved (inr q) = inr q

    go : ((R : Set) → p s ≡ some R → Ends B p lost k (suc g) (grow_from B p k (swell B s R) (suc g)))
        → (o : Option Set) → p s ≡ o
        → Ends B p lost (suc k) g (chosen o (record { support = s; count = g }) (λ R. grow_from B p k (swell B s R) (suc g)))
    go earlier none q = record { reached = r; few = omega arith; settled = inr q }
    go earlier (some R) q = later _ (earlier R q)

-- growth reaches its result, and there the policy stops, or all steps were made
pub grown_ends : (B : Board) (p : Policy) (lost : Set) → Ends B p lost (2 * edges B) 0 (grown B p lost)
unfolding grown
grown_ends B p lost = run_ends B p lost (2 * edges B) (start B lost) 0 begin
