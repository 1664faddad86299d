-- Weighted growth (model, Growth, step 3) is a policy that feeds odd clusters, and what grows is one cluster.
-- Assumes nothing.
use Prim.Native.Nat.{ℕ, zero, suc, ◌<◌}
use mathlib.Core.Path.{◌≡◌, refl, sym, ap, ◌∙◌, subst}
use mathlib.Core.Bool.{Bool, true, false, cond, ◌&&◌}
use mathlib.Core.List.{List}
use mathlib.Core.Option.{Option, none, some}
use native.Mathlib.Nat.{le_refl, not-suc-le-zero}
use native.Mathlib.Omega.{arith}
use borrow.Author.Tests.{eqb-true}
use lib.Dec.{ltb}
use Rattle.model.specs.Sums.{Set}
use Rattle.model.specs.Board.{Board, Inside}
use Rattle.model.specs.Components.{label, labels, within}
use Rattle.model.specs.Growth.{clusters, oddly_lit, odd, boundary, better, choice_up_to, choice, chosen, weighted}
use Rattle.model.proofs.Contradiction.{zero_one}
use Rattle.model.proofs.Xor.{and_left, and_right}
use Rattle.model.proofs.SumLaws.{below_suc}
use Rattle.theory.proofs.OddMembers.{odd_found}
use Rattle.theory.proofs.OddParts.{odd_lit}
use Rattle.theory.proofs.Components.{part_own}
use Rattle.theory.proofs.GrowthRun.{OddPart, NoneOdd, Feeds}

-- The choice

-- what the choice among the labels below k may be
abbrev Fair : Board → List ℕ → Set → ℕ → Option ℕ → Type 0
Fair B l S k none = (a : ℕ) → a < k → odd B l S a ≡ false
Fair B l S k (some a) = (a < k) × (odd B l S a ≡ true)

choice_fair : (B : Board) (s l : List ℕ) (S : Set) (k : ℕ) → Fair B l S k (choice_up_to B s l S k)
unfolding choice_up_to
choice_fair B s l S zero = λ a h. absurd (not-suc-le-zero h)
choice_fair B s l S (suc k) = go (choice_up_to B s l S k) (choice_fair B s l S k) (odd B l S k) refl
  where
    taken : (c : ℕ) (t : Bool) → (odd B l S k && ltb (boundary B s l k) (boundary B s l c)) ≡ t → (c < k) × (odd B l S c ≡ true)
        → Fair B l S (suc k) (cond t (some k) (some c))
    taken c true q f = (le_refl _, and_left _ _ q)
    taken c false q f = (omega (arith, f.0), f.1)

    go : (o : Option ℕ) → Fair B l S k o → (t : Bool) → odd B l S k ≡ t → Fair B l S (suc k) (better B s l S k o)
    go none f true q = rw q (le_refl _, q)
    go none f false q = rw q (λ a h. below_suc k a h (f a) (λ e. rw e q))
    go (some c) f t q = taken c _ refl f

-- a cluster with an odd number of syndrome vertices, an odd one among them, is named by its label
pub lit_named : (B : Board) (F S : Set) → Inside B → (a : ℕ) → oddly_lit B (labels B F) S a ≡ true → label (labels B F) a ≡ a
unfolding oddly_lit
lit_named B F S r a o =
    let x = odd_found B.vertices (λ v. S v && within (labels B F) a v) o in
    let q : label (labels B F) x.at ≡ a = eqb-true _ _ (and_right (S x.at) _ x.holds) in
    ap (label (labels B F)) (sym q) ∙ part_own B F r x.at x.less ∙ q

pub odd_named : (B : Board) (F S : Set) → Inside B → (a : ℕ) → OddPart B (labels B F) S a → label (labels B F) a ≡ a
odd_named B F S r a o = lit_named B F S r a (odd_lit B (labels B F) S a o.is_odd)

-- what is chosen is odd
pub choice_odd : (B : Board) (s l : List ℕ) (S : Set) (a : ℕ) → choice B s l S ≡ some a → OddPart B l S a
unfolding choice
choice_odd B s l S a p =
    let f : Fair B l S B.vertices (some a) = subst (Fair B l S B.vertices) p (choice_fair B s l S B.vertices) in
    record { below = f.0; is_odd = f.1 }

-- nothing is chosen only where nothing is odd
choice_none : (B : Board) (s l : List ℕ) (S : Set) → choice B s l S ≡ none → NoneOdd B l S
unfolding choice
choice_none B s l S p = record { even = subst (Fair B l S B.vertices) p (choice_fair B s l S B.vertices) }

-- The policy

-- what grows is the cluster that was chosen
pub record Chosen (B : Board) (S : Set) (s : List ℕ) (R : Set) : Type 0 where
  pub cluster : ℕ
  pub part : OddPart B (clusters B s) S cluster
  pub is : R ≡ within (clusters B s) cluster

pub weighted_chosen : (B : Board) (S : Set) (s : List ℕ) (R : Set) → weighted B S s ≡ some R → Chosen B S s R
unfolding weighted
weighted_chosen B S s R p = go (choice B s (clusters B s) S) refl p
  where
    go : (o : Option ℕ) → choice B s (clusters B s) S ≡ o → chosen o none (λ a. some (within (clusters B s) a)) ≡ some R → Chosen B S s R
    go none q e = zero_one (cc)
    go (some a) q e = record { cluster = a; part = choice_odd B s (clusters B s) S a q; is = cc }

pub weighted_feeds : (B : Board) (S : Set) → Feeds B S (weighted B S)
unfolding weighted
weighted_feeds B S =
    record {
      feeds = λ s R p.
          let c = weighted_chosen B S s R p in
          record { cluster = c.cluster; part = c.part; covers = λ v h q. ap (λ T. T v) c.is ∙ q };
      stops = λ s p. go s (choice B s (clusters B s) S) refl p;
    }
  where
    go : (s : List ℕ) (o : Option ℕ) → choice B s (clusters B s) S ≡ o
        → chosen o none (λ a. some (within (clusters B s) a)) ≡ none → NoneOdd B (clusters B s) S
    go s none q e = choice_none B s (clusters B s) S q
    go s (some a) q e = zero_one (cc)
