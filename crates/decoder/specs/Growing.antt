-- Which clusters grow next: a policy, named by the code, and its answer. Internal: no part of what a reader of a product call must
-- believe.
-- Assumes nothing.
use Rattle.std.specs.Prelude.{ℕ, ◌≤◌, ◌<◌, ◌≡◌, List, Some, None}
use Rattle.std.specs.Prelude as prelude
use Rattle.std.proofs.Math.Option.{none, some}
use Rattle.model.specs.Sums.{Set}
use Rattle.model.specs.Board.{Board, Inside}
use Rattle.model.specs.Components.{label}
use Rattle.model.specs.Growth.{clusters, Policy, weighted}
use Rattle.model.specs.Rounds.{all_odd}
use Rattle.decoder.specs.declared.growing.Growth.{Growth}
use Rattle.decoder.specs.declared.growing.Growth.TheVariants.{Weighted, Rounds}
use Rattle.std.specs.declared.ops.Range.{Range}
use Rattle.decoder.specs.Figures.{Figured}
use Rattle.decoder.specs.Raising.{growers}

-- which clusters grow
abbrev pub policy_of : Growth → Board → Set → Policy
policy_of Weighted = weighted
policy_of Rounds = all_odd

-- the names that grow lie from one to another among the first n, and their vertices are those of the policy
pub record Follows (policy : Board → Set → Policy) (B : Board) (S : Set) (s figure : List ℕ) (r : Range ℕ) : Type 0 where
  pub ordered : r.start < r.end
  pub inside : r.end ≤ B.vertices
  pub named : Set
  pub is : policy B S s ≡ some named
  pub grow : (v : ℕ) → v < B.vertices → growers (label (clusters B s)) figure r.start r.end v ≡ named v

-- or nothing grows, by the policy as well
abbrev pub FollowsIfAny : (Board → Set → Policy) → Board → Set → List ℕ → List ℕ → prelude.Option (Range ℕ) → Type 0
FollowsIfAny policy B S s figure (Some r) = Follows policy B S s figure r
FollowsIfAny policy B S s figure None = policy B S s ≡ none

-- whatever board, syndrome and supports the figures are true of: what grows next there is found
pub record FollowsAll (policy : Board → Set → Policy) (n : ℕ) (figure : List ℕ) (r : prelude.Option (Range ℕ)) : Type 0 where
  pub each :
      (B : Board) (S : Set) (s : List ℕ) → B.vertices ≡ n → Inside B → Figured B S s (clusters B s) figure →
      FollowsIfAny policy B S s figure r
