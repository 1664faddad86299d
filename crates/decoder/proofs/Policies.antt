-- Both ways to grow feed odd clusters, and look at no marks. Assumes nothing.
use mathlib.Core.Path.{◌≡◌}
use mathlib.Core.List.{List}
use Prim.Native.Nat.{ℕ}
use lib.ListN.{length}
use Rattle.model.specs.Sums.{Set}
use Rattle.model.specs.Board.{Board, Inside, board_of}
use Rattle.theory.proofs.GrowthRun.{Feeds}
use Rattle.theory.proofs.WeightedGrowth.{weighted_feeds}
use Rattle.theory.proofs.RoundGrowth.{rounds_feed}
use Rattle.theory.proofs.MarksAside.{weighted_aside, rounds_aside}
use Rattle.decoder.specs.declared.growing.Growth.{Growth}
use Rattle.decoder.specs.declared.growing.Growth.TheVariants.{Weighted, Rounds}
use Rattle.decoder.specs.Growing.{policy_of}

pub policy_feeds : (x : Growth) (B : Board) → Inside B → (S : Set) → Feeds B S (policy_of x B S)
policy_feeds Weighted B r S = weighted_feeds B S
policy_feeds Rounds B r S = rounds_feed B r S

pub policy_aside : (x : Growth) (n : ℕ) (ends marks marks' opened : List ℕ) → length marks ≡ length marks' → (S : Set) (s : List ℕ)
    → policy_of x (board_of n ends marks opened) S s ≡ policy_of x (board_of n ends marks' opened) S s
policy_aside Weighted n ends marks marks' opened same = weighted_aside n ends marks marks' opened same
policy_aside Rounds n ends marks marks' opened same = rounds_aside n ends marks marks' opened same
