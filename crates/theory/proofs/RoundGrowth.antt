-- Growing in rounds (model, Rounds) is a policy that feeds odd clusters: all of them at once.
-- Assumes nothing.
use Prim.Native.Nat.{ℕ}
use mathlib.Core.Path.{◌≡◌, refl, sym, ap, ◌∙◌}
use mathlib.Core.Bool.{Bool, true, false, cond}
use mathlib.Core.List.{List}
use mathlib.Core.Option.{none, some, none-ne-some}
use borrow.Author.Tests.{eqb-true}
use Rattle.model.specs.Sums.{Set, some_up_to}
use Rattle.model.specs.Board.{Board, Inside}
use Rattle.model.specs.Components.{label}
use Rattle.model.specs.Growth.{full, clusters, odd, in_odd}
use Rattle.model.specs.Rounds.{all_odd}
use Rattle.model.proofs.SumLaws.{some_found, some_none}
use Rattle.theory.proofs.Options.{passed}
use Rattle.theory.proofs.Components.{part_below}
use Rattle.theory.proofs.NoCorrection.{even_parts}
use Rattle.theory.proofs.GrowthRun.{NoneOdd, Fed, Feeds}

module _ (B : Board) (r : Inside B) (S : Set) where
  -- the vertices that grow are those of the odd clusters, so the cluster of each of them grows as a whole
  round_fed : (s : List ℕ) (R : Set) → all_odd B S s ≡ some R → Fed B S s R
  unfolding all_odd clusters
  round_fed s R p =
      let l = clusters B s in
      let w = passed (some_up_to B.vertices (in_odd B l S)) (some (in_odd B l S)) p in
      let x = some_found B.vertices (in_odd B l S) w.test in
      let is : in_odd B l S ≡ R = cc in
      record {
        cluster = label l x.at;
        part = record { below = part_below B (full s) x.at x.less; is_odd = x.holds };
        covers = λ v h q. ap (λ T. T v) (sym is) ∙ ap (odd B l S) (eqb-true (label l v) (label l x.at) q) ∙ x.holds;
      }

  round_stops : (s : List ℕ) → all_odd B S s ≡ none → NoneOdd B (clusters B s) S
  unfolding all_odd clusters
  round_stops s p = even_parts B r (full s) S (some_none B.vertices (in_odd B (clusters B s) S) (go _ p))
    where
      go : (t : Bool) → cond t (some (in_odd B (clusters B s) S)) none ≡ none → t ≡ false
      go true q = absurd (none-ne-some _ (sym q))
      go false q = refl

  pub rounds_feed : Feeds B S (all_odd B S)
  rounds_feed = record { feeds = round_fed; stops = round_stops }
