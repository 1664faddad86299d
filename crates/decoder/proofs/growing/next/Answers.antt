-- `next` meets its contract: where a cluster is chosen, it grows alone, or in a round all that are odd do. Assumes nothing.
use mathlib.Core.Path.{sym}
use native.Mathlib.Numerals.{add-one}
use Rattle.decoder.proofs.Following.{follows_none, follows_chosen, follows_odd}
use Rattle.decoder.proofs.growing.next.Goals as goal

pub returns-in_err-cluster : goal.returns-in_err-cluster
returns-in_err-cluster c = rw c.from_residual.ensures (follows_none _ _ c.requires.few c.args.growth (sym c.in_err-cluster.ensures))

pub returns-in-Weighted : goal.returns-in-Weighted
returns-in-Weighted c = rw (c.in-Weighted.is, add-one) (follows_chosen _ _ c.requires.few _ (sym c.in_ok-cluster.ensures))

pub returns-in-Rounds : goal.returns-in-Rounds
returns-in-Rounds c = rw c.in-Rounds.is (follows_odd _ _ c.requires.few _ (sym c.in_ok-cluster.ensures))
