-- Document 02, K8: growing in rounds, as on the older teaching sheet (source document 000, section 4). All odd clusters grow together.
-- Assumes nothing.
use Rattle.std.specs.Prelude.{cond}
use Rattle.std.proofs.Math.Option.{none, some}
use Rattle.model.specs.Sums.{Set, some_up_to}
use Rattle.model.specs.Board.{Board}
use Rattle.model.specs.Growth.{clusters, in_odd, Policy}

-- A round: every cluster that is odd in these supports, that is, when the round begins, grows. So each edge that isn't full gains a half-edge
-- for each of its ends in such a cluster, up to 2, and one between two of them gains two. Without an odd cluster there is no round.
unfoldable pub all_odd : Board → Set → Policy
all_odd B S s =
    let R = in_odd B (clusters B s) S in
    cond (some_up_to B.vertices R) (some R) none
