-- `distance::search::improve` meets its contract: a start that is met on another copy is a closed walk, and the trail shows it. Assumes nothing.
use Rattle.distance.proofs.Turning.{fresh_zeros}
use Rattle.distance.proofs.Meetings.{improved}
use Rattle.distance.proofs.search.improve.Goals as goal

pub walk-requires-clause-fresh : goal.walk-requires-clause-fresh
walk-requires-clause-fresh c = fresh_zeros

pub returns : goal.returns
returns c =
    let meeting = rw c.unwrap_or-limit.ensures at c.in-Some.ensures in
    improved c.requires.valid meeting c.trace.ensures
