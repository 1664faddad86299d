-- `distance::search::shortest` meets its contract: each turn does one start more. Assumes nothing.
use mathlib.Core.Path.{◌≡◌}
use native.Mathlib.Omega.{arith}
use lib.ListN.{length}
use Rattle.model.specs.Board.{without_open}
use Rattle.model.specs.Refusals.{edges_of}
use Rattle.board.proofs.Validity.{marks_long}
use Rattle.board.proofs.Listing.{incidence_marked}
use Rattle.distance.proofs.LoopAnswers.{padded_valid, bound_limit, searched_more, searched_all}
use Rattle.distance.proofs.search.shortest.Goals as goal

pub improve-best-requires : goal.improve-best-requires
improve-best-requires c =
    let valid = c.requires.valid in
    let half-as-many : length c.args.marks.now ≡ edges_of c.args.ends.now =
    marks_long (without_open c.args.vertices c.args.ends.now c.args.marks.now) valid.inside in
    record {
      valid = padded_valid valid;
      lists = incidence_marked _ _ _ _ _ _ _ half-as-many c.list.ensures;
      start = omega (arith, c.loop-start-test.true, valid.inside.vertices_limited);
      limit = bound_limit _ c.loop-start.invariant.limit;
    }

pub loop-start-preserved : goal.loop-start-preserved
loop-start-preserved c = searched_more c.loop-start.invariant c.improve-best.ensures

pub returns : goal.returns
returns c =
    let last : c.loop-start.start ≡ c.args.vertices = omega arith in
    searched_all c.requires.valid (rw last at c.loop-start.invariant)
