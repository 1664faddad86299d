-- `distance::distance` meets its contract: the test comes first, then the walks from every start of the identified board, and the front of
-- what they found is copied. Assumes nothing.
use Prim.Native.Nat.{ℕ, ◌*◌}
use mathlib.Core.Path.{◌≡◌, sym, ap, ◌∙◌}
use mathlib.Core.List.{List}
use lib.ListN.{length-replicate}
use Rattle.std.specs.Prelude.{Result, Ok}
use Rattle.std.proofs.lemmas.Result.{err_from_is_err_and}
use Rattle.model.specs.declared.refusal.Refusal.{Refusal}
use Rattle.model.specs.Board.{Board, Valid, edge_limit}
use Rattle.model.specs.Refusals.{distance_refusal}
use Rattle.board.specs.Checks.{test_of}
use Rattle.board.proofs.Calls.{distance_passes}
use Rattle.board.proofs.Failures.{passed}
use Rattle.distance.proofs.GluedEnds.{gluable, front_fits, front_whole, front_valid, front_shortest}
use Rattle.distance.proofs.DistanceOutcome.{refused_measures, copy_fits, same_number, found_measures}
use Rattle.distance.proofs.distance.Goals as goal

-- a board that passes the tests is valid
valid_board : (B : Board) (shown : List ℕ) {r : Result Unit Refusal} → test_of r ≡ distance_refusal B shown → r ≡ Ok tt → Valid B
valid_board B shown tested is = (distance_passes B shown (sym tested ∙ ap test_of is)).board

pub returns-in_err-check_distance : goal.returns-in_err-check_distance
returns-in_err-check_distance c =
    let p = err_from_is_err_and c.from_residual.result c.from_residual.ensures.1 in
    rw (p.1, p.2) (refused_measures _ _ (sym c.check_distance.ensures ∙ ap test_of c.in_err-check_distance.was))

pub glue-requires : goal.glue-requires
glue-requires c =
    gluable _ _ _ _ (valid_board _ _ c.check_distance.ensures c.in_ok-check_distance.was) _ (length-replicate {A = ℕ} (2 * edge_limit) 0)

pub slice_bounds-glued-end : goal.slice_bounds-glued-end
slice_bounds-glued-end c = front_fits _ _ _ _ (valid_board _ _ c.check_distance.ensures c.in_ok-check_distance.was) _ c.glue.ensures

pub slice_bounds-shortest-end : goal.slice_bounds-shortest-end
slice_bounds-shortest-end c = sym (front_whole _ _ _ _ (valid_board _ _ c.check_distance.ensures c.in_ok-check_distance.was) _ c.glue.ensures)

pub shortest-fewest-requires-clause-valid : goal.shortest-fewest-requires-clause-valid
shortest-fewest-requires-clause-valid c = front_valid _ _ _ _ (valid_board _ _ c.check_distance.ensures c.in_ok-check_distance.was) _ c.glue.ensures

pub copy_front-requires : goal.copy_front-requires
copy_front-requires c =
    copy_fits _ _ (passed _ _ c.check_distance.ensures c.in_ok-check_distance.was) _ _
    (front_shortest _ _ _ _ (valid_board _ _ c.check_distance.ensures c.in_ok-check_distance.was) _ c.glue.ensures _ _ c.shortest-fewest.ensures)

pub returns : goal.returns
returns c =
    rw (c.copy_front.ensures, same_number _ _ c.map.ensures.cases)
    (found_measures _ _ (passed _ _ c.check_distance.ensures c.in_ok-check_distance.was) _ _
    (front_shortest _ _ _ _ (valid_board _ _ c.check_distance.ensures c.in_ok-check_distance.was) _ c.glue.ensures _ _ c.shortest-fewest.ensures))
