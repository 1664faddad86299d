-- `trap::trap` meets its contract: where the tests pass, the distance shows a shortest winding loop, from which the search goes on, or says
-- that there is none. Assumes nothing.
use mathlib.Core.Path.{sym, ap, ◌∙◌}
use mathlib.Core.List.{List}
use Prim.Native.Nat.{ℕ}
use Rattle.std.specs.Prelude.{Ok}
use Rattle.std.proofs.lemmas.Result.{err_from_is_err_and}
use Rattle.model.specs.Answers.{Trap}
use Rattle.model.specs.Board.{Board}
use Rattle.model.specs.TrapOutcomes.{SetsTrap, TrapsSoundly}
use Rattle.board.specs.Checks.{test_of}
use Rattle.board.proofs.Failures.{passed}
use Rattle.trap.proofs.TrapTests.{trap_passes}
use Rattle.trap.proofs.SoundTraps.{sets_sound}
use Rattle.trap.proofs.TrapOutcome.{refused_outcome, nothing_outcome, loop_shown, smallest_outcome, refused_never}
use Rattle.trap.proofs.trap.Goals as goal

-- what meets the outcome is what an examiner may rely on
sound : {B : Board} {loss set : List ℕ} {r : Trap} {new : List ℕ} → SetsTrap B loss set r new → TrapsSoundly B loss set r new
sound {B} {loss} {set} outcome = sets_sound B _ _ _ _ outcome (trap_passes B loss set)

-- the tests refuse
pub returns-in_err-check_trap : goal.returns-in_err-check_trap
returns-in_err-check_trap c =
    let p = err_from_is_err_and c.from_residual.result c.from_residual.ensures.1 in
    let outcome = refused_outcome _ c.args.loss.now c.args.set.now _ (sym c.check_trap.ensures ∙ ap test_of c.in_err-check_trap.was) in
    rw (p.1, p.2) (record { outcome = outcome; sound = sound outcome })

-- none of them refuses, and so the distance doesn't either
pub returns-in_err-fewest : goal.returns-in_err-fewest
returns-in_err-fewest c =
    absurd (refused_never _ _ _ (passed _ _ c.check_trap.ensures c.in_ok-check_trap.was) c.distance.ensures _ c.in_err-fewest.was)

-- a shortest loop is shown
pub lighten-edges-requires : goal.lighten-edges-requires
lighten-edges-requires c =
    let none_fails = passed _ _ c.check_trap.ensures c.in_ok-check_trap.was in
    (trap_passes _ _ _ none_fails, loop_shown _ _ _ none_fails c.distance.ensures _ (c.in_ok-fewest.was ∙ ap Ok c.in-Some.is))

pub returns : goal.returns
returns c =
    let none_fails = passed _ _ c.check_trap.ensures c.in_ok-check_trap.was in
    let outcome = smallest_outcome _ _ _ none_fails c.distance.ensures _ _ c.lighten-edges.ensures in
    record { outcome = outcome; sound = sound outcome }

-- or none winds
pub returns-in_default : goal.returns-in_default
returns-in_default c =
    let none_fails = passed _ _ c.check_trap.ensures c.in_ok-check_trap.was in
    let outcome = nothing_outcome _ _ _ none_fails c.distance.ensures (c.in_ok-fewest.was ∙ ap Ok c.in_default.is) in
    record { outcome = outcome; sound = sound outcome }
