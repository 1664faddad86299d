-- `trap::checks::check_trap` meets its contract: the tests of the board decide, or else 8, or else 16, or else 23. Assumes nothing.
use mathlib.Core.Path.{sym, ap, ◌∙◌}
use Rattle.std.proofs.lemmas.Result.{err_from_is_err_and}
use Rattle.model.specs.Lent.{board_lent}
use Rattle.board.specs.Checks.{edge_found, test_of}
use Rattle.board.proofs.Failures.{hands_on, passed}
use Rattle.board.proofs.Validity.{open_allowed}
use Rattle.trap.proofs.TrapTests.{trap_tests, too_many, few_enough, loss_allowed, loss_fails, open_fails, after_open}
use Rattle.trap.proofs.checks.check_trap.Goals as goal

pub returns-in_err-check_board : goal.returns-in_err-check_board
returns-in_err-check_board c =
    let p = hands_on _ _ _ c.from_residual.result c.check_board.ensures c.in_err-check_board.was c.from_residual.ensures.1 in
    ap test_of p.0 ∙ sym (trap_tests _ c.args.loss.now c.args.set.now ∙ p.1)

pub first_above-requires : goal.first_above-requires
first_above-requires c =
    loss_allowed _ c.args.loss.now c.args.set.now (passed _ _ c.check_board.ensures c.in_ok-check_board.was)

pub returns-in-Some : goal.returns-in-Some
returns-in-Some c = sym (loss_fails _ _ _ c.check_board.ensures c.in_ok-check_board.was c.first_above.ensures (ap edge_found c.in-Some.is))

pub check_open_bytes-requires : goal.check_open_bytes-requires
check_open_bytes-requires c = open_allowed _ _ (passed _ _ c.check_board.ensures c.in_ok-check_board.was)

pub returns-in_err-check_open_bytes : goal.returns-in_err-check_open_bytes
returns-in_err-check_open_bytes c =
    let p = err_from_is_err_and c.from_residual-in_err-check_open_bytes.result c.from_residual-in_err-check_open_bytes.ensures.1 in
    rw (p.1, p.2)
    (sym
    (open_fails _ _ _ c.check_board.ensures c.in_ok-check_board.was c.first_above.ensures (ap edge_found c.in_default.is)
    c.check_open_bytes.ensures c.in_err-check_open_bytes.was))

pub returns-then-board-gt-TRAP_EDGES : goal.returns-then-board-gt-TRAP_EDGES
returns-then-board-gt-TRAP_EDGES c =
    sym
    (after_open _ _ _ c.check_board.ensures c.in_ok-check_board.was c.first_above.ensures (ap edge_found c.in_default.is)
    c.check_open_bytes.ensures c.in_ok-check_open_bytes.was
    ∙ too_many (board_lent c.args.board) c.if-board-gt-TRAP_EDGES.true)

pub returns : goal.returns
returns c =
    sym
    (after_open _ _ _ c.check_board.ensures c.in_ok-check_board.was c.first_above.ensures (ap edge_found c.in_default.is)
    c.check_open_bytes.ensures c.in_ok-check_open_bytes.was
    ∙ few_enough (board_lent c.args.board) c.if-board-gt-TRAP_EDGES.false)
