-- `game::checks::check_game` meets its contract: the tests of the whole board decide, or else test 20, or else those of the position. Assumes
-- nothing.
use mathlib.Core.Path.{sym, ap, ◌∙◌}
use Rattle.model.specs.Lent.{board_lent}
use Rattle.board.specs.Checks.{test_of}
use Rattle.board.proofs.Failures.{hands_on, passes_on, passed}
use Rattle.game.proofs.GameTests.{game_tests, too_many, few_enough, position_allowed}
use Rattle.game.proofs.checks.check_game.Goals as goal

pub returns-in_err-check_whole_board : goal.returns-in_err-check_whole_board
returns-in_err-check_whole_board c =
    let p = hands_on _ _ _ c.from_residual.result c.check_whole_board.ensures c.in_err-check_whole_board.was c.from_residual.ensures.1 in
    ap test_of p.0 ∙ sym (game_tests (board_lent c.args.board) c.args.position.now ∙ p.1)

pub returns-then-board-gt-GAME_EDGES : goal.returns-then-board-gt-GAME_EDGES
returns-then-board-gt-GAME_EDGES c =
    let a = c.args in
    let B = board_lent a.board in
    sym (game_tests B a.position.now
    ∙ passes_on _ _ _ c.check_whole_board.ensures c.in_ok-check_whole_board.was
    ∙ too_many B a.position.now c.if-board-gt-GAME_EDGES.true)

pub check_position-requires : goal.check_position-requires
check_position-requires c =
    let a = c.args in
    position_allowed (board_lent a.board) a.position.now
    (passed _ _ c.check_whole_board.ensures c.in_ok-check_whole_board.was)

pub returns : goal.returns
returns c =
    let a = c.args in
    let B = board_lent a.board in
    c.check_position.ensures
    ∙ sym (game_tests B a.position.now
    ∙ passes_on _ _ _ c.check_whole_board.ensures c.in_ok-check_whole_board.was
    ∙ few_enough B a.position.now c.if-board-gt-GAME_EDGES.false)
