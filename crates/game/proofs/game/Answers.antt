-- `game::game` meets its contract: the tests come first, then the search. Assumes nothing.
use mathlib.Core.Path.{sym, ap, ◌∙◌}
use Rattle.std.proofs.lemmas.Result.{err_from_is_err_and}
use Rattle.model.specs.Lent.{board_lent}
use Rattle.board.specs.Checks.{test_of}
use Rattle.game.proofs.GameTests.{game_passes}
use Rattle.game.proofs.GameOutcome.{refused, played}
use Rattle.game.proofs.game.Goals as goal

pub returns-in_err-check_game : goal.returns-in_err-check_game
returns-in_err-check_game c =
    let p = err_from_is_err_and c.from_residual.result c.from_residual.ensures.1 in
    let all = refused (board_lent c.args.board) c.args.position.now (sym c.check_game.ensures ∙ ap test_of c.in_err-check_game.was) in
    rw (p.1, p.2) (record { answer = all.0; sound = all.1 })

pub search-requires : goal.search-requires
search-requires c = game_passes (board_lent c.args.board) c.args.position.now (sym c.check_game.ensures ∙ ap test_of c.in_ok-check_game.was)

pub returns : goal.returns
returns c =
    let all = played (board_lent c.args.board) c.args.position.now (sym c.check_game.ensures ∙ ap test_of c.in_ok-check_game.was) c.search.ensures in
    record { answer = all.0; sound = all.1 }
