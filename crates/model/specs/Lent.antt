-- Document 01, "How far contracts go", 1: what a contract sees of lent buffers as one value. A clause says what a buffer holds when the call
-- begins (`x.now` where it is only read, `x.old` where it is written) and when the call is over (`x.new`). Assumes nothing.
use Rattle.model.specs.Board.{Board, board_of, Sheet, sheet_of}
use Rattle.model.specs.declared.lent.Board as lent_board
use Rattle.model.specs.declared.lent.Sheet as lent_sheet

-- the board and the sheet that are lent, as they are when the call begins
abbrev pub board_lent : lent_board.Board → Board
board_lent b = board_of b.vertices b.ends.now b.marks.now b.opened.now

abbrev pub sheet_lent : lent_sheet.Sheet → Sheet
sheet_lent s = sheet_of (board_lent s.board) s.syndrome.now s.loss.now
