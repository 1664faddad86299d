-- `text::reading::read_lines` meets its contract. One reader lives through the reading: the first line begins the sheet, and each turn
-- reads the line at the reader's position and moves the reader on to the next; a turn ends the reading or leads to a sheet with less of the
-- text left. Assumes nothing.
use mathlib.Core.Path.{ap, ◌∙◌}
use native.Mathlib.Omega.{arith}
use Rattle.text.proofs.StageLaws.{first_unread, first_unbegun, first_begun, within, finished, turn_unread, turn_untaken, turn_further, turn_moved}
use Rattle.text.proofs.reading.read_lines.Goals as goal

pub returns-in_default : goal.returns-in_default
returns-in_default c = first_unread c.of-lines.ensures c.requires.sized c.next_line.ensures c.in_default.is

pub returns-in_default-begin : goal.returns-in_default-begin
returns-in_default-begin c =
    first_unbegun c.of-lines.ensures c.requires.sized c.next_line.ensures c.in-Some.is c.begin.ensures c.in_default-begin.is

pub loop-lines-init : goal.loop-lines-init
loop-lines-init c = record {
  text_is = ap (λ x. x.now) (c.moved_on-lines.ensures.text_is ∙ c.of-lines.ensures.text_is);
  reached = first_begun c.of-lines.ensures c.requires.sized c.next_line.ensures c.in-Some.is c.begin.ensures c.in-Some-begin.is c.requires.clear c.moved_on-lines.ensures;
}

pub returns-in_default-next_line : goal.returns-in_default-next_line
returns-in_default-next_line c =
    let w = c.loop-lines.invariant in
    turn_unread w.reached w.text_is c.loop-lines-test.true c.next_line-in-loop-lines.ensures c.in_default-next_line.is

pub take_line-requires : goal.take_line-requires
take_line-requires c = within c.loop-lines.invariant.reached

pub returns-in_default-take_line : goal.returns-in_default-take_line
returns-in_default-take_line c =
    let w = c.loop-lines.invariant in
    turn_untaken w.reached w.text_is c.loop-lines-test.true c.next_line-in-loop-lines.ensures c.in-Some-next_line.is c.take_line.ensures c.in_default-take_line.is

pub loop-lines-smaller : goal.loop-lines-smaller
loop-lines-smaller c =
    let w = c.loop-lines.invariant in
    let further =
    turn_further w.reached w.text_is c.loop-lines-test.true c.next_line-in-loop-lines.ensures c.in-Some-next_line.is c.moved_on-lines-in-loop-lines.ensures in
    omega (arith, further, c.loop-lines-test.true)

pub loop-lines-preserved : goal.loop-lines-preserved
loop-lines-preserved c =
    let w = c.loop-lines.invariant in
    record {
      text_is = ap (λ x. x.now) c.moved_on-lines-in-loop-lines.ensures.text_is ∙ w.text_is;
      reached = turn_moved w.reached w.text_is c.loop-lines-test.true c.next_line-in-loop-lines.ensures c.in-Some-next_line.is c.take_line.ensures c.in-Some-take_line.is c.moved_on-lines-in-loop-lines.ensures;
    }

pub returns : goal.returns
returns c = finished c.loop-lines.invariant.reached c.loop-lines-test.false
