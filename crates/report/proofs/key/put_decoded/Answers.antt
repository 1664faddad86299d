-- `report::key::put_decoded` meets its contract: decoding's refusal is number 10, and its key is that of the definition. Assumes nothing.
use mathlib.Core.Path.{sym}
use borrow.Author.Rules.{rules}
use Rattle.report.proofs.KeyLaws.{refused_report, key_given}
use Rattle.report.proofs.key.put_decoded.Goals as goal

pub put_key-requires : goal.put_key-requires
put_key-requires c =
    let keyed = key_given c.requires c.in-Ok.ensures.key in
    let w = c.requires in
    record {
      board = w.sheet.board;
      few_growths = keyed.limit;
      correction_long = search rules;
      shown_long = search rules;
      room = w.room;
    }

pub returns-in-Err : goal.returns-in-Err
returns-in-Err c = rw (sym (refused_report c.requires c.in-Err.ensures.key)) c.put_refusal.ensures

pub returns-in-Ok : goal.returns-in-Ok
returns-in-Ok c = rw (sym (key_given c.requires c.in-Ok.ensures.key).report_is) c.put_key.ensures
