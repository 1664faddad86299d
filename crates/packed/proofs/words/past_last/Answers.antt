-- `packed::words::past_last` meets its contract: only the last word can have a bit past the last item. Assumes nothing.
use Prim.Native.Nat.{◌/◌}
use Rattle.packed.proofs.PastLast.{none_full, none_above, last_above}
use Rattle.packed.proofs.words.past_last.Goals as goal

pub returns-then-rest-eq0 : goal.returns-then-rest-eq0
returns-then-rest-eq0 c =
    let a = c.args in
    none_full a.items a.words.now c.requires.1 c.if-rest-eq0.true

pub returns-then-words-last-eq0 : goal.returns-then-words-last-eq0
returns-then-words-last-eq0 c =
    let a = c.args in
    none_above a.items a.words.now c.requires.1 c.if-words-last-eq0.true

pub returns : goal.returns
returns c =
    let a = c.args in
    last_above a.items a.words.now c.requires.1 c.if-rest-eq0.false (c.type_inv.words (a.items / 64)).fits c.if-words-last-eq0.false
