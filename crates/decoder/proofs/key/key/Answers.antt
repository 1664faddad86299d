-- `key` meets its contract: nothing to do, number 10, or run, odd ends and peel. Assumes nothing.
use mathlib.Core.Path.{sym}
use Rattle.decoder.proofs.Keying.{unlit_keyed, searchable, shows_odd, runnable, sealed_peelable, sealed_keyed, nameable, markable, front_long, peelable, keyed}
use Rattle.decoder.proofs.key.key.Goals as goal

-- Nothing is lit
pub lose-requires : goal.lose-requires
lose-requires c = sym c.requires.support_long

pub returns-then-largest_byte-eq0 : goal.returns-then-largest_byte-eq0
returns-then-largest_byte-eq0 c = unlit_keyed c.args.growth _ _ _ _ _ _ _ c.requires c.largest_byte.ensures c.if-largest_byte-eq0.true _ _ c.lose.ensures
    c.clear.ensures

-- Something is
pub first_odd-requires : goal.first_odd-requires
first_odd-requires c = searchable c.args.growth _ _ _ _ _ _ _ c.requires

pub returns-in-Some : goal.returns-in-Some
returns-in-Some c = shows_odd c.args.growth _ _ _ _ _ _ _ c.requires _ c.first_odd.ensures _ c.in-Some.is

pub run-ran-requires : goal.run-ran-requires
run-ran-requires c = runnable c.args.growth _ _ _ _ _ _ _ c.requires _ c.first_odd.ensures c.in_default.is

pub peel-edges-requires : goal.peel-edges-requires
peel-edges-requires c = sealed_peelable c.args.growth _ _ _ _ _ _ _ c.requires _ c.first_odd.ensures c.in_default.is
    _ _ c.run-ran.ensures c.largest_byte-2.ensures c.if-largest_byte-eq0-2.true

pub returns-then-largest_byte-eq0-2 : goal.returns-then-largest_byte-eq0-2
returns-then-largest_byte-eq0-2 c = sealed_keyed c.args.growth _ _ _ _ _ _ _ c.requires _ c.first_odd.ensures c.in_default.is
    _ _ c.run-ran.ensures c.largest_byte-2.ensures c.if-largest_byte-eq0-2.true _ _ c.peel-edges.ensures

pub labels_of-labels-requires : goal.labels_of-labels-requires
labels_of-labels-requires c = nameable c.args.growth _ _ _ _ _ _ _ c.requires _ c.first_odd.ensures c.in_default.is
    _ _ c.run-ran.ensures

pub odd_ends-lit-requires : goal.odd_ends-lit-requires
odd_ends-lit-requires c = markable c.args.growth _ _ _ _ _ _ _ c.requires _ c.first_odd.ensures c.in_default.is
    _ _ c.run-ran.ensures _ c.labels_of-labels.ensures

pub slice_bounds-peel-end : goal.slice_bounds-peel-end
slice_bounds-peel-end c = sym (front_long c.args.growth _ _ _ _ _ _ _ c.requires _ c.first_odd.ensures c.in_default.is
    _ _ c.run-ran.ensures _ c.labels_of-labels.ensures _ c.odd_ends-lit.ensures)

pub peel-edges-requires-2 : goal.peel-edges-requires-2
peel-edges-requires-2 c = peelable c.args.growth _ _ _ _ _ _ _ c.requires _ c.first_odd.ensures c.in_default.is
    _ _ c.run-ran.ensures _ c.labels_of-labels.ensures _ c.odd_ends-lit.ensures

pub returns : goal.returns
returns c = keyed c.args.growth _ _ _ _ _ _ _ c.requires _ c.first_odd.ensures c.in_default.is
    _ _ c.run-ran.ensures _ c.labels_of-labels.ensures _ c.odd_ends-lit.ensures
    _ _ c.peel-edges-2.ensures
