-- `packed::listing::set_bits` meets its contract: the numbers of set bits in all words, added up, are that of their items. Assumes nothing.
use mathlib.Core.Path.{◌≡◌, ◌∙◌}
use borrow.Author.Rules.{rules}
use lib.Count.{ones}
use Rattle.std.specs.List.{sum_by}
use Rattle.std.proofs.iter.runs.Made.{chains}
use Rattle.packed.proofs.LitLaws.{total_summed}
use Rattle.packed.proofs.listing.set_bits.Goals as goal

pub returns : goal.returns
returns c =
    let summed : c.sum.result ≡ sum_by ones c.args.words.now = search (rules, chains) in
    summed ∙ total_summed c.args.words.now (λ w. (c.type_inv.words w).fits)
