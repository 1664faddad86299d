use mathlib.Core.Path.{◌≡◌, ap, ◌∙◌}
use native.Mathlib.Omega.{arith}
use lib.ListN.{length}
use Rattle.model.specs.Sums.{ones, values}
use Rattle.model.specs.Words.{word_count, number_with, items_of, words_of}
use Rattle.model.proofs.ListLaws.{length_values}
use Rattle.packed.proofs.StoringLaws.{stored_none, stored_value, stored_all}
use Rattle.packed.proofs.packing.pack_items.Goals as goal

pub loop-w-init : goal.loop-w-init
unfolding values
loop-w-init c = stored_none _ 0

pub loop-w-preserved : goal.loop-w-preserved
loop-w-preserved c = stored_value _ c.loop-w.invariant c.packed_word.ensures

pub returns : goal.returns
unfolding words_of
returns c =
    let at = c.loop-w in
    let bytes = c.args.bytes.now in
    let all : at.w ≡ word_count (length bytes) = omega (arith, c.requires.1, c.loop-w-test.false) in
    let long : word_count (length bytes) ≡ length c.args.words.now = omega (arith, c.requires.1) in
    stored_all at.invariant (length_values at.w _ ∙ all ∙ long)
    ∙ ap (λ m. values m (λ j. number_with 64 (items_of (length bytes) (ones bytes) j))) all
