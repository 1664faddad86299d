-- What the look for bits past the last item stands for: the number of the word that it found. Assumes nothing.
use Rattle.std.specs.Prelude.{ℕ, Option, Some, None}
use Rattle.std.proofs.Math.Option as number
use Rattle.model.specs.declared.numbers.Word.{Word}

abbrev pub word_found : Option Word → number.Option ℕ
word_found (Some w) = number.some w.0
word_found None = number.none
