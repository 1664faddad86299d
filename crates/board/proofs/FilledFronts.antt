-- An array whose first m bytes were lent to be filled with those of a set, as `&mut array[..m]`, and are read afterwards, as `&array[..m]`:
-- they are the bytes of the set, and the array is as long as before. Assumes nothing.
use Prim.Native.Nat.{ℕ, ◌≤◌}
use mathlib.Core.Path.{◌≡◌, ap, ◌∙◌}
use mathlib.Core.List.{List, ◌++◌}
use lib.ListN.{length, take, drop}
use lib.Seq.{length-take-le, take_at}
use Rattle.model.specs.Sums.{Set, bit, bytes}
use Rattle.model.specs.Board.{ValidBytes}
use Rattle.model.proofs.ListLaws.{length_values, bytes_valid}

module _ (m : ℕ) (D : Set) (array filled : List ℕ) (room : m ≤ length array) (is : filled ≡ bytes (length (take m array)) D) where
  filled_is : filled ≡ bytes m D
  filled_is = is ∙ ap (λ n. bytes n D) (length-take-le m array room)

  filled_long : length filled ≡ m
  filled_long = ap length filled_is ∙ length_values m (λ i. bit (D i))

  pub front_filled : take m (filled ++ drop m array) ≡ bytes m D
  front_filled = take_at filled (drop m array) m filled_long ∙ filled_is

  pub front_valid : ValidBytes m (take m (filled ++ drop m array))
  front_valid = rw front_filled (bytes_valid m D)
