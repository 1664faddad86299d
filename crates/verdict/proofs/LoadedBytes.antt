-- The syndrome put, copied over the first bytes of an array: what is then flipped. Assumes nothing.
use Prim.Native.Nat.{ℕ, ◌<◌}
use mathlib.Core.Path.{◌≡◌, ap, ◌∙◌}
use mathlib.Core.List.{List}
use native.Mathlib.Omega.{arith}
use lib.Dec.{eqb}
use lib.ListN.{get_or, take, drop, get_or-append}
use lib.Seq.{get_or-take, length-take-le}
use Rattle.model.specs.Sums.{ones}
use Rattle.model.specs.Board.{ValidBytes}
use Rattle.board.proofs.CopyLaws.{copied}

module _ (n : ℕ) (s d l : List ℕ) (valid : ValidBytes n s) (copy : l ≡ copied s d n) where
  loaded_at : (v : ℕ) → v < n → get_or l v 0 ≡ get_or s v 0
  loaded_at v h =
      ap (λ k. get_or k v 0) copy
      ∙ get_or-append (take n s) (drop n d) 0 v (omega (arith, length-take-le n s (omega (arith, valid.count))))
      ∙ get_or-take n s v 0 h

  pub loaded_ones : (v : ℕ) → v < n → ones l v ≡ ones s v
  loaded_ones v h = ap (λ x. eqb x 1) (loaded_at v h)
