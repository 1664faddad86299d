-- Where no entry is marked no vertex has a marked root. Assumes nothing.
use Prim.Native.Nat.{ℕ}
use mathlib.Core.Path.{◌≡◌, refl, sym}
use mathlib.Core.List.{List}
use mathlib.Core.Option.{none}
use lib.ListN.{length}
use Rattle.model.specs.Sums.{first_up_to}
use Rattle.model.proofs.SumLaws.{first_none}
use Rattle.board.specs.Bounds.{Bounded, entry}
use Rattle.board.proofs.Bounding.{none_one}
use Rattle.union_find.specs.Trees.{Rooted}
use Rattle.parts.specs.RootParities.{Cleared, marked}
use Rattle.parts.proofs.Rooting.{root_limited}

pub none_marked :
    {n k : ℕ} {parent opened odd odd' : List ℕ} {top : ℕ} → Rooted n parent → Cleared k parent opened odd odd' →
    Bounded (length odd') (entry odd') top → top ≡ 0 → none ≡ first_up_to n (marked parent odd')
none_marked {n} {k} {parent} {opened} {odd} {odd'} r x b p =
    sym (first_none n (marked parent odd') (λ v h. none_one odd' b p _ (rw x.long (root_limited r h refl))))
