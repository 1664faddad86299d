-- Trees that are the parts of the whole board. Internal: no part of what a reader of a product call must believe.
-- Assumes nothing.
use Rattle.std.specs.Prelude.{ℕ, true, List}
use Rattle.model.specs.Board.{plain}
use Rattle.model.specs.Components.{labels_up_to}
use Rattle.model.specs.Decoding.{parts}
use Rattle.model.specs.Refusals.{edges_of}
use Rattle.union_find.specs.Trees.{Rooted}
use Rattle.union_find.specs.Packed.{parents_of, Packed}
use Rattle.union_find.specs.Joining.{Mirrors}

-- the trees are the parts by the first k edges
pub record ConnectsUpTo (n : ℕ) (ends : List ℕ) (k : ℕ) (t : List ℕ) : Type 0 where
  pub packed : Packed n t
  pub mirrors : Mirrors n (parents_of t) (labels_up_to (plain n (edges_of ends) ends) (λ e. true) k)

-- the trees are the parts of the whole board
pub record Connects (n : ℕ) (ends parent : List ℕ) : Type 0 where
  pub rooted : Rooted n parent
  pub mirrors : Mirrors n parent (parts (plain n (edges_of ends) ends))
