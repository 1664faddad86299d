-- What the stack's builder is lent where no test refuses it. Assumes nothing.
use Rattle.std.specs.Prelude.{ℕ, ◌*◌, ◌≡◌, List, length}
use Rattle.model.specs.Board.{ValidBytes}
use Rattle.model.specs.Stack.{stack_vertices, stack_edges}
use Rattle.stack.specs.Layers.{StackWithin}

-- side and rounds of a stack that is built, valid reading bytes, and buffers of the right lengths
pub record ForStack (L R : ℕ) (readings ends marks syndrome : List ℕ) : Type 0 where
  pub within : StackWithin L R
  pub bytes : ValidBytes (stack_vertices L R) readings
  pub ends_sized : length ends ≡ 2 * stack_edges L R
  pub marks_sized : length marks ≡ stack_edges L R
  pub syndrome_sized : length syndrome ≡ stack_vertices L R
