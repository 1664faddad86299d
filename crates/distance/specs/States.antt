-- The four copies of the board that the distance walks over, one for each mark value. No part of what a reader must believe: the contract
-- of `distance` does not cite it. Assumes nothing.
use Rattle.std.specs.Prelude.{ℕ, ◌+◌, ◌*◌, ◌/◌, ◌%◌, Bool, cond, List, eqb}
use Rattle.model.specs.Sums.{◌⊕◌, bit}
use Rattle.model.specs.Board.{Board, without_open, first_end, second_end, vertex_limit}
use Rattle.model.specs.Winding.{crosses_a, crosses_b}

-- The board with as many vertices as there may be, none of them open. The walks ask for no vertex count: a vertex without edges changes no
-- walk.
abbrev pub padded : List ℕ → List ℕ → Board
padded ends marks = without_open vertex_limit ends marks

-- as many states as there may be
abbrev pub state_limit : ℕ
state_limit = 4 * vertex_limit

-- vertex v on the copy whose mark value has bits a and b
abbrev pub state : ℕ → Bool → Bool → ℕ
state v a b = 4 * v + (bit a + 2 * bit b)

-- the two bits of a state's copy
abbrev pub on_a : ℕ → Bool
on_a y = eqb (y % 2) 1

abbrev pub on_b : ℕ → Bool
on_b y = eqb (y / 2 % 2) 1

-- the end of edge e that is not v
abbrev pub other_end : Board → ℕ → ℕ → ℕ
other_end B e v = cond (eqb (first_end B e) v) (second_end B e) (first_end B e)

-- the state across edge e: its other end, on the copy that differs by its mark
unfoldable pub across : Board → ℕ → ℕ → ℕ
across B y e = state (other_end B e (y / 4)) (on_a y ⊕ crosses_a B e) (on_b y ⊕ crosses_b B e)
