-- How often the edges of a set cross each line, odd or even, by the list of marks. No part of what a reader must believe: this is the
-- model's `crossings`, which looks at no more of a board than its marks. Assumes nothing.
use Rattle.std.specs.Prelude.{ℕ, ◌+◌, ◌*◌, ◌/◌, ◌%◌, Bool, ◌&&◌, List, length, get_or, eqb}
use Rattle.model.specs.Sums.{Set, bit, odd_up_to}

-- the edges that cross line A, line B
abbrev pub on_line_a : List ℕ → Set
on_line_a marks e = eqb (get_or marks e 0 % 2) 1

abbrev pub on_line_b : List ℕ → Set
on_line_b marks e = eqb (get_or marks e 0 / 2 % 2) 1

-- an odd number of D's edges below k cross the line
abbrev pub crossed : Set → Set → ℕ → Bool
crossed line D k = odd_up_to k (λ e. D e && line e)

-- the exclusive or of the marks of D, bit by bit
abbrev pub crossed_by : List ℕ → Set → ℕ
crossed_by marks D =
    bit (crossed (on_line_a marks) D (length marks)) + 2 * bit (crossed (on_line_b marks) D (length marks))
