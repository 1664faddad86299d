-- Document 01, "Board and loops": closed sets (cycles modulo 2) and winding sets (cycles whose marks do not cancel). With document 02, K5,
-- a closed set may end at open vertices, so that what runs from open side to open side may wind too.
-- Assumes nothing.
use Rattle.std.specs.Prelude.{ℕ, ◌+◌, ◌*◌, ◌/◌, ◌%◌, Bool, not, ◌&&◌, eqb}
use Rattle.model.specs.Sums.{Set, ◌⊕◌, bit, odd_up_to, count_up_to, some_up_to}
use Rattle.model.specs.Board.{Board, edges, mark}
use Rattle.model.specs.Syndrome.{syndrome}

-- D is closed, a cycle modulo 2: every vertex that is not open has even degree in it
unfoldable pub closed : Board → Set → Bool
closed B D = not (some_up_to B.vertices (syndrome B D))

-- edge e crosses line A, line B: bit 0 and bit 1 of its mark
abbrev pub crosses_a : Board → ℕ → Bool
crosses_a B e = eqb (mark B e % 2) 1

abbrev pub crosses_b : Board → ℕ → Bool
crosses_b B e = eqb (mark B e / 2 % 2) 1

-- the exclusive or of the marks of D, bit by bit
unfoldable pub crossings : Board → Set → ℕ
crossings B D =
    bit (odd_up_to (edges B) (λ e. D e && crosses_a B e)) + 2 * bit (odd_up_to (edges B) (λ e. D e && crosses_b B e))

-- D winds, that is, D is a winding loop: a closed set that crosses line A or line B an odd number of times
unfoldable pub winds : Board → Set → Bool
winds B D = closed B D && not (eqb (crossings B D) 0)

-- D and E together: their symmetric difference, the edges that lie in exactly one of them
abbrev pub together : Set → Set → Set
together D E e = D e ⊕ E e

-- the number of edges of a set
abbrev pub size : Board → Set → ℕ
size B D = count_up_to (edges B) D
