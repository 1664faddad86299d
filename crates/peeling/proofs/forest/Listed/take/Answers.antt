-- `peeling::forest::Listed::take` meets its contract, in each of its two cases. Assumes nothing.
use mathlib.Core.Path.{refl}
use Rattle.peeling.specs.Links.{appended, passed}
use Rattle.peeling.proofs.forest.Listed.take.Goals as goal

pub returns-in-Hung : goal.returns-in-Hung
returns-in-Hung c = appended _ _
    (rw (c.first_end-a.ensures, c.second_end-b.ensures, c.in-Hung.is) at c.join.ensures)
    refl refl refl

pub returns-in-Already : goal.returns-in-Already
returns-in-Already c = passed _
    (rw (c.first_end-a.ensures, c.second_end-b.ensures, c.in-Already.is) at c.join.ensures)
    refl refl refl
