-- `text::printing::put_listed` meets its contract. The loop's invariant: so many places are gone through. Assumes nothing.
use Rattle.model.specs.Sums.{ones}
use Rattle.text.specs.Printing.{Puts, listed_bytes}
use Rattle.text.proofs.printing.put_listed.Given as goal

abbrev pub invariant-loop-i : goal.invariant-loop-i
invariant-loop-i l = Puts (listed_bytes l.letter (ones l.bytes) l.i) l.initial.out l.at l.next l.out
