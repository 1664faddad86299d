-- `shut_listed` meets its contract: each turn takes off both ends of one listed edge. Assumes nothing.
use lib.ListN.{length}
use Rattle.union_find.specs.Packed.{parents_of}
use Rattle.decoder.specs.Figures.{names_by}
use Rattle.decoder.specs.Shutting.{ListShuttable, ShutUpTo}
use Rattle.decoder.proofs.shutting.shut_listed.Given as goal

abbrev pub invariant-loop-number : goal.invariant-loop-number
invariant-loop-number l =
    (w : ListShuttable (parents_of l.tree) (names_by l.initial.figure) l.ends l.listed (length l.listed) l.initial.exposure l.initial.figure)
    → ShutUpTo w l.number-index l.exposure l.figure
