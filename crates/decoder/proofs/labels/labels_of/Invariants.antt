-- `labels_of` meets its contract: each turn writes one label. Assumes nothing.
use Rattle.union_find.specs.Packed.{parents_of}
use Rattle.decoder.specs.Figures.{names_by}
use Rattle.decoder.specs.TreeLabels.{Labelled}
use Rattle.decoder.proofs.labels.labels_of.Given as goal

abbrev pub invariant-loop-v : goal.invariant-loop-v
invariant-loop-v l = Labelled l.v (parents_of l.tree) (names_by l.figure) l.labels
