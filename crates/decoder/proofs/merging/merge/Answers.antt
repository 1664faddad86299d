-- `merge` meets its contract. Assumes nothing.
use Rattle.decoder.proofs.merging.merge.Goals as goal

pub merge_roots-requires : goal.merge_roots-requires
merge_roots-requires c = c.requires.roots _ _ c.in-Hung.is
