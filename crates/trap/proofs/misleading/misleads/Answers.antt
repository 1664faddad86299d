-- `trap::misleading::misleads` meets its contract: what is put before the verdict is the sheet that is handed out after the set was flipped.
-- Assumes nothing.
use mathlib.Core.Path.{◌∙◌}
use Rattle.verdict.proofs.SetSyndromes.{unlit_bits, set_inside, set_syndrome}
use Rattle.trap.proofs.FlippedVerdicts.{compared_trap}
use Rattle.trap.proofs.misleading.misleads.Goals as goal

pub count_edges-requires : goal.count_edges-requires
count_edges-requires c =
    let board = c.requires.0.board in
    (set_inside _ board.inside board.open_bytes.count _ c.requires.1.count, unlit_bits _ board.inside.vertices_limited)

pub returns : goal.returns
returns c =
    let board = c.requires.0.board in
    c.is_wound.ensures
    ∙ compared_trap _ _ c.requires.0 _ c.requires.1
    (set_syndrome _ board.inside board.open_bytes.count _ c.requires.1.count c.count_edges.ensures c.clear_open.ensures)
    c.compare-verdict.ensures
