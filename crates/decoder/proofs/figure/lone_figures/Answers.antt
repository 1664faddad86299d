use mathlib.Core.Path.{refl}
use Rattle.model.specs.Board.{vertex_limit}
use Rattle.decoder.proofs.LoneLaws.{lone_none}
use Rattle.decoder.proofs.figure.lone_figures.Goals as goal

pub loop-v-init : goal.loop-v-init
loop-v-init c = lone_none _ _ _ vertex_limit refl
