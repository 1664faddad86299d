-- The number is the packed answer of the definition; what it is taken apart into is what `game` answered. Assumes nothing.
use Rattle.table.proofs.Exported.{game_exported}
use Rattle.table.proofs.surface_game.Goals as goal

pub returns : goal.returns
returns c = let all = game_exported c.as_number.ensures (c.game.ensures.answer, c.game.ensures.sound) in record { number = all.0; outcome = all.1.0; sound = all.1.1 }
