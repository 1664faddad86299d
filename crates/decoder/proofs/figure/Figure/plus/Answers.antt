-- `plus` meets its contract. Assumes nothing.
use Rattle.decoder.specs.Figures.{plus_figure}
use Rattle.decoder.proofs.figure.Figure.plus.Goals as goal

pub returns : goal.returns
unfolding plus_figure
returns c = rw (c.amount.ensures.0, c.amount-2.ensures.0)
