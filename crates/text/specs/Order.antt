-- Which line may stand where, by the counts and the open bytes so far. No part of what a reader must believe: inner contracts name it.
-- Assumes nothing.
use Rattle.std.specs.Prelude.{ℕ, Bool, false, not, ◌&&◌, List, leb, ltb}
use Rattle.model.specs.Sums.{ones}
use Rattle.model.specs.Board.{edge_limit}
use Rattle.model.specs.Text as text
use Rattle.model.specs.Text.{V_line, E_line, O_line, S_line, X_line, edge_may_follow, open_may_follow, syndrome_may_follow, loss_may_follow}
use Rattle.text.specs.declared.line.Line.{Line}
use Rattle.text.specs.declared.line.Line.TheVariants as line

-- the line of the definitions that a value of the reader's stands for
abbrev pub meant : Line → text.Line
meant (line.Vertices n) = V_line n
meant (line.Edge a b m) = E_line a.0 b.0 m
meant (line.Open v) = O_line v.0
meant (line.Syndrome v) = S_line v.0
meant (line.Lost e) = X_line e.0

-- an edge's fields on a board of n vertices that has m edges already
abbrev pub edge_fits : ℕ → ℕ → ℕ → ℕ → ℕ → Bool
edge_fits n m a b k = ltb m edge_limit && ltb a n && ltb b n && leb k 3

-- a syndrome vertex on a board of n vertices with these open bytes
abbrev pub lit_fits : ℕ → List ℕ → ℕ → Bool
lit_fits n opened v = ltb v n && not (ones opened v)

abbrev pub may_stand : ℕ → ℕ → List ℕ → text.Line → text.Line → Bool
may_stand n m opened last (V_line k) = false
may_stand n m opened last (E_line a b k) = edge_may_follow last && edge_fits n m a b k
may_stand n m opened last (O_line v) = open_may_follow last v && ltb v n
may_stand n m opened last (S_line v) = syndrome_may_follow last v && lit_fits n opened v
may_stand n m opened last (X_line e) = loss_may_follow last e && ltb e m
