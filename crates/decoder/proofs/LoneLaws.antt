-- The figures of vertices alone, vertex after vertex. Assumes nothing.
use Prim.Native.Nat.{ℕ}
use mathlib.Core.Path.{◌≡◌, ◌∙◌}
use mathlib.Core.List.{List}
use native.Mathlib.Nat.{not-suc-le-zero}
use native.Mathlib.Omega.{arith}
use lib.ListN.{replicate, length-replicate, get_or-replicate}
use Rattle.model.specs.Board.{vertex_limit}
use Rattle.decoder.specs.Figures.{no_figure}
use Rattle.decoder.specs.LoneFigures.{LoneFigures}

pub lone_none : (opened syndrome x : List ℕ) (n : ℕ) → n ≡ vertex_limit → LoneFigures 0 opened syndrome x (replicate n no_figure)
lone_none opened syndrome x n p =
    record {
      long = length-replicate n no_figure ∙ p;
      each = λ v h. absurd (not-suc-le-zero h);
      others = λ v h l. get_or-replicate n v no_figure 0 (omega arith);
    }
