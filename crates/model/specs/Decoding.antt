-- Document 01, "Peeling", and document 02, K2, K5 and K8: what decoding returns and writes, and when there is no correction.
-- Assumes nothing.
use Rattle.std.specs.Prelude.{ℕ, Bool, true, List}
use Rattle.std.proofs.Math.Option.{Option}
use Rattle.model.specs.Sums.{Set, first_up_to, ones}
use Rattle.model.specs.Board.{Board, Sheet}
use Rattle.model.specs.Components.{labels}
use Rattle.model.specs.Growth.{in_odd, full, Policy, weighted, Grown, grown}
use Rattle.model.specs.Rounds.{all_odd}
use Rattle.model.specs.Correction.{correction}

-- the connected parts of the whole board
unfoldable pub parts : Board → List ℕ
parts B = labels B (λ e. true)

-- v lies in an odd part: the connected component of v in the whole board has an odd number of vertices in S, and no open vertex (K5)
unfoldable pub in_odd_part : Board → Set → ℕ → Bool
in_odd_part B S v = in_odd B (parts B) S v

-- The smallest vertex of all odd parts. Where there is one, there is no correction, and this vertex is shown.
unfoldable pub smallest_odd : Board → Set → Option ℕ
smallest_odd B S = first_up_to B.vertices (in_odd_part B S)

-- Where no part is odd, the key. First growth by a policy for the board and its syndrome.
unfoldable pub grown_by : (Board → Set → Policy) → Sheet → Grown
grown_by policy X = grown X.board (policy X.board (ones X.syndrome)) (ones X.loss)

-- then the correction, peeled from what is full
unfoldable pub peeled : Sheet → Grown → Set
peeled X w = correction X.board (full w.support) (ones X.syndrome)

-- By weighted growth: the growth count, a support byte for each edge, and the correction.
abbrev pub growths : Sheet → ℕ
growths X = (grown_by weighted X).count

abbrev pub supports : Sheet → List ℕ
supports X = (grown_by weighted X).support

abbrev pub corrected : Sheet → Set
corrected X = peeled X (grown_by weighted X)

-- By rounds: their count, and likewise.
abbrev pub rounds : Sheet → ℕ
rounds X = (grown_by all_odd X).count

abbrev pub round_supports : Sheet → List ℕ
round_supports X = (grown_by all_odd X).support

abbrev pub round_corrected : Sheet → Set
round_corrected X = peeled X (grown_by all_odd X)
