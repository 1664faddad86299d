-- What is lent for a key once the tests have passed, and what the key leaves. Internal: no part of what a reader of a product call must
-- believe. Assumes nothing.
use Rattle.std.specs.Prelude.{ℕ, ◌≡◌, List, length, Result, Ok, Err}
use Rattle.model.specs.declared.refusal.Refusal.{Refusal}
use Rattle.model.specs.Sums.{Set, ones, bytes}
use Rattle.model.specs.Board.{Board, Sheet, edges, EndsWithin, ValidBytes, Unlit, unmarked}
use Rattle.model.specs.Winding.{size}
use Rattle.model.specs.Growth.{Policy}
use Rattle.model.specs.Decoding.{grown_by, peeled}
use Rattle.model.specs.Refusals.{odd_part_test, decode_refusal}
use Rattle.model.specs.Outcomes.{answer}
use Rattle.decoder.specs.declared.key.Solved.{Solved}

-- the ends lie within the board, each vertex has an open byte and a syndrome byte, no open vertex is lit, and both buffers have a byte for
-- each edge
pub record Keyable (n : ℕ) (ends opened syndrome loss support correction : List ℕ) : Type 0 where
  pub lent : EndsWithin n (length loss) ends
  pub open_bytes : length opened ≡ n
  pub lit : ValidBytes n syndrome
  pub unlit : Unlit (unmarked n (length loss) ends opened) (ones syndrome)
  pub support_long : length support ≡ length loss
  pub correction_long : length correction ≡ length loss

-- both counts, or a refusal
abbrev pub Solving : Type 0
Solving = Result Solved Refusal

abbrev pub solved_with : ℕ → ℕ → Solving
solved_with count edges = Ok (record { count = count; edges = edges })

-- the answer by a policy once the tests are passed: number 10, or the key
unfoldable pub solved_or_none : (Board → Set → Policy) → Sheet → Solving
solved_or_none policy X = answer (odd_part_test X) Err (solved_with (grown_by policy X).count (size X.board (peeled X (grown_by policy X))))

-- what a buffer holds afterwards: with a key its new contents, with a refusal its old ones
abbrev pub solved_or : {A : Type 0} → Solving → A → A → A
solved_or (Ok k) new old = new
solved_or (Err n) new old = old

-- the key, or number 10 with nothing written
pub record Keys (policy : Board → Set → Policy) (X : Sheet) (support correction : List ℕ) (r : Solving) (support' correction' : List ℕ) : Type 0 where
  pub result : r ≡ solved_or_none policy X
  pub support_bytes : support' ≡ solved_or r (grown_by policy X).support support
  pub correction_bytes : correction' ≡ solved_or r (bytes (edges X.board) (peeled X (grown_by policy X))) correction

-- the same, after the tests
pub record Solves (policy : Board → Set → Policy) (X : Sheet) (support correction : List ℕ) (r : Solving) (support' correction' : List ℕ) : Type 0 where
  pub result : r ≡ answer (decode_refusal X support correction) Err (solved_or_none policy X)
  pub support_bytes : support' ≡ solved_or r (grown_by policy X).support support
  pub correction_bytes : correction' ≡ solved_or r (bytes (edges X.board) (peeled X (grown_by policy X))) correction
