-- Document 02, K8: the outcome of decoding in rounds, which is lent, tested and refused as decoding is, and what may be relied on. The rule on
-- t + 2s is demand 3's alone: no more than 2s rounds are promised here, and nothing about winding.
-- Assumes nothing.
use Rattle.std.specs.Prelude.{ℕ, ◌*◌, ◌≤◌, ◌<◌, ◌≡◌, true, List, Err, Ok}
use Rattle.std.proofs.Math.Option.{none}
use Rattle.model.specs.Sums.{Set, ones, bytes}
use Rattle.model.specs.Board.{Board, Sheet, edges}
use Rattle.model.specs.Winding.{size}
use Rattle.model.specs.Growth.{full}
use Rattle.model.specs.Decoding.{rounds, round_supports, round_corrected}
use Rattle.model.specs.Demand3.{kept_edges, SoundKey}
use Rattle.model.specs.Refusals.{odd_part_test, decode_refusal}
use Rattle.model.specs.Outcomes.{answer}
use Rattle.model.specs.Answers.{RoundsDecoded, rounds_with}

-- The answer once the tests are passed: number 10 as decoding gives it, or the key by rounds.
unfoldable pub rounds_or_none : Sheet → RoundsDecoded
rounds_or_none X = answer (odd_part_test X) Err (rounds_with (rounds X) (size X.board (round_corrected X)))

unfoldable pub rounds_answer : Sheet → List ℕ → List ℕ → RoundsDecoded
rounds_answer X support correction = answer (decode_refusal X support correction) Err (rounds_or_none X)

-- what a buffer holds afterwards: with a key its new contents, with a refusal its old ones
abbrev pub rounds_or : {A : Type 0} → RoundsDecoded → A → A → A
rounds_or (Ok k) new old = new
rounds_or (Err n) new old = old

-- What decoding in rounds returns and leaves in its two buffers. Nothing of it is free.
pub record DecodesInRounds (X : Sheet) (support correction : List ℕ) (r : RoundsDecoded) (support' correction' : List ℕ) : Type 0 where
  pub result : r ≡ rounds_answer X support correction
  pub support_bytes : support' ≡ rounds_or r (round_supports X) support
  pub correction_bytes : correction' ≡ rounds_or r (bytes (edges X.board) (round_corrected X)) correction

-- What may be relied on of an answer r, its full edges F and its correction C: "no correction" means what it means elsewhere, otherwise the
-- syndrome is met inside the full edges, and for every set with the syndrome there are at most 2s rounds.
pub record SoundRounds (B : Board) (S lost : Set) (r : RoundsDecoded) (F C : Set) : Type 0 where
  pub key : SoundKey Err rounds_with B S C (λ rounds E. rounds ≤ 2 * kept_edges B lost E) r
  pub inside : (rounds k : ℕ) → r ≡ rounds_with rounds k → (e : ℕ) → e < edges B → C e ≡ true → F e ≡ true

-- This, of the call's own result and of the bytes that it wrote, wherever nothing that is lent is refused.
pub record RoundsSoundly (X : Sheet) (support correction : List ℕ) (r : RoundsDecoded) (support' correction' : List ℕ) : Type 0 where
  pub sound :
      decode_refusal X support correction ≡ none →
      SoundRounds X.board (ones X.syndrome) (ones X.loss) r (full support') (ones correction')
