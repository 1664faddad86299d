-- Document 01, "How far contracts go", 1: the outcome of decoding, verdict, distance, torus and planar board, that is, what the call
-- answers and what every lent buffer holds when it is over, also where it refuses. That of rounds is in `RoundsOutcomes`, of faces in
-- `FacesOutcomes`, of stacks in `StackOutcomes`, of packed sheets in `WordOutcomes`, of the game in `GameOutcomes`, of traps in
-- `TrapOutcomes`, and of reading and writing in `TextOutcomes`.
-- Assumes nothing.
use Rattle.std.specs.Prelude.{ℕ, ◌*◌, ◌≡◌, true, List, replicate, Ok, Err, Some, None}
use Rattle.std.proofs.Math.Option.{Option, none, some}
use Rattle.model.specs.declared.refusal.Refusal.{Refusal}
use Rattle.model.specs.declared.answers.Verdict.{Verdict}
use Rattle.model.specs.declared.answers.Verdict.TheVariants as verdict
use Rattle.model.specs.Sums.{Set, ones, bytes}
use Rattle.model.specs.Board.{Board, Sheet, edges}
use Rattle.model.specs.Winding.{winds, size}
use Rattle.model.specs.Decoding.{growths, supports, corrected}
use Rattle.model.specs.Demand3.{Demand3}
use Rattle.model.specs.Verdict.{judged, SoundVerdict}
use Rattle.model.specs.Distance.{fewest}
use Rattle.model.specs.Torus.{torus_ends, torus_marks}
use Rattle.model.specs.Planar.{planar_vertices, planar_ends, planar_marks, planar_opens}
use Rattle.model.specs.Refusals.{Test, odd_part_test, decode_refusal, verdict_refusal, distance_refusal, torus_refusal, planar_refusal}
use Rattle.model.specs.Answers.{Built, Decoded, Distance, key_with}

-- a call's answer: the refusal of the first test that fails, or else what follows
abbrev pub answer : {A : Type 0} → Test → (Refusal → A) → A → A
answer none refused else = else
answer (some n) refused else = refused n

-- Decoding's answer once its tests are passed: number 10 with the smallest vertex of all odd parts, or the key.
unfoldable pub key_or_none : Sheet → Decoded
key_or_none X = answer (odd_part_test X) Err (key_with (growths X) (size X.board (corrected X)))

unfoldable pub decode_answer : Sheet → List ℕ → List ℕ → Decoded
decode_answer X support correction = answer (decode_refusal X support correction) Err (key_or_none X)

-- what a buffer holds afterwards: with a key its new contents; with a refusal, which writes to no buffer, its old ones
abbrev pub key_or : {A : Type 0} → Decoded → A → A → A
key_or (Ok k) new old = new
key_or (Err n) new old = old

-- What decoding returns and leaves in its two buffers. Nothing of it is free.
pub record Decodes (X : Sheet) (support correction : List ℕ) (r : Decoded) (support' correction' : List ℕ) : Type 0 where
  pub result : r ≡ decode_answer X support correction
  pub support_bytes : support' ≡ key_or r (supports X) support
  pub correction_bytes : correction' ≡ key_or r (bytes (edges X.board) (corrected X)) correction

-- Demand 3, of decoding's own result and of the correction that it wrote, wherever nothing that is lent is refused.
pub record DecodesSoundly (X : Sheet) (support correction : List ℕ) (r : Decoded) (correction' : List ℕ) : Type 0 where
  pub demand3 :
      decode_refusal X support correction ≡ none →
      Demand3 X.board (ones X.syndrome) (ones X.loss) r (ones correction')

-- The verdict's answer once its tests are passed: number 10 as decoding gives it, or the comparison with the correction.
unfoldable pub judged_or_none : Sheet → List ℕ → Verdict
judged_or_none X handed =
    answer (odd_part_test X) verdict.Refused (judged X.board (ones X.syndrome) (corrected X) (ones handed))

-- The verdict's answer. Refusals come first: a broken rule, then number 10; only where there is neither are the sets compared.
unfoldable pub verdict_answer : Sheet → List ℕ → Verdict
verdict_answer X handed = answer (verdict_refusal X handed) verdict.Refused (judged_or_none X handed)

-- What the verdict returns; it fills no buffer.
pub record Judges (X : Sheet) (handed : List ℕ) (r : Verdict) : Type 0 where
  pub result : r ≡ verdict_answer X handed

-- What a marker may rely on, wherever nothing that is lent is refused.
pub record JudgesSoundly (X : Sheet) (handed : List ℕ) (r : Verdict) : Type 0 where
  pub sound :
      verdict_refusal X handed ≡ none →
      SoundVerdict X.board (ones X.syndrome) (ones X.loss) (corrected X) (ones handed) r

-- The distance, or none.
abbrev pub distance_of : Option ℕ → Distance
distance_of none = Ok None
distance_of (some d) = Ok (Some d)

unfoldable pub distance_answer : Board → List ℕ → Distance
distance_answer B shown = answer (distance_refusal B shown) Err (distance_of (fewest B))

-- The buffer holds a winding set of d edges, a byte for each edge. Which one is free.
pub record ShowsLoop (B : Board) (d : ℕ) (l : List ℕ) : Type 0 where
  pub set : Set
  pub winding : winds B set ≡ true
  pub fewest : size B set ≡ d
  pub written : l ≡ bytes (edges B) set

-- what the buffer holds afterwards: such a set, all 0 where no set winds, and after a refusal its old contents
abbrev pub Shows : Board → List ℕ → Distance → List ℕ → Type 0
Shows B old (Ok (Some d)) l = ShowsLoop B d l
Shows B old (Ok None) l = l ≡ replicate (edges B) 0
Shows B old (Err n) l = l ≡ old

pub record Measures (B : Board) (shown : List ℕ) (r : Distance) (shown' : List ℕ) : Type 0 where
  pub result : r ≡ distance_answer B shown
  pub loop : Shows B shown r shown'

-- The torus builder answers with the number of vertices, L². Its buffers end as 4L² ends and 2L² marks, or as they were where it refuses.
unfoldable pub torus_answer : ℕ → List ℕ → List ℕ → Built
torus_answer L ends marks = answer (torus_refusal L ends marks) Err (Ok (L * L))

abbrev pub built_or : {A : Type 0} → Built → A → A → A
built_or (Ok n) new old = new
built_or (Err n) new old = old

pub record Builds (L : ℕ) (ends marks : List ℕ) (r : Built) (ends' marks' : List ℕ) : Type 0 where
  pub result : r ≡ torus_answer L ends marks
  pub ends_filled : ends' ≡ built_or r (torus_ends L) ends
  pub marks_filled : marks' ≡ built_or r (torus_marks L) marks

-- The planar builder answers with the number of vertices, L(L + 1). Its buffers end as all ends, marks and open bytes, or as they were
-- where it refuses.
unfoldable pub planar_answer : ℕ → List ℕ → List ℕ → List ℕ → Built
planar_answer L ends marks opened = answer (planar_refusal L ends marks opened) Err (Ok (planar_vertices L))

pub record BuildsPlanar (L : ℕ) (ends marks opened : List ℕ) (r : Built) (ends' marks' opened' : List ℕ) : Type 0 where
  pub result : r ≡ planar_answer L ends marks opened
  pub ends_filled : ends' ≡ built_or r (planar_ends L) ends
  pub marks_filled : marks' ≡ built_or r (planar_marks L) marks
  pub open_filled : opened' ≡ built_or r (planar_opens L) opened
