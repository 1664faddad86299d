-- Document 02, K12: the outcome of the search for a trap, and what an examiner may rely on. Assumes nothing.
use Rattle.std.specs.Prelude.{ℕ, ◌+◌, ◌*◌, ◌≤◌, ◌≡◌, true, false, List, ◌↔◌, length, replicate, Ok, Err, Some, None}
use Rattle.std.proofs.Math.Option.{Option, none, some}
use Rattle.model.specs.declared.answers.Verdict.TheVariants.{Wound}
use Rattle.model.specs.Sums.{Set, ones, bytes}
use Rattle.model.specs.Board.{Board, edges}
use Rattle.model.specs.Winding.{winds, crossings, together, size}
use Rattle.model.specs.Decoding.{growths, corrected}
use Rattle.model.specs.Demand3.{lost_edges, kept_edges}
use Rattle.model.specs.Distance.{fewest}
use Rattle.model.specs.Traps.{flipped_sheet, traps, fewest_trap}
use Rattle.model.specs.Refusals.{trap_refusal}
use Rattle.model.specs.Outcomes.{answer, Decodes, verdict_answer}
use Rattle.model.specs.Answers.{Decoded, Trap, key_with}

-- the fewest edges of a trap, or nothing
abbrev pub trap_of : Option ℕ → Trap
trap_of none = Ok None
trap_of (some k) = Ok (Some k)

unfoldable pub trap_answer : Board → List ℕ → List ℕ → Trap
trap_answer B loss set = answer (trap_refusal B loss set) Err (trap_of (fewest_trap B loss))

-- The buffer holds a trap of k edges, a byte for each edge. Which one is free.
pub record ShowsTrap (B : Board) (loss : List ℕ) (k : ℕ) (l : List ℕ) : Type 0 where
  pub set : Set
  pub trap : traps B loss set ≡ true
  pub fewest : size B set ≡ k
  pub written : l ≡ bytes (edges B) set

-- what the buffer holds afterwards: such a set, all 0 where no set is a trap, and after a refusal its old contents
abbrev pub Sets : Board → List ℕ → List ℕ → Trap → List ℕ → Type 0
Sets B loss old (Ok (Some k)) l = ShowsTrap B loss k l
Sets B loss old (Ok None) l = l ≡ replicate (edges B) 0
Sets B loss old (Err n) l = l ≡ old

pub record SetsTrap (B : Board) (loss set : List ℕ) (r : Trap) (set' : List ℕ) : Type 0 where
  pub result : r ≡ trap_answer B loss set
  pub shown : Sets B loss set r set'

-- Decoding misleads about the set E, whose bytes are l: whatever decodes the sheet that is handed out after E, with buffers of the right
-- lengths, answers with a key, not with number 10, and the correction that it writes winds together with E. So the verdict on E is wound.
pub record Misled (B : Board) (loss l : List ℕ) : Type 0 where
  pub key :
      (support correction : List ℕ) (q : Decoded) (support' correction' : List ℕ)
      → length support ≡ edges B → length correction ≡ edges B
      → Decodes (flipped_sheet B loss (ones l)) support correction q support' correction'
      → (q ≡ key_with (growths (flipped_sheet B loss (ones l))) (size B (corrected (flipped_sheet B loss (ones l)))))
      × (winds B (together (ones l) (ones correction')) ≡ true)
  pub verdict :
      verdict_answer (flipped_sheet B loss (ones l)) l
      ≡ Wound (crossings B (together (ones l) (corrected (flipped_sheet B loss (ones l)))))

-- A trap E beside the distance, which there is: t + 2s of E is no smaller than it; and k, the fewest edges of a trap, is at most half of it,
-- rounded up.
pub record Weighed (B : Board) (lost E : Set) (k : ℕ) : Type 0 where
  pub distance : ℕ
  pub is_distance : fewest B ≡ some distance
  pub no_smaller : distance ≤ lost_edges B lost + 2 * kept_edges B lost E
  pub half : 2 * k ≤ distance + 1

-- What an examiner may rely on, of the answer r and the bytes that it wrote. A trap shown has as many edges as the answer says, it misleads,
-- no trap has fewer edges, and its t + 2s is no smaller than the distance. Where nothing that is lent is refused, there is nothing exactly
-- when no set is a trap, which is exactly when no loop winds.
pub record TrapsSoundly (B : Board) (loss set : List ℕ) (r : Trap) (set' : List ℕ) : Type 0 where
  pub edges_shown : (k : ℕ) → r ≡ Ok (Some k) → size B (ones set') ≡ k
  pub misleads : (k : ℕ) → r ≡ Ok (Some k) → Misled B loss set'
  pub smallest : (k : ℕ) → r ≡ Ok (Some k) → (E : Set) → traps B loss E ≡ true → k ≤ size B E
  pub weighed : (k : ℕ) → r ≡ Ok (Some k) → Weighed B (ones loss) (ones set') k
  pub none_exactly : trap_refusal B loss set ≡ none → (r ≡ Ok None) ↔ ((E : Set) → traps B loss E ≡ false)
  pub no_loop : trap_refusal B loss set ≡ none → (r ≡ Ok None) ↔ (fewest B ≡ none)
