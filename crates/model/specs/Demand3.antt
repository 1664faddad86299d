-- Document 01, "Peeling": demand 3, as one statement over a decoding's result r and the correction C that it wrote, on a board with the
-- syndrome S.
-- Assumes nothing.
use Rattle.std.specs.Prelude.{ℕ, ◌+◌, ◌*◌, ◌≤◌, ◌<◌, ◌≡◌, true, false, not, ◌&&◌, ◌↔◌, Err}
use Rattle.model.specs.declared.numbers.Vertex.{Vertex}
use Rattle.model.specs.declared.refusal.Refusal.{Refusal}
use Rattle.model.specs.declared.refusal.Refusal.TheVariants.{NoCorrection}
use Rattle.model.specs.Sums.{Set}
use Rattle.model.specs.Board.{Board}
use Rattle.model.specs.Syndrome.{HasSyndrome}
use Rattle.model.specs.Winding.{winds, together, size}
use Rattle.model.specs.Answers.{Decoded, key_with}

-- t: how many edges are lost in all
abbrev pub lost_edges : Board → Set → ℕ
lost_edges B lost = size B lost

-- s: how many edges of E are not lost
abbrev pub kept_edges : Board → Set → Set → ℕ
kept_edges B lost E = size B (λ e. E e && not (lost e))

-- every winding loop has more than k edges
pub record EveryLoopAbove (B : Board) (k : ℕ) : Type 0 where
  pub above : (D : Set) → winds B D ≡ true → k < size B D

-- what holds of every set E that has the syndrome: growths ≤ 2s, and where every winding loop has more than t + 2s edges,
-- E and the correction together do not wind
pub record Bounded (B : Board) (lost C : Set) (growths : ℕ) (E : Set) : Type 0 where
  pub few_growths : growths ≤ 2 * kept_edges B lost E
  pub unwound : EveryLoopAbove B (lost_edges B lost + 2 * kept_edges B lost E) → winds B (together E C) ≡ false

-- the answer is number 10, "no correction"; an answer holds its refusal in the case `refused`
pub record AnswersNone {A : Type 0} (refused : Refusal → A) (r : A) : Type 0 where
  pub vertex : Vertex
  pub answer : r ≡ refused (NoCorrection vertex)

-- no set of edges has the syndrome
abbrev pub Unmet : Board → Set → Type 0
Unmet B S = (E : Set) → HasSyndrome B E S → ⊥

-- What a decoding's answer r and its correction C owe to the syndrome S, whatever grew: "no correction" exactly when no set of edges has the
-- syndrome; else the correction has it, and `Each` holds of the count in the key and of every set with it. An answer is made by `refused` or `key`.
pub record SoundKey {A : Type 0} (refused : Refusal → A) (key : ℕ → ℕ → A) (B : Board) (S C : Set) (Each : ℕ → Set → Type 0) (r : A) : Type 0 where
  pub none_exactly : AnswersNone refused r ↔ Unmet B S
  pub met : (count edges : ℕ) → r ≡ key count edges → HasSyndrome B C S
  pub bounded : (count edges : ℕ) → r ≡ key count edges → (E : Set) → HasSyndrome B E S → Each count E

-- Demand 3: so it is, and the bounds hold of the growths and every set with the syndrome.
abbrev pub Demand3 : Board → Set → Set → Decoded → Set → Type 0
Demand3 B S lost r C = SoundKey Err key_with B S C (Bounded B lost C) r
