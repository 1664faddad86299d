-- Document 02, K3: what may be relied on of a loop edge, whose two ends are one vertex. It adds nothing to any syndrome and is closed by
-- itself, is full or untouched at every step of the growth and of the rounds, and is in no forest and so in no correction; in t and s
-- every edge counts, loop edges too; and where one is marked, the distance is 1.
-- Assumes nothing.
use Prim.Native.Nat.{ℕ, zero, suc, ◌+◌, ◌*◌, ◌/◌, ◌%◌, ◌≤◌, ◌<◌, min}
use mathlib.Core.Path.{◌≡◌, refl, sym, ap, ap₂, ◌∙◌}
use mathlib.Core.Logic.{◌≢◌, ◌⊎◌, inl, inr}
use mathlib.Core.Bool.{Bool, true, false, cond, not, ◌&&◌, and-false, and-true, and_comm, false≢true}
use mathlib.Core.List.{List}
use mathlib.Core.Option.{some}
use native.Mathlib.Omega.{arith}
use borrow.Author.Tests.{eq-eqb, ne_eqb}
use lib.ListN.{get_or}
use lib.Dec.{eqb}
use Rattle.std.proofs.lemmas.Bool.{false_from_ne_true, and_from}
use Rattle.model.specs.Sums.{Set, ◌⊕◌, bit}
use Rattle.model.specs.Board.{Board, Sheet, Valid, LoopEdge, edges, first_end, second_end, mark, is_open}
use Rattle.model.specs.Syndrome.{meets, odd_end, syndrome}
use Rattle.model.specs.Winding.{closed, crossings, winds, together, size}
use Rattle.model.specs.Components.{label}
use Rattle.model.specs.Growth.{swell, Policy}
use Rattle.model.specs.Forest.{taken_up_to, forest}
use Rattle.model.specs.Correction.{without, spanned, correction}
use Rattle.model.specs.Decoding.{grown_by, peeled}
use Rattle.model.specs.Demand3.{lost_edges, kept_edges}
use Rattle.model.specs.Distance.{fewest}
use Rattle.model.proofs.Bits.{byte_bit}
use Rattle.model.proofs.Xor.{xor_self, xor_false}
use Rattle.model.proofs.SumLaws.{odd_cong, odd_at, odd_none}
use Rattle.model.proofs.CountLaws.{count_before, count_more}
use Rattle.theory.proofs.Totals.{count_at}
use Rattle.theory.proofs.Syndromes.{syndrome_together, odd_end_edge, even_closed}
use Rattle.theory.proofs.CrossedLines.{Line, line_a, line_b, crosses, crosses_oddly, closed_true, unmarked_unwound}
use Rattle.theory.proofs.GrowthRun.{Reached, reached_holds}
use Rattle.theory.proofs.Supports.{start_at, swell_at}
use Rattle.theory.proofs.Decodings.{key_reached}
use Rattle.theory.proofs.Distances.{least_fewest}

-- edge e and no other
abbrev pub only : ℕ → Set
only e i = eqb e i

-- Any edge

module _ (B : Board) (e : ℕ) (h : e < edges B) where
  -- alone, an edge crosses the lines that its mark names
  only_crosses : (x : Line) → crosses_oddly B x (only e) ≡ crosses B x e
  unfolding crosses_oddly
  only_crosses x =
      odd_cong (edges B) (λ i. eqb e i && crosses B x i) (λ i. crosses B x i && eqb e i) (λ i l. and_comm (eqb e i) (crosses B x i))
      ∙ odd_at (edges B) e (crosses B x) h

  only_crossings : mark B e ≤ 3 → crossings B (only e) ≡ mark B e
  unfolding crossings crosses_oddly
  only_crossings small =
      ap₂ (λ a b. bit a + 2 * bit b) (only_crosses line_a) (only_crosses line_b)
      ∙ omega (arith, byte_bit (mark B e % 2) (omega arith), byte_bit (mark B e / 2 % 2) (omega arith))

  only_size : size B (only e) ≡ 1
  only_size = omega (arith, count_at (edges B) e, count_before e (edges B) (only e) h (eq-eqb e e refl))

  -- e is not in the set without it, every other edge is where it was
  left_out : (D : Set) → without D e e ≡ false
  left_out D = rw (eq-eqb e e refl) (and-false (D e))

  kept_in : (D : Set) (i : ℕ) → i ≢ e → D i ≡ without D e i
  kept_in D i apart = rw (ne_eqb i e apart) (sym (and-true (D i)))

  -- It counts in t where it is lost, and in s where it is in E and not lost, a loop edge like any other.
  pub lost_counts : (lost : Set) → lost e ≡ true → lost_edges B lost ≡ suc (lost_edges B (without lost e))
  lost_counts lost p = count_more (edges B) e (without lost e) lost h (left_out lost) p (kept_in lost)

  pub kept_counts : (lost E : Set) → E e ≡ true → lost e ≡ false → kept_edges B lost E ≡ suc (kept_edges B lost (without E e))
  kept_counts lost E p q =
      count_more (edges B) e (λ i. without E e i && not (lost i)) (λ i. E i && not (lost i)) h
      (ap (λ t. t && not (lost e)) (left_out E)) (and_from (E e) (not (lost e)) p (ap not q))
      (λ i apart. ap (λ t. t && not (lost i)) (kept_in E i apart))

-- a set that winds has some edge
winding_some : (B : Board) (D : Set) → winds B D ≡ true → 1 ≤ size B D
unfolding crosses_oddly
winding_some B D w = go (size B D) refl
  where
    empty : size B D ≡ 0 → (i : ℕ) → i < edges B → D i ≡ false
    empty z i h = false_from_ne_true (D i) (λ p. absurd (omega (arith, count_before i (edges B) D h p)))

    even : size B D ≡ 0 → (x : Line) → crosses_oddly B x D ≡ false
    even z x = odd_none (edges B) (λ i. D i && crosses B x i) (λ i h. rw (empty z i h))

    go : (k : ℕ) → size B D ≡ k → 1 ≤ k
    go zero z = absurd (false≢true (sym (unmarked_unwound B D (even z)) ∙ w))
    go (suc k) z = omega arith

-- no half-edge, or both
abbrev pub Whole : ℕ → Type 0
Whole x = (x ≡ 0) ⊎ (x ≡ 2)

-- A loop edge

module _ (B : Board) (e : ℕ) (h : e < edges B) (same : LoopEdge B e) where
  loop_meets : (v : ℕ) → meets B e v ≡ false
  loop_meets v = ap (λ u. eqb u v ⊕ eqb (second_end B e) v) same ∙ xor_self (eqb (second_end B e) v)

  loop_even : (v : ℕ) → odd_end B (only e) v ≡ false
  loop_even v = odd_end_edge B true e h v ∙ loop_meets v

  -- Theorem: it adds nothing to any syndrome.
  pub loop_unlit : (D : Set) (v : ℕ) → syndrome B (together D (only e)) v ≡ syndrome B D v
  unfolding syndrome
  loop_unlit D v =
      syndrome_together B D (only e) v
      ∙ ap (λ t. syndrome B D v ⊕ (not (is_open B v) && t)) (loop_even v)
      ∙ ap (λ t. syndrome B D v ⊕ t) (and-false (not (is_open B v)))
      ∙ xor_false (syndrome B D v)

  -- Theorem: it is closed by itself.
  pub loop_closed : closed B (only e) ≡ true
  loop_closed = closed_true B (only e) (even_closed B (only e) (record { at = λ v l. loop_even v }))

  -- Theorem: it winds exactly where its mark is not 0.
  pub loop_winds : Valid B → winds B (only e) ≡ not (eqb (mark B e) 0)
  unfolding winds
  loop_winds w = rw (loop_closed, only_crossings B e h (w.mark_in_range e h))

  -- Theorem: where its vertex grows it gains two half-edges, so that it is full; where its vertex does not grow it gains none.
  pub loop_gains : (s : List ℕ) (R : Set) → R (first_end B e) ≡ true → get_or (swell B s R) e 0 ≡ 2
  loop_gains s R in-it = swell_at B s R e h ∙ rw (← same, in-it) (omega arith)

  pub loop_stays : (s : List ℕ) (R : Set) → R (first_end B e) ≡ false → get_or (swell B s R) e 0 ≡ min 2 (get_or s e 0)
  loop_stays s R out = swell_at B s R e h ∙ rw (← same, out) (omega arith)

  -- Theorem: at every step of the growth, and of the rounds, it has no half-edge or both; so too in the end.
  pub loop_whole : (p : Policy) (lost : Set) {s : List ℕ} {g : ℕ} → Reached B p lost s g → Whole (get_or s e 0)
  loop_whole p lost =
      reached_holds B p lost (λ s g. Whole (get_or s e 0)) (rw (start_at B lost e h) (first (lost e)))
      (λ s g R q w. next s R (R (first_end B e)) refl w)
    where
      first : (t : Bool) → Whole (cond t 2 0)
      first true = inr refl
      first false = inl refl

      next : (s : List ℕ) (R : Set) (t : Bool) → R (first_end B e) ≡ t → Whole (get_or s e 0) → Whole (get_or (swell B s R) e 0)
      next s R true q w = inr (loop_gains s R q)
      next s R false q (inl z) = inl (omega (arith, loop_stays s R q))
      next s R false q (inr z) = inr (omega (arith, loop_stays s R q))

  -- Theorem: it is in no forest, and so in no correction.
  pub loop_untaken : (F : Set) → forest B F e ≡ false
  unfolding forest
  loop_untaken F = rw (same, eq-eqb (label (taken_up_to B F e) (second_end B e)) (label (taken_up_to B F e) (second_end B e)) refl) (and-false (F e))

  pub loop_uncorrected : (F S : Set) → correction B F S e ≡ false
  unfolding correction spanned
  loop_uncorrected F S = rw (loop_untaken F)

  -- Theorem: where it is marked, the distance is 1.
  pub loop_distance : Valid B → mark B e ≢ 0 → fewest B ≡ some 1
  loop_distance w marked =
      least_fewest B 1
      (record {
        reached =
            record { set = only e; holds = loop_winds w ∙ ap not (ne_eqb (mark B e) 0 marked); count = only_size B e h };
        least = winding_some B;
      })

-- So it is in a key, whose correction and supports decoding writes, by weighted growth or in rounds.
module _ (policy : Board → Set → Policy) (X : Sheet) (e : ℕ) (h : e < edges X.board) (same : LoopEdge X.board e) where
  pub key_loop_whole : Whole (get_or (grown_by policy X).support e 0)
  key_loop_whole = loop_whole X.board e h same _ _ (key_reached policy X)

  pub key_loop_uncorrected : peeled X (grown_by policy X) e ≡ false
  unfolding peeled
  key_loop_uncorrected = loop_uncorrected X.board e h same _ _
