-- The L edges along row 0 of the planar board wind: their odd ends are the vertices 0 and L, which are open, and the first of them crosses
-- line A. Assumes nothing.
use Prim.Native.Nat.{ℕ, zero, suc, ◌+◌, ◌*◌, ◌≤◌, ◌<◌}
use mathlib.Core.Path.{◌≡◌, refl, sym, ap, ap₂, ◌∙◌}
use mathlib.Core.Bool.{Bool, true, false, ◌&&◌, or-true, true≢false}
use native.Mathlib.Nat.{le_refl, mul-le-mul, mod-eq_of_lt}
use native.Mathlib.Decide.{dec_lt}
use native.Mathlib.Numerals.{add-one}
use native.Mathlib.Omega.{arith}
use borrow.Author.Tests.{lt-ltb, le-ltb, eq-eqb, ne_eqb}
use lib.Dec.{eqb, ltb}
use Rattle.model.specs.Sums.{Set, ◌⊕◌, odd_up_to}
use Rattle.model.specs.Board.{edges, first_end, second_end, is_open}
use Rattle.model.specs.Syndrome.{meets, odd_end, syndrome}
use Rattle.model.specs.Winding.{crosses_a}
use Rattle.model.specs.Planar.{planar_at, planar}
use Rattle.model.proofs.Xor.{xor_false, xor_self}
use Rattle.model.proofs.SumLaws.{odd_cong}
use Rattle.model.proofs.CountLaws.{count_front}
use Rattle.theory.proofs.OddMembers.{odd_one}
use Rattle.theory.proofs.Totals.{xor_through}
use Rattle.theory.proofs.Syndromes.{shut_syndrome, open_syndrome}
use Rattle.theory.proofs.CrossedLines.{line_a, Closed, crosses_oddly, marked_winds}
use Rattle.theory.proofs.Distances.{LoopOf}
use Rattle.planar.proofs.PlanarRows.{edge_count, crosses_A, open_at, along_from, along_to}

-- parity of what is asked of the first k numbers only
odd_front : (n k : ℕ) (f : Set) → k ≤ n → odd_up_to n (λ i. ltb i k && f i) ≡ odd_up_to k f
unfolding odd_up_to
odd_front zero k f h = let z : k ≡ 0 = omega arith in rw z
odd_front (suc n) k f h =
    elim (dec_lt n k) [
      | yes l ↦
          let all : k ≡ suc n = omega arith in
          rw all (odd_cong (suc n) (λ i. ltb i (suc n) && f i) f (λ i m. rw (lt-ltb i (suc n) m)))
      | no l ↦ rw (le-ltb n k (omega arith)) (xor_false _ ∙ odd_front n k f (omega arith))
    ]

-- what is joined end to end has two odd ends
end_to_end : (k v : ℕ) → odd_up_to k (λ e. eqb e v ⊕ eqb (e + 1) v) ≡ eqb 0 v ⊕ eqb k v
unfolding odd_up_to
end_to_end zero v = sym (xor_self (eqb 0 v))
end_to_end (suc k) v =
    rw (end_to_end k v) (xor_through (eqb 0 v) (eqb k v) (eqb (k + 1) v) ∙ ap (λ n. eqb 0 v ⊕ eqb n v) (add-one k))

-- the edges along row 0
abbrev row_zero : ℕ → Set
row_zero L e = ltb e L

module _ (L : ℕ) (some : 1 ≤ L) where
  enough : L ≤ edges (planar L)
  enough = omega (arith, edge_count L, mul-le-mul some (le_refl L))

  from_vertex : (c : ℕ) → c < L → first_end (planar L) c ≡ c
  from_vertex c h =
      let here : 0 * L + c ≡ c = omega arith in (rw here at (along_from L 0 c some h)) ∙ omega arith

  to_next : (c : ℕ) → c < L → second_end (planar L) c ≡ c + 1
  to_next c h =
      let here : 0 * L + c ≡ c = omega arith in (rw here at (along_to L 0 c some h)) ∙ omega arith

  row_ends : (v : ℕ) → odd_end (planar L) (row_zero L) v ≡ eqb 0 v ⊕ eqb L v
  unfolding odd_end
  row_ends v =
      odd_front (edges (planar L)) L (λ e. meets (planar L) e v) enough
      ∙ odd_cong L (λ e. meets (planar L) e v) (λ e. eqb e v ⊕ eqb (e + 1) v)
      (λ e h. ap₂ (λ a b. eqb a v ⊕ eqb b v) (from_vertex e h) (to_next e h))
      ∙ end_to_end L v

  first_open : is_open (planar L) 0 ≡ true
  first_open =
      let here : planar_at L 0 0 ≡ 0 = omega arith in rw here at (open_at L 0 0 some (omega arith))

  last_open : is_open (planar L) L ≡ true
  last_open =
      let here : planar_at L 0 L ≡ L = omega arith in
      (rw here at (open_at L 0 L some (le_refl L))) ∙ rw (eq-eqb L L refl, or-true)

  row_closed : Closed (planar L) (row_zero L)
  row_closed = record { at = λ v h. go v (is_open (planar L) v) refl }
    where
      go : (v : ℕ) (t : Bool) → is_open (planar L) v ≡ t → syndrome (planar L) (row_zero L) v ≡ false
      go v true p = open_syndrome (planar L) (row_zero L) v p
      go v false p =
          shut_syndrome (planar L) (row_zero L) v p
          ∙ row_ends v
          ∙ ap₂ ◌⊕◌
          (ne_eqb 0 v (λ q. true≢false (sym first_open ∙ ap (is_open (planar L)) q ∙ p)))
          (ne_eqb L v (λ q. true≢false (sym last_open ∙ ap (is_open (planar L)) q ∙ p)))

  row_crosses : crosses_oddly (planar L) line_a (row_zero L) ≡ true
  unfolding crosses_oddly
  row_crosses =
      odd_front (edges (planar L)) L (crosses_a (planar L)) enough
      ∙ odd_one L 0 (crosses_a (planar L)) some (λ e h apart. crossing e h ∙ ne_eqb e 0 (λ q. apart (sym q)))
      ∙ crossing 0 some
    where
      crossing : (e : ℕ) → e < L → crosses_a (planar L) e ≡ eqb e 0
      crossing e h =
          let along : e < L * L = omega (arith, mul-le-mul some (le_refl L)) in
          crosses_A L e (omega arith) ∙ rw (lt-ltb e (L * L) along, mod-eq_of_lt h)

  -- a winding loop of L edges
  pub row_loop : LoopOf (planar L) L
  row_loop =
      record {
        set = row_zero L;
        holds = marked_winds (planar L) (row_zero L) line_a row_closed row_crosses;
        count = count_front (edges (planar L)) L enough;
      }
