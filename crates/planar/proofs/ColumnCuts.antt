-- The planar board cut between columns c and c + 1: the edges with exactly one end in the columns 0 to c are those along rows that begin in
-- column c. A closed set has odd ends only in the columns 0 and L, so it crosses all L cuts an odd number of times, or all of them an even
-- number of times, and the first cut is line A: a winding set has an edge in every cut. Assumes nothing.
use Prim.Native.Nat.{ℕ, ◌+◌, ◌*◌, ◌-◌, ◌/◌, ◌%◌, ◌≤◌, ◌<◌}
use mathlib.Core.Path.{◌≡◌, refl, sym, ap, ap₂, ◌∙◌}
use mathlib.Core.Bool.{Bool, true, false, cond, ◌&&◌, ◌||◌, and-false, false≢true}
use native.Mathlib.Nat.{add-mul}
use native.Mathlib.Decide.{dec_lt, ℕ_discrete}
use native.Mathlib.Omega.{arith}
use borrow.Author.Tests.{lt-ltb, le-ltb, le-leb, lt-leb, eqb-true, eq-eqb, ne_eqb}
use lib.Arith.{digits_mod}
use lib.Dec.{eqb, leb}
use Rattle.std.proofs.lemmas.Bool.{true_from_ne_false}
use Rattle.model.specs.Sums.{Set, ◌⊕◌, odd_up_to}
use Rattle.model.specs.Board.{edges, first_end, second_end, is_open}
use Rattle.model.specs.Syndrome.{odd_end}
use Rattle.model.specs.Winding.{crosses_a, crosses_b, winds}
use Rattle.model.specs.Planar.{least_planar, planar_edges, planar_at, along_row, planar_from, planar_to, planar}
use Rattle.model.proofs.Xor.{xor_self}
use Rattle.model.proofs.SumLaws.{Some, odd_cong, odd_none}
use Rattle.theory.proofs.OddMembers.{odd_found}
use Rattle.theory.proofs.Syndromes.{cut, shut_syndrome}
use Rattle.theory.proofs.CrossedLines.{line_a, line_b, Closed, Unmarked, crosses_oddly, winds_closed, unmarked_unwound}
use Rattle.planar.proofs.Numbering.{column_less}
use Rattle.planar.proofs.Edges.{from_along, to_along, from_down, to_down}
use Rattle.planar.proofs.PlanarRows.{edge_count, first_is, second_is, crosses_A, crosses_B, open_column}
use Rattle.planar.proofs.PlanarValid.{planar_valid}

-- the column that an edge along a row begins in; L, in which none does, for the edges down columns
abbrev pub column_of : ℕ → ℕ → ℕ
column_of L e = cond (along_row L e) (e % L) L

-- the vertices in the columns 0 to c
abbrev up_to : ℕ → ℕ → Set
up_to L c v = leb (v % (L + 1)) c

-- the columns of both ends
column_is : (L r c : ℕ) {v : ℕ} → v ≡ planar_at L r c → c ≤ L → v % (L + 1) ≡ c
column_is L r c q h =
    let less : c < L + 1 = omega arith in rw q (digits_mod r less)

module _ (L e : ℕ) (some : 0 < L) (along : e < L * L) where
  along_from_column : planar_from L e % (L + 1) ≡ e % L
  along_from_column = column_is L (e / L) (e % L) (from_along L e along) (omega (arith, column_less L e some))

  along_to_column : planar_to L e % (L + 1) ≡ e % L + 1
  along_to_column =
      column_is L (e / L) (e % L + 1) (to_along L e along ∙ omega arith) (omega (arith, column_less L e some))

-- an edge down a column stays in it
down_column : (L e : ℕ) → least_planar ≤ L → L * L ≤ e → planar_from L e % (L + 1) ≡ planar_to L e % (L + 1)
down_column L e least down =
    let r = (e - L * L) / (L - 1) in
    let c = (e - L * L) % (L - 1) + 1 in
    let in_column : c ≤ L = omega (arith, column_less (L - 1) (e - L * L) (omega arith)) in
    column_is L r c (from_down L e down) in_column
    ∙ sym (column_is L (r + 1) c (to_down L e down ∙ omega (arith, add-mul r 1 (L + 1))) in_column)

-- an edge is cut exactly where it begins in column c
one_step : (x c : ℕ) → leb x c ⊕ leb (x + 1) c ≡ eqb x c
one_step x c =
    elim (ℕ_discrete x c) [
      | yes q ↦ rw (le-leb x c (omega arith), lt-leb (x + 1) c (omega arith), eq-eqb x c q)
      | no q ↦ rw (ne_eqb x c q)
          (elim (dec_lt x c) [
            | yes l ↦ rw (le-leb x c (omega arith), le-leb (x + 1) c (omega arith))
            | no l ↦ rw (lt-leb x c (omega arith), lt-leb (x + 1) c (omega arith))
          ])
    ]

cut_edge : (L c e : ℕ) → least_planar ≤ L → c < L → up_to L c (planar_from L e) ⊕ up_to L c (planar_to L e) ≡ eqb (column_of L e) c
cut_edge L c e least h =
    elim (dec_lt e (L * L)) [
      | yes a ↦
          rw (along_from_column L e (omega arith) a, along_to_column L e (omega arith) a, lt-ltb e (L * L) a)
          (one_step (e % L) c)
      | no n ↦
          let d : L * L ≤ e = omega arith in
          ap (λ x. leb x c ⊕ up_to L c (planar_to L e)) (down_column L e least d)
          ∙ xor_self (up_to L c (planar_to L e))
          ∙ rw (le-ltb e (L * L) d, ne_eqb L c (λ q. omega arith))
    ]

-- an odd number of the edges of D lie in the cut after column c
abbrev cut_odd : ℕ → Set → ℕ → Bool
cut_odd L D c = odd_up_to (edges (planar L)) (λ e. D e && eqb (column_of L e) c)

-- an odd number of the vertices in the columns 0 to c are odd ends of D
abbrev ends_odd : ℕ → Set → ℕ → Bool
ends_odd L D c = odd_up_to (planar L).vertices (λ v. up_to L c v && odd_end (planar L) D v)

module _ (L : ℕ) (least : 2 ≤ L) (most : L ≤ 31) where
  in_range : (e : ℕ) → e < edges (planar L) → e < planar_edges L
  in_range e h = omega (arith, edge_count L)

  -- these are the same, by the cut law
  cut_parity : (D : Set) (c : ℕ) → c < L → cut_odd L D c ≡ ends_odd L D c
  cut_parity D c h =
      odd_cong (edges (planar L)) (λ e. D e && eqb (column_of L e) c)
      (λ e. D e && (up_to L c (first_end (planar L) e) ⊕ up_to L c (second_end (planar L) e)))
      (λ e l. ap (λ x. D e && x) (sym (ends e l)))
      ∙ sym (cut (planar L) (planar_valid L least most).inside (up_to L c) D)
    where
      ends : (e : ℕ) → e < edges (planar L)
          → up_to L c (first_end (planar L) e) ⊕ up_to L c (second_end (planar L) e) ≡ eqb (column_of L e) c
      ends e l =
          ap₂ (λ u v. up_to L c u ⊕ up_to L c v) (first_is L e (in_range e l)) (second_is L e (in_range e l))
          ∙ cut_edge L c e least h

  -- a closed set has no odd ends in inner columns, so that all columns before a cut but the first may be left out
  same_ends : (D : Set) (c : ℕ) → Closed (planar L) D → c < L → ends_odd L D c ≡ ends_odd L D 0
  unfolding planar
  same_ends D c shut h =
      odd_cong (planar L).vertices (λ v. up_to L c v && odd_end (planar L) D v) (λ v. up_to L 0 v && odd_end (planar L) D v)
      (λ v l. each v l (is_open (planar L) v) refl)
    where
      outer : (v : ℕ) (a b : Bool) → eqb (v % (L + 1)) 0 ≡ a → eqb (v % (L + 1)) L ≡ b → (a || b) ≡ true → up_to L c v ≡ up_to L 0 v
      outer v true b p q r = rw (eqb-true (v % (L + 1)) 0 p) (le-leb 0 c (omega arith))
      outer v false true p q r =
          rw (eqb-true (v % (L + 1)) L q, lt-leb L c h, lt-leb L 0 (omega arith))
      outer v false false p q r = absurd (false≢true r)

      each : (v : ℕ) → v < (planar L).vertices → (t : Bool) → is_open (planar L) v ≡ t
          → (up_to L c v && odd_end (planar L) D v) ≡ (up_to L 0 v && odd_end (planar L) D v)
      each v l true p = ap (λ x. x && odd_end (planar L) D v) (outer v _ _ refl refl (sym (open_column L v l) ∙ p))
      each v l false p =
          let even = sym (shut_syndrome (planar L) D v p) ∙ shut.at v l in
          rw even (and-false (up_to L c v) ∙ sym (and-false (up_to L 0 v)))

  -- line A is the first cut
  first_cut : (e : ℕ) → e < edges (planar L) → crosses_a (planar L) e ≡ eqb (column_of L e) 0
  first_cut e h = crosses_A L e (in_range e h) ∙ go (along_row L e)
    where
      go : (b : Bool) → (b && eqb (e % L) 0) ≡ eqb (cond b (e % L) L) 0
      go true = refl
      go false = sym (ne_eqb L 0 (λ q. omega arith))

  -- a winding set has an odd number of edges in the first cut ..
  first_odd_lem : (D : Set) → winds (planar L) D ≡ true → cut_odd L D 0 ≡ true
  unfolding crosses_oddly
  first_odd_lem D w = true_from_ne_false _ (λ even. false≢true (sym (unmarked_unwound (planar L) D (unmarked even)) ∙ w))
    where
      unmarked : cut_odd L D 0 ≡ false → Unmarked (planar L) D
      unmarked even line_a =
          odd_cong (edges (planar L)) (λ e. D e && crosses_a (planar L) e) (λ e. D e && eqb (column_of L e) 0)
          (λ e h. ap (λ x. D e && x) (first_cut e h))
          ∙ even
      unmarked even line_b =
          odd_none (edges (planar L)) (λ e. D e && crosses_b (planar L) e) (λ e h. rw (crosses_B L e (in_range e h)) (and-false (D e)))

  -- .. and so in every cut
  every_odd : (D : Set) (c : ℕ) → winds (planar L) D ≡ true → c < L → cut_odd L D c ≡ true
  every_odd D c w h =
      cut_parity D c h ∙ same_ends D c (winds_closed (planar L) D w) h ∙ sym (cut_parity D 0 (omega arith)) ∙ first_odd_lem D w

  pub cut_edge_found : (D : Set) → winds (planar L) D ≡ true → (c : ℕ) → c < L → Some (edges (planar L)) (λ e. D e && eqb (column_of L e) c)
  cut_edge_found D w c h = odd_found (edges (planar L)) (λ e. D e && eqb (column_of L e) c) (every_odd D c w h)
