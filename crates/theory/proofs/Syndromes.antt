-- Laws of odd ends and of syndromes: of two sets together, and across a cut of the vertices. An edge may have equal ends. The syndrome is
-- asked at vertices that are not open, so a cut tells it only where no open vertex lies within.
-- Assumes nothing.
use Prim.Native.Nat.{ℕ, ◌<◌}
use mathlib.Core.Path.{◌≡◌, refl, sym, ap, ap₂, ◌∙◌}
use mathlib.Core.Bool.{Bool, true, false, not, ◌&&◌, and_comm, and-false}
use mathlib.Core.List.{List}
use lib.Dec.{eqb}
use Rattle.model.specs.Sums.{Set, ◌⊕◌, odd_up_to}
use Rattle.model.specs.Board.{Board, without_open, Inside, edges, first_end, second_end, is_open}
use Rattle.model.specs.Syndrome.{meets, odd_end, HasOddEnds, syndrome, HasSyndrome}
use Rattle.model.specs.Winding.{together}
use Rattle.model.proofs.OpenBytes.{none_open}
use Rattle.model.proofs.Xor.{and_xor, xor_and, xor_self}
use Rattle.model.proofs.SumLaws.{odd_cong, odd_xor, odd_and, odd_exchange, odd_at, odd_false}

-- Odd ends

-- only the edges below the edge count matter
pub odd_end_cong : (B : Board) (D E : Set) → ((e : ℕ) → e < edges B → D e ≡ E e) → (v : ℕ) → odd_end B D v ≡ odd_end B E v
unfolding odd_end
odd_end_cong B D E same v =
    odd_cong (edges B) (λ e. D e && meets B e v) (λ e. E e && meets B e v) (λ e h. ap (λ x. x && meets B e v) (same e h))

pub has_ends_cong : (B : Board) (D E R : Set) → ((e : ℕ) → e < edges B → D e ≡ E e) → HasOddEnds B E R → HasOddEnds B D R
has_ends_cong B D E R same has = record { at = λ v h. odd_end_cong B D E same v ∙ has.at v h }

-- the odd ends of two sets together are the exclusive or of theirs
pub odd_end_together : (B : Board) (D E : Set) (v : ℕ) → odd_end B (together D E) v ≡ odd_end B D v ⊕ odd_end B E v
unfolding odd_end
odd_end_together B D E v =
    odd_cong (edges B) (λ e. (D e ⊕ E e) && meets B e v) (λ e. (D e && meets B e v) ⊕ (E e && meets B e v))
    (λ e h. xor_and (D e) (E e) (meets B e v))
    ∙ odd_xor (edges B) (λ e. D e && meets B e v) (λ e. E e && meets B e v)

pub odd_end_empty : (B : Board) (v : ℕ) → odd_end B (λ e. false) v ≡ false
unfolding odd_end
odd_end_empty B v = odd_false (edges B)

-- edge e alone, where p holds, has its two ends for its odd ends
pub odd_end_edge : (B : Board) (p : Bool) (e : ℕ) → e < edges B → (v : ℕ) → odd_end B (λ i. p && eqb e i) v ≡ (p && meets B e v)
unfolding odd_end
odd_end_edge B false e h v = odd_end_empty B v
odd_end_edge B true e h v =
    odd_cong (edges B) (λ i. eqb e i && meets B i v) (λ i. meets B i v && eqb e i) (λ i l. and_comm (eqb e i) (meets B i v))
    ∙ odd_at (edges B) e (λ i. meets B i v) h

-- the parity over A of how often edge e meets a vertex
pub ends_parity : (B : Board) → Inside B → (A : Set) (e : ℕ) → e < edges B
    → odd_up_to B.vertices (λ v. A v && meets B e v) ≡ A (first_end B e) ⊕ A (second_end B e)
ends_parity B r A e h =
    odd_cong B.vertices (λ v. A v && meets B e v) (λ v. (A v && eqb (first_end B e) v) ⊕ (A v && eqb (second_end B e) v))
    (λ v l. and_xor (A v) (eqb (first_end B e) v) (eqb (second_end B e) v))
    ∙ odd_xor B.vertices (λ v. A v && eqb (first_end B e) v) (λ v. A v && eqb (second_end B e) v)
    ∙ ap₂ ◌⊕◌ (odd_at B.vertices (first_end B e) A (r.first_in_range e h)) (odd_at B.vertices (second_end B e) A (r.second_in_range e h))

-- Cut: the parity over A of the odd ends of E is that of the edges of E with exactly one end in A.
pub cut : (B : Board) → Inside B → (A E : Set)
    → odd_up_to B.vertices (λ v. A v && odd_end B E v) ≡ odd_up_to (edges B) (λ e. E e && (A (first_end B e) ⊕ A (second_end B e)))
unfolding odd_end
cut B r A E =
    odd_cong B.vertices (λ v. A v && odd_end B E v) (λ v. odd_up_to (edges B) (λ e. A v && (E e && meets B e v)))
    (λ v h. sym (odd_and (edges B) (A v) (λ e. E e && meets B e v)))
    ∙ odd_exchange B.vertices (edges B) (λ v e. A v && (E e && meets B e v))
    ∙ odd_cong (edges B) (λ e. odd_up_to B.vertices (λ v. A v && (E e && meets B e v)))
    (λ e. E e && (A (first_end B e) ⊕ A (second_end B e))) each
  where
    front : (a b c : Bool) → (a && (b && c)) ≡ (b && (a && c))
    front true b c = refl
    front false true c = refl
    front false false c = refl

    each : (e : ℕ) → e < edges B
        → odd_up_to B.vertices (λ v. A v && (E e && meets B e v)) ≡ (E e && (A (first_end B e) ⊕ A (second_end B e)))
    each e h =
        odd_cong B.vertices (λ v. A v && (E e && meets B e v)) (λ v. E e && (A v && meets B e v))
        (λ v l. front (A v) (E e) (meets B e v))
        ∙ odd_and B.vertices (E e) (λ v. A v && meets B e v)
        ∙ ap (λ x. E e && x) (ends_parity B r A e h)

-- the same over odd ends that are given
pub cut_ends : (B : Board) → Inside B → (A E R : Set) → HasOddEnds B E R
    → odd_up_to B.vertices (λ v. R v && A v) ≡ odd_up_to (edges B) (λ e. E e && (A (first_end B e) ⊕ A (second_end B e)))
cut_ends B r A E R has =
    odd_cong B.vertices (λ v. R v && A v) (λ v. A v && odd_end B E v) (λ v h. rw (sym (has.at v h)) (and_comm (odd_end B E v) (A v)))
    ∙ cut B r A E

-- Syndromes

pub syndrome_cong : (B : Board) (D E : Set) → ((e : ℕ) → e < edges B → D e ≡ E e) → (v : ℕ) → syndrome B D v ≡ syndrome B E v
unfolding syndrome
syndrome_cong B D E same v = ap (λ x. not (is_open B v) && x) (odd_end_cong B D E same v)

pub has_syndrome_cong : (B : Board) (D E S : Set) → ((e : ℕ) → e < edges B → D e ≡ E e) → HasSyndrome B E S → HasSyndrome B D S
has_syndrome_cong B D E S same has = record { at = λ v h. syndrome_cong B D E same v ∙ has.at v h }

-- the empty set has no syndrome
pub syndrome_empty : (B : Board) (v : ℕ) → syndrome B (λ e. false) v ≡ false
unfolding syndrome
syndrome_empty B v = ap (λ x. not (is_open B v) && x) (odd_end_empty B v) ∙ and-false (not (is_open B v))

-- the syndrome of two sets together is the exclusive or of their syndromes
pub syndrome_together : (B : Board) (D E : Set) (v : ℕ) → syndrome B (together D E) v ≡ syndrome B D v ⊕ syndrome B E v
unfolding syndrome
syndrome_together B D E v =
    ap (λ x. not (is_open B v) && x) (odd_end_together B D E v) ∙ and_xor (not (is_open B v)) (odd_end B D v) (odd_end B E v)

-- two sets with one syndrome are closed together
pub together_closed : (B : Board) (D E S : Set) → HasSyndrome B D S → HasSyndrome B E S → HasSyndrome B (together D E) (λ v. false)
together_closed B D E S has also =
    record { at = λ v h. syndrome_together B D E v ∙ ap₂ ◌⊕◌ (has.at v h) (also.at v h) ∙ xor_self (S v) }

-- a vertex that is not open is in the syndrome where it is an odd end, and an open one never is
pub shut_syndrome : (B : Board) (D : Set) (v : ℕ) → is_open B v ≡ false → syndrome B D v ≡ odd_end B D v
unfolding syndrome
shut_syndrome B D v p = rw p

pub open_syndrome : (B : Board) (D : Set) (v : ℕ) → is_open B v ≡ true → syndrome B D v ≡ false
unfolding syndrome
open_syndrome B D v p = rw p

-- a set without odd ends is closed
pub even_closed : (B : Board) (D : Set) → HasOddEnds B D (λ v. false) → HasSyndrome B D (λ v. false)
unfolding syndrome
even_closed B D even = record { at = λ v h. ap (λ x. not (is_open B v) && x) (even.at v h) ∙ and-false (not (is_open B v)) }

-- no vertex of A is open
pub record Avoids (B : Board) (A : Set) : Type 0 where
  pub shut : (v : ℕ) → v < B.vertices → A v ≡ true → is_open B v ≡ false

-- no vertex is open at all; then syndrome and odd ends are one
pub record Sealed (B : Board) : Type 0 where
  pub shut : (v : ℕ) → v < B.vertices → is_open B v ≡ false

-- so it is where every open byte is 0
pub without_open_sealed : (n : ℕ) (ends marks : List ℕ) → Sealed (without_open n ends marks)
without_open_sealed n ends marks = record { shut = λ v h. none_open n ends marks v }

pub sealed_ends : (B : Board) → Sealed B → (D S : Set) → HasSyndrome B D S → HasOddEnds B D S
sealed_ends B w D S has = record { at = λ v h. sym (shut_syndrome B D v (w.shut v h)) ∙ has.at v h }

-- the cut over a syndrome that is given, where A avoids the open vertices
pub cut_syndrome : (B : Board) → Inside B → (A E S : Set) → Avoids B A → HasSyndrome B E S
    → odd_up_to B.vertices (λ v. S v && A v) ≡ odd_up_to (edges B) (λ e. E e && (A (first_end B e) ⊕ A (second_end B e)))
cut_syndrome B r A E S avoids has =
    odd_cong B.vertices (λ v. S v && A v) (λ v. A v && odd_end B E v) (λ v h. each v h (A v) refl) ∙ cut B r A E
  where
    each : (v : ℕ) → v < B.vertices → (t : Bool) → A v ≡ t → (S v && A v) ≡ (A v && odd_end B E v)
    each v h true p = and_comm (S v) (A v) ∙ ap (λ x. A v && x) (sym (has.at v h) ∙ shut_syndrome B E v (avoids.shut v h p))
    each v h false p = rw p (and-false (S v))
