-- The verdict's ground (model, Verdict): two sets with one syndrome are closed together, and they wind exactly where the exclusive or of
-- their marks isn't 0. So "same" and "wound" say what they should. Assumes nothing.
use Prim.Native.Nat.{ℕ}
use mathlib.Core.Path.{◌≡◌, refl, sym, ap, subst, ◌∙◌}
use mathlib.Core.Bool.{Bool, true, false, not, ◌&&◌, cond}
use mathlib.Core.Option.{Option, none, some}
use borrow.Author.Tests.{not-false}
use lib.Dec.{eqb}
use Rattle.model.specs.declared.numbers.Vertex.{Vertex}
use Rattle.model.specs.declared.refusal.Refusal.{Refusal}
use Rattle.model.specs.declared.answers.Verdict.{Verdict}
use Rattle.model.specs.declared.answers.Verdict.TheVariants.{Off, Same, Wound, Refused}
use Rattle.model.specs.Sums.{Set, ◌⊕◌}
use Rattle.model.specs.Board.{Board}
use Rattle.model.specs.Syndrome.{syndrome, HasSyndrome}
use Rattle.model.specs.Winding.{closed, crossings, winds, together}
use Rattle.model.specs.Verdict.{differs, judged_at, judged}
use Rattle.model.proofs.Xor.{xor_equal, equal_xor}
use Rattle.model.proofs.SumLaws.{none_first, first_none}
use Rattle.theory.proofs.Syndromes.{together_closed}
use Rattle.theory.proofs.CrossedLines.{closed_true}

-- Two sets with one syndrome are closed together.
pub closed_together : (B : Board) (D E S : Set) → HasSyndrome B D S → HasSyndrome B E S → closed B (together D E) ≡ true
closed_together B D E S has also = closed_true B (together D E) (together_closed B D E S has also)

-- They wind exactly where the exclusive or of their marks isn't 0.
pub winds_together : (B : Board) (D E S : Set) → HasSyndrome B D S → HasSyndrome B E S
    → winds B (together D E) ≡ not (eqb (crossings B (together D E)) 0)
unfolding winds
winds_together B D E S has also = ap (λ b. b && not (eqb (crossings B (together D E)) 0)) (closed_together B D E S has also)

-- nothing differs exactly where H has the syndrome
pub differs_none : (B : Board) (S H : Set) → differs B S H ≡ none → HasSyndrome B H S
unfolding differs
differs_none B S H p =
    record { at = λ v h. xor_equal (syndrome B H v) (S v) (none_first B.vertices (λ v. syndrome B H v ⊕ S v) p v h) }

pub has_differs : (B : Board) (S H : Set) → HasSyndrome B H S → differs B S H ≡ none
unfolding differs
has_differs B S H has =
    first_none B.vertices (λ v. syndrome B H v ⊕ S v) (λ v h. equal_xor (syndrome B H v) (S v) (has.at v h))

-- H has the syndrome, and whether H and C together wind is t
pub record Compared (B : Board) (S C H : Set) (t : Bool) : Type 0 where
  pub has : HasSyndrome B H S
  pub is_closed : closed B (together H C) ≡ true
  pub winding : winds B (together H C) ≡ t

compared_at : (B : Board) (S C H : Set) → HasSyndrome B C S → HasSyndrome B H S
    → Compared B S C H (not (eqb (crossings B (together H C)) 0))
compared_at B S C H corrects has =
    record { has = has; is_closed = closed_together B H C S has corrects; winding = winds_together B H C S has corrects }

-- the cases of a verdict: off, or not, with the marks 0 or not
data Judged (B : Board) (S C H : Set) : Verdict → Type 0 where
  off : (v : Vertex) → Judged B S C H (Off v)
  same : Compared B S C H false → Judged B S C H Same
  wound : (x : ℕ) → Compared B S C H true → Judged B S C H (Wound x)

judged_cases : (B : Board) (S C H : Set) → HasSyndrome B C S → Judged B S C H (judged B S C H)
unfolding judged
judged_cases B S C H corrects = go (differs B S H) refl
  where
    marks : ℕ
    marks = crossings B (together H C)

    at : (t : Bool) → Compared B S C H (not t) → Judged B S C H (cond t Same (Wound marks))
    at true c = same c
    at false c = wound marks c

    go : (o : Option ℕ) → differs B S H ≡ o → Judged B S C H (judged_at o marks)
    go (some v) p = off (record { 0 = v })
    go none p = at (eqb marks 0) (compared_at B S C H corrects (differs_none B S H p))

-- under "same" they do not wind, and under "wound" they do
pub judged_same : (B : Board) (S C H : Set) → HasSyndrome B C S → judged B S C H ≡ Same → Compared B S C H false
judged_same B S C H corrects p = go (subst (Judged B S C H) p (judged_cases B S C H corrects))
  where
    go : Judged B S C H Same → Compared B S C H false
    go (same c) = c

pub judged_wound : (B : Board) (S C H : Set) (x : ℕ) → HasSyndrome B C S → judged B S C H ≡ Wound x → Compared B S C H true
judged_wound B S C H x corrects p = go (subst (Judged B S C H) p (judged_cases B S C H corrects))
  where
    go : Judged B S C H (Wound x) → Compared B S C H true
    go (wound y c) = c

-- a comparison is no refusal
pub judged_answers : (B : Board) (S C H : Set) (n : Refusal) → HasSyndrome B C S → judged B S C H ≡ Refused n → ⊥
judged_answers B S C H n corrects p = go (subst (Judged B S C H) p (judged_cases B S C H corrects))
  where
    go : Judged B S C H (Refused n) → ⊥
    go = elim [ ]

-- and where H has the syndrome and they do not wind, the verdict is "same"
pub unwound_same : (B : Board) (S C H : Set) → HasSyndrome B C S → HasSyndrome B H S
    → winds B (together H C) ≡ false → judged B S C H ≡ Same
unfolding judged
unwound_same B S C H corrects has p =
    rw (has_differs B S H has, not-false (eqb (crossings B (together H C)) 0) (sym (winds_together B H C S has corrects) ∙ p))
