-- Potentials: numbers 0 and 1 at the vertices whose differences along the edges of a set are the edges' crossings of a line. On a board
-- without open vertices, a closed set of such edges crosses that line an even number of times, so it does not wind. Assumes nothing.
use Prim.Native.Nat.{ℕ, ◌<◌}
use mathlib.Core.Path.{◌≡◌, refl, sym, ap, ◌∙◌}
use mathlib.Core.Bool.{Bool, true, false, ◌&&◌, and-false}
use Rattle.model.specs.Sums.{Set, ◌⊕◌}
use Rattle.model.specs.Board.{Board, Inside, edges, first_end, second_end}
use Rattle.model.specs.Syndrome.{odd_end}
use Rattle.model.specs.Winding.{winds}
use Rattle.model.proofs.SumLaws.{odd_cong, odd_none}
use Rattle.theory.proofs.Syndromes.{cut, Sealed, sealed_ends}
use Rattle.theory.proofs.CrossedLines.{Line, crosses, crosses_oddly, Closed, unmarked_unwound}

-- the difference of f along edge e
abbrev pub difference : Board → Set → ℕ → Bool
difference B f e = f (first_end B e) ⊕ f (second_end B e)

-- f, at each line, is a potential on D
pub record Potential (B : Board) (f : Line → Set) (D : Set) : Type 0 where
  pub fits : (x : Line) (e : ℕ) → e < edges B → D e ≡ true → crosses B x e ≡ difference B (f x) e

pub potential_even : (B : Board) → Inside B → Sealed B → (f : Line → Set) (D : Set) → Potential B f D → Closed B D
    → (x : Line) → crosses_oddly B x D ≡ false
unfolding crosses_oddly
potential_even B r w f D p c x =
    odd_cong (edges B) (λ e. D e && crosses B x e) (λ e. D e && difference B (f x) e) (λ e h. same (D e) (p.fits x e h))
    ∙ sym (cut B r (f x) D)
    ∙ odd_none B.vertices (λ v. f x v && odd_end B D v) (λ v h. ap (λ b. f x v && b) ((sealed_ends B w D (λ v. false) c).at v h) ∙ and-false (f x v))
  where
    same : {a b : Bool} (d : Bool) → (d ≡ true → a ≡ b) → (d && a) ≡ (d && b)
    same true q = q refl
    same false q = refl

-- A closed set on which there is a potential for each line does not wind.
pub potential_unwound : (B : Board) → Inside B → Sealed B → (f : Line → Set) (D : Set) → Potential B f D → Closed B D → winds B D ≡ false
potential_unwound B r w f D p c = unmarked_unwound B D (potential_even B r w f D p c)
