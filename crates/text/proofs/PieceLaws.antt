-- Laws of the pieces between parting bytes, and of what stands before the first of those bytes. Assumes nothing.
use Prim.Native.Nat.{ℕ, suc, ◌+◌, ◌≤◌, ◌<◌}
use mathlib.Core.Path.{◌≡◌, refl, ap, ◌∙◌}
use mathlib.Core.Bool.{Bool, true, false, cond, not}
use mathlib.Core.List.{List, [], ◌∷◌}
use native.Mathlib.Nat.{not-suc-le-zero, le_of_suc-le-suc}
use native.Mathlib.Numerals.{add-one}
use native.Mathlib.Omega.{arith}
use lib.ListN.{length, get_or, take, drop, drop_of_length-le, length-drop}
use lib.Seq.{drop-cons, drop-drop}
use lib.Dec.{eqb}
use Rattle.std.specs.List.{take_while}
use Rattle.std.proofs.lemmas.List.Sums.{take_while-cons}
use Rattle.model.specs.Text.{parted_by}
use Rattle.text.specs.Pieces.{up_to}

-- one byte further on
pub up_to_at : (p : ℕ) (l : List ℕ) (i : ℕ) → i < length l
    → up_to p (drop i l) ≡ cond (eqb (get_or l i 0) p) [] (get_or l i 0 ∷ up_to p (drop (i + 1) l))
unfolding up_to
up_to_at p l i h = rw (drop-cons l i 0 h, add-one i)

pub up_to_end : (p : ℕ) (l : List ℕ) (i : ℕ) → length l ≤ i → up_to p (drop i l) ≡ []
unfolding up_to
up_to_end p l i h = rw (drop_of_length-le l h)

-- the same as a search of the list for the first p finds it
pub up_to_while : (p : ℕ) (l : List ℕ) → up_to p l ≡ take_while (λ b. not (eqb b p)) l
unfolding up_to
up_to_while p [] = refl
up_to_while p (b ∷ bs) = rw take_while-cons (go (up_to_while p bs) (eqb b p))
  where
    go : up_to p bs ≡ take_while (λ b. not (eqb b p)) bs → (t : Bool)
        → cond t [] (b ∷ up_to p bs) ≡ cond (not t) (b ∷ take_while (λ b. not (eqb b p)) bs) []
    go later true = refl
    go later false = ap (λ xs. b ∷ xs) later

pub take_up_to : (p : ℕ) (l : List ℕ) → take (length (up_to p l)) l ≡ up_to p l
unfolding up_to
take_up_to p [] = refl
take_up_to p (b ∷ bs) = go (take_up_to p bs) (eqb b p)
  where
    go : take (length (up_to p bs)) bs ≡ up_to p bs → (t : Bool)
        → take (length (cond t [] (b ∷ up_to p bs))) (b ∷ bs) ≡ cond t [] (b ∷ up_to p bs)
    go later true = refl
    go later false = ap (λ xs. b ∷ xs) later

-- the first piece is what stands before the first parting byte
pub record Parted (p : ℕ) (l : List ℕ) : Type 0 where
  pub others : List (List ℕ)
  pub are : parted_by p l ≡ up_to p l ∷ others

pub parted : (p : ℕ) (l : List ℕ) → Parted p l
unfolding parted_by up_to
parted p [] = record { others = []; are = refl }
parted p (b ∷ bs) = go (parted p bs) (eqb b p) refl
  where
    go : Parted p bs → (t : Bool) → eqb b p ≡ t → Parted p (b ∷ bs)
    go later true q = record { others = parted_by p bs; are = rw q }
    go later false q = record { others = later.others; are = rw (q, later.are) }

-- the first piece ends at a parting byte, and the others follow it
pub pieces : (p : ℕ) (l : List ℕ) → length (up_to p l) < length l → parted_by p l ≡ up_to p l ∷ parted_by p (drop (suc (length (up_to p l))) l)
unfolding parted_by up_to
pieces p [] h = absurd (not-suc-le-zero h)
pieces p (b ∷ bs) h = go (pieces p bs) (eqb b p) refl h
  where
    go : (length (up_to p bs) < length bs → parted_by p bs ≡ up_to p bs ∷ parted_by p (drop (suc (length (up_to p bs))) bs)) → (t : Bool)
        → eqb b p ≡ t → length (cond t [] (b ∷ up_to p bs)) < suc (length bs)
        → parted_by p (b ∷ bs) ≡ cond t [] (b ∷ up_to p bs) ∷ parted_by p (drop (length (cond t [] (b ∷ up_to p bs))) bs)
    go later true q h = rw q
    go later false q h = rw (q, later (le_of_suc-le-suc h))

-- no parting byte: one piece
pub one_piece : (p : ℕ) (l : List ℕ) → length l ≤ length (up_to p l) → parted_by p l ≡ up_to p l ∷ []
unfolding parted_by up_to
one_piece p [] h = refl
one_piece p (b ∷ bs) h = go (one_piece p bs) (eqb b p) refl h
  where
    go : (length bs ≤ length (up_to p bs) → parted_by p bs ≡ up_to p bs ∷ []) → (t : Bool) → eqb b p ≡ t
        → suc (length bs) ≤ length (cond t [] (b ∷ up_to p bs)) → parted_by p (b ∷ bs) ≡ cond t [] (b ∷ up_to p bs) ∷ []
    go later true q h = absurd (not-suc-le-zero h)
    go later false q h = rw (q, later (le_of_suc-le-suc h))

-- the same from a position on, where the first piece ends at j
module _ (p : ℕ) (l : List ℕ) (i j : ℕ) (end : i + length (up_to p (drop i l)) ≡ j) where
  pub pieces_at : j < length l → parted_by p (drop i l) ≡ up_to p (drop i l) ∷ parted_by p (drop (j + 1) l)
  pieces_at h =
      pieces p (drop i l) (rw length-drop (omega arith))
      ∙ ap (λ x. up_to p (drop i l) ∷ parted_by p x)
      (drop-drop (suc (length (up_to p (drop i l)))) i l
      ∙ ap (λ k. drop k l) {x = i + suc (length (up_to p (drop i l)))} {y = j + 1} (omega arith))

  pub one_piece_at : length l ≤ j → parted_by p (drop i l) ≡ up_to p (drop i l) ∷ []
  one_piece_at h = one_piece p (drop i l) (rw length-drop (omega arith))
