-- Reading a text: a malformed line's number is at most one more than the text has bytes. Assumes nothing.
use Prim.Native.Nat.{ℕ, suc, ◌+◌, ◌≤◌, ◌<◌}
use mathlib.Core.Bool.{Bool, true, false, cond}
use mathlib.Core.List.{List, [], ◌∷◌}
use mathlib.Core.Option.{Option, none, some}
use native.Mathlib.Omega.{arith}
use lib.ListN.{length}
use lib.Dec.{eqb}
use Rattle.model.specs.Board.{Sheet}
use Rattle.model.specs.Refusals.{place_of}
use Rattle.model.specs.Text.{newline, Line, V_line, in_front, parted_by, line_from, Read, complete, refused, or_malformed, first_line, begun, step, read_on, read_lines, read_text}

-- what is refused has a place below b
abbrev pub LineBelow : ℕ → Read → Type 0
LineBelow b (complete X) = Unit {0}
LineBelow b (refused n) = place_of n < b

or_below : {A : Type 0} (b k : ℕ) (o : Option A) (go : A → Read) → k < b → ((a : A) → LineBelow b (go a)) → LineBelow b (or_malformed k o go)
or_below b k none go h later = h
or_below b k (some a) go h later = later a

on_below : (b : ℕ) (X : Sheet) (last : Line) (k : ℕ) (pieces : List (List ℕ)) → k + length pieces ≤ b → LineBelow b (read_on X last k pieces)
unfolding read_on
on_below b X last k [] h = tt
on_below b X last k ([] ∷ []) h = tt
on_below b X last k ((c ∷ cs) ∷ []) h = omega arith
on_below b X last k (line ∷ next ∷ rest) h =
    or_below b k (line_from line) _ (omega arith) (λ l.
    or_below b k (step X last l) _ (omega arith) (λ Y. on_below b Y l (suc k) (next ∷ rest) (omega arith)))

lines_below : (b : ℕ) (pieces : List (List ℕ)) → 1 < b → 1 + length pieces ≤ b → LineBelow b (read_lines pieces)
unfolding read_lines
lines_below b [] one h = one
lines_below b (line ∷ []) one h = one
lines_below b (line ∷ next ∷ rest) one h =
    or_below b 1 (line_from line) _ one (λ l.
    or_below b 1 (first_line l) _ one (λ n. on_below b (begun n) (V_line n) 2 (next ∷ rest) (omega arith)))

-- there is at most one piece more than there are bytes
parted_few : (p : ℕ) (bs : List ℕ) → length (parted_by p bs) ≤ length bs + 1
unfolding parted_by
parted_few p [] = omega arith
parted_few p (c ∷ cs) = go (eqb c p) (parted_by p cs) (parted_few p cs)
  where
    go : (t : Bool) (pieces : List (List ℕ)) → length pieces ≤ length cs + 1 → length (cond t ([] ∷ pieces) (in_front c pieces)) ≤ suc (length cs) + 1
    go true pieces h = omega arith
    go false [] h = omega arith
    go false (piece ∷ pieces) h = omega arith

pub line_below : (text : List ℕ) → LineBelow (length text + 2) (read_text text)
unfolding read_text
line_below text = lines_below (length text + 2) (parted_by newline text) (omega arith) (omega (arith, parted_few newline text))
