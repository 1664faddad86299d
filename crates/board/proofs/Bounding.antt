-- Upper bounds, found by a pass: each step takes the larger of the bound so far and the next value. What is bounded breaks no rule that
-- asks for at most the bound. Assumes nothing.
use Prim.Native.Nat.{ℕ, ◌+◌, ◌*◌, ◌≤◌, ◌<◌, min}
use mathlib.Core.Path.{◌≡◌, refl, sym}
use mathlib.Core.Bool.{Bool, true, false, ◌&&◌}
use mathlib.Core.List.{List}
use mathlib.Core.Option.{none}
use native.Mathlib.Omega.{arith}
use borrow.Author.Tests.{le-ltb, lt-leb, eqb-true, ne_eqb}
use lib.ListN.{length}
use lib.Dec.{eqb, leb}
use Rattle.model.specs.Board.{plain}
use Rattle.model.specs.Refusals.{above, outside, lit_open, edges_of}
use Rattle.model.specs.Sums.{first_up_to, ones}
use Rattle.model.proofs.SumLaws.{first_none}
use Rattle.board.specs.Bounds.{Bounded, entry, lesser}

-- no byte is above the limit
pub none_above : (l : List ℕ) {limit top : ℕ} → Bounded (length l) (entry l) top → top ≤ limit → none ≡ first_up_to (length l) (above limit l)
none_above l {limit} b p =
    sym (first_none (length l) (above limit l) (λ i h. le-ltb limit (entry l i) (omega (arith, b.within i h))))

-- no entry is a 1
pub none_one : (l : List ℕ) {top : ℕ} → Bounded (length l) (entry l) top → top ≡ 0 → (i : ℕ) → i < length l → ones l i ≡ false
none_one l b p i h = ne_eqb (entry l i) 1 (λ q. omega (arith, b.within i h))

-- no edge has an end at or above the vertex count
pub none_outside :
    (n : ℕ) (ends : List ℕ) {top : ℕ} → Bounded (length ends) (entry ends) top → top < n →
    none ≡ first_up_to (edges_of ends) (outside (plain n 0 ends))
none_outside n ends {top} b p =
    sym (first_none (edges_of ends) (outside (plain n 0 ends)) (λ e h. rw (inside (2 * e) (omega arith)) (inside (2 * e + 1) (omega arith))))
  where
    inside : (i : ℕ) → i < length ends → leb n (entry ends i) ≡ false
    inside i h = lt-leb n (entry ends i) (omega (arith, b.within i h))

-- no vertex has both bytes
pub none_lit_open :
    (opened syndrome : List ℕ) {top : ℕ} → Bounded (length opened) (lesser opened syndrome) top → top ≡ 0 →
    none ≡ first_up_to (length opened) (lit_open opened syndrome)
none_lit_open opened syndrome b p =
    sym (first_none (length opened) (lit_open opened syndrome)
    (λ v h. not_both (entry opened v) (entry syndrome v) (omega (arith, b.within v h))))
  where
    not_both : (x y : ℕ) → min x y ≤ 0 → (eqb x 1 && eqb y 1) ≡ false
    not_both x y h = go (eqb x 1) refl
      where
        go : (t : Bool) → eqb x 1 ≡ t → (t && eqb y 1) ≡ false
        go false e = refl
        go true e = ne_eqb y 1 (λ q. omega (arith, eqb-true x 1 e))
