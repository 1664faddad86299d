-- The arithmetic of figures: what a figure says can be read off it, and the sum of two figures is the figure of both. Assumes nothing.
use Prim.Native.Nat.{ℕ, ◌+◌, ◌/◌, ◌%◌, ◌<◌}
use mathlib.Core.Path.{◌≡◌, refl, sym, ◌∙◌}
use mathlib.Core.Logic.{◌≢◌}
use mathlib.Core.List.{List}
use mathlib.Core.Bool.{Bool, true, false, cond, not, ◌&&◌, ◌||◌, false≢true}
use native.Mathlib.Omega.{arith}
use borrow.Author.Tests.{lt-ltb, le-ltb}
use lib.ListN.{length, set, length-set}
use lib.Seq.{get_or-set_same, get_or-set_other}
use lib.Dec.{eqb, ltb}
use Rattle.union_find.specs.Trees.{at}
use Rattle.model.specs.Sums.{◌⊕◌, bit}
use Rattle.decoder.specs.Figures.{even_mark, open_mark, figure_of, no_figure, plus_figure, carried}

module _ (x : ℕ) (small : x < even_mark) where
  -- the boundary size, and whether it is one of an even number, and of an open vertex
  pub figure_size : (lit holds : Bool) → figure_of x lit holds % even_mark ≡ x
  figure_size true true = omega arith
  figure_size true false = omega arith
  figure_size false true = omega arith
  figure_size false false = omega arith

  figure_even : (lit holds : Bool) → figure_of x lit holds / even_mark % 2 ≡ bit (not lit)
  figure_even true true = omega arith
  figure_even true false = omega arith
  figure_even false true = omega arith
  figure_even false false = omega arith

  figure_open : (lit holds : Bool) → figure_of x lit holds / open_mark ≡ bit holds
  figure_open true true = omega arith
  figure_open true false = omega arith
  figure_open false true = omega arith
  figure_open false false = omega arith

  -- the figures of odd clusters are those below 2,048
  pub figure_odd : (lit holds : Bool) → ltb (figure_of x lit holds) even_mark ≡ (lit && not holds)
  figure_odd true true = le-ltb (figure_of x true true) even_mark (omega arith)
  figure_odd true false = lt-ltb (figure_of x true false) even_mark (omega arith)
  figure_odd false true = le-ltb (figure_of x false true) even_mark (omega arith)
  figure_odd false false = le-ltb (figure_of x false false) even_mark (omega arith)

-- an odd cluster's figure is its boundary size
pub figure_is_size : (x : ℕ) (lit holds : Bool) → (lit && not holds) ≡ true → figure_of x lit holds ≡ x
figure_is_size x true true p = absurd (false≢true p)
figure_is_size x true false p = omega arith
figure_is_size x false holds p = absurd (false≢true p)

both_even : (a c : Bool) → cond (eqb (bit (not a)) (bit (not c))) even_mark 0 ≡ cond (a ⊕ c) 0 even_mark
both_even true true = refl
both_even true false = refl
both_even false true = refl
both_even false false = refl

either_open : (b d : Bool) → cond (not (eqb (bit b + bit d) 0)) open_mark 0 ≡ cond (b || d) open_mark 0
either_open true true = refl
either_open true false = refl
either_open false true = refl
either_open false false = refl

-- sizes and numbers of syndrome vertices add up, and an open vertex of either is one of both
pub plus_figures : (x y : ℕ) → x + y < even_mark → (a b c d : Bool) → plus_figure (figure_of x a b) (figure_of y c d) ≡ figure_of (x + y) (a ⊕ c) (b || d)
unfolding plus_figure
plus_figures x y few a b c d =
    let hx : x < even_mark = omega arith in
    let hy : y < even_mark = omega arith in
    rw (
      figure_size x hx a b,
      figure_size y hy c d,
      figure_even x hx a b,
      figure_even y hy c d,
      figure_open x hx a b,
      figure_open y hy c d,
      both_even a c,
      either_open b d,
    )

-- The carried figures

module _ (figure : List ℕ) (j k : ℕ) where
  pub carried_to : j ≢ k → k < length figure → at (carried figure j k) k ≡ plus_figure (at figure j) (at figure k)
  carried_to apart h = get_or-set_other (set figure k _) j k no_figure 0 (λ q. apart (sym q)) ∙ get_or-set_same figure k _ 0 h

  pub carried_from : j < length figure → at (carried figure j k) j ≡ no_figure
  carried_from h = get_or-set_same (set figure k _) j no_figure 0 (simp length-set h)

  pub carried_beside : (a : ℕ) → a ≢ j → a ≢ k → at (carried figure j k) a ≡ at figure a
  carried_beside a p q = get_or-set_other (set figure k _) j a no_figure 0 p ∙ get_or-set_other figure k a _ 0 q

  pub carried_long : length (carried figure j k) ≡ length figure
  carried_long = simp length-set refl
