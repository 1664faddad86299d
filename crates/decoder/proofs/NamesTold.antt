-- The names that are told beside the figures: what is told by a number, what a change of the figures leaves of it, and the names of lone
-- vertices.
-- Assumes nothing.
use Prim.Native.Nat.{ℕ, ◌+◌, ◌/◌, ◌%◌, ◌≤◌, ◌<◌}
use mathlib.Core.Path.{◌≡◌, sym, ap, ◌∙◌}
use mathlib.Core.Bool.{Bool, true, false, cond, not}
use mathlib.Core.List.{List}
use native.Mathlib.Decide.{ℕ_discrete}
use native.Mathlib.Omega.{arith}
use borrow.Author.Tests.{lt-ltb, le-ltb}
use lib.ListN.{length, set}
use lib.Seq.{get_or-set_same, get_or-set_other}
use lib.Dec.{eqb}
use Rattle.model.specs.Sums.{bit, ones}
use Rattle.model.specs.Board.{vertex_limit}
use Rattle.model.proofs.Bits.{bit_bound}
use Rattle.model.proofs.ListLaws.{length_values, get_d_values, values_cong}
use Rattle.union_find.specs.Trees.{at, Alone}
use Rattle.union_find.proofs.Fresh.{alone_root}
use Rattle.decoder.specs.Figures.{even_mark, open_mark, figure_of, name_mark, name_at, names_by, plus_figure, Lows, name_of, names}
use Rattle.decoder.specs.Exposures.{counted}
use Rattle.decoder.specs.LoneFigures.{LoneFigures}

pub told_long : (figure : List ℕ) → length (names_by figure) ≡ vertex_limit
unfolding names_by
told_long figure = length_values vertex_limit (name_at figure)

pub told_at : (figure : List ℕ) (r : ℕ) → r < vertex_limit → at (names_by figure) r ≡ name_at figure r
unfolding names_by
told_at figure r h = get_d_values vertex_limit (name_at figure) r 0 h

-- a number with a figure tells itself
pub tells_itself : (figure : List ℕ) (r : ℕ) → at figure r < name_mark → name_at figure r ≡ r
tells_itself figure r h = rw (lt-ltb (at figure r) name_mark h)

-- another tells what is told there
pub tells_name : (figure : List ℕ) (r p : ℕ) → at figure r ≡ name_mark + p → name_at figure r ≡ p
tells_name figure r p q = rw (le-ltb (at figure r) name_mark (omega (arith, q))) (omega (arith, q))

-- what stands there is the same, and so is what is told
pub tells_same : (figure figure' : List ℕ) (r : ℕ) → at figure' r ≡ at figure r → name_at figure' r ≡ name_at figure r
tells_same figure figure' r q = rw q

-- Figures are small

amount_bound : (b : Bool) (k : ℕ) → cond b k 0 ≤ k
amount_bound true k = omega arith
amount_bound false k = omega arith

other_bound : (b : Bool) (k : ℕ) → cond b 0 k ≤ k
other_bound true k = omega arith
other_bound false k = omega arith

pub marks_small : (lit holds : Bool) → cond lit 0 even_mark + cond holds open_mark 0 + vertex_limit < name_mark
marks_small lit holds = omega (arith, other_bound lit even_mark, amount_bound holds open_mark)

lone_small : (b lit holds : Bool) → figure_of (bit b) lit holds < name_mark
lone_small b lit holds = omega (arith, bit_bound b, other_bound lit even_mark, amount_bound holds open_mark)

pub sum_small : (f g : ℕ) → plus_figure f g < name_mark
unfolding plus_figure
sum_small f g =
    omega (
      arith,
      amount_bound (eqb (f / even_mark % 2) (g / even_mark % 2)) even_mark,
      amount_bound (not (eqb (f / open_mark + g / open_mark) 0)) open_mark,
    )

-- a figure that becomes another one
pub told_still : (figure : List ℕ) (a y : ℕ) → at figure a < name_mark → y < name_mark → a < length figure → names_by (set figure a y) ≡ names_by figure
unfolding names_by
told_still figure a y small small' h = values_cong vertex_limit (name_at (set figure a y)) (name_at figure) each
  where
    each : (r : ℕ) → r < vertex_limit → name_at (set figure a y) r ≡ name_at figure r
    each r k = elim (ℕ_discrete r a) [
      | yes q ↦ rw q (tells_itself (set figure a y) a (rw (get_or-set_same figure a y 0 h) small') ∙ sym (tells_itself figure a small))
      | no q ↦ tells_same figure (set figure a y) r (get_or-set_other figure a r y 0 q)
    ]

-- the same names are told of all vertices
module _ (n : ℕ) (p low low' : List ℕ) (agree : (v : ℕ) → v < n → name_of p low' v ≡ name_of p low v) where
  pub names_agree : names n p low' ≡ names n p low
  unfolding names
  names_agree = values_cong n (name_of p low') (name_of p low) agree

  pub lows_agree : n ≤ length low' → Lows n p low → Lows n p low'
  lows_agree long w =
      record { long = long; below = λ v h. rw (agree v h) (w.below v h); same = λ v h. rw (agree v h) (w.same v h) }

-- vertices alone name themselves
pub lone_told : {n : ℕ} {p s opened syndrome x figure : List ℕ} → n ≤ vertex_limit → Alone n p s → LoneFigures n opened syndrome x figure
    → (v : ℕ) → v < n → name_of p (names_by figure) v ≡ v
lone_told {n} {p} {s} {opened} {syndrome} {x} {figure} few alone w v h =
    ap (at (names_by figure)) (alone_root alone v h) ∙ told_at figure v (omega (arith, few))
    ∙ tells_itself figure v (rw (w.each v h) (lone_small (counted x v) (ones syndrome v) (ones opened v)))
