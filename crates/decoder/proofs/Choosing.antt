-- The choice in blocks: the smallest figure of each block, the first block with the smallest of these, and the first number in it by which
-- that figure stands. Assumes nothing.
use Prim.Native.Nat.{ℕ, ◌+◌, ◌%◌, ◌≤◌, ◌<◌}
use mathlib.Core.Path.{◌≡◌}
use mathlib.Core.List.{List}
use mathlib.Core.Option.{none, some}
use native.Mathlib.Decide.{dec_lt}
use native.Mathlib.Nat.{le_refl}
use native.Mathlib.Omega.{arith}
use borrow.Author.Tests.{lt-ltb, le-ltb}
use Rattle.model.specs.Board.{vertex_limit}
use Rattle.union_find.specs.Trees.{at}
use Rattle.decoder.specs.Figures.{even_mark, odd_figure}
use Rattle.decoder.specs.Choices.{least_up_to, Choosable, block_length, Block, Stands, Smallest, FirstEqual}
use Rattle.decoder.proofs.ChoiceLaws.{least_none, least_first}

stands_wider : (figure : List ℕ) (from to x limit : ℕ) → to ≤ limit → Stands figure from to x → Stands figure from limit x
stands_wider figure from to x limit h s =
    record { place = s.place; not_before = s.not_before; below = omega (arith, h, s.below); there = s.there }

-- The smallest figure of a block

-- the least is one of the block, and none of its first i figures is smaller
pub record SmallestYet (figure : List ℕ) (from i least : ℕ) : Type 0 where
  pub inside : i ≤ block_length
  pub lower : (a : ℕ) → from ≤ a → a < from + i → least ≤ at figure a
  pub stands : Stands figure from (from + block_length) least

-- The first number with a figure

-- the figure x stands by a number from a on, and by none between `from` and a
pub record Searched (figure : List ℕ) (from x a : ℕ) : Type 0 where
  pub not_before : from ≤ a
  pub stands : Stands figure a vertex_limit x
  pub none_yet : (b : ℕ) → from ≤ b → b < a → at figure b ≡ x → ⊥

-- The first block with the smallest figure

-- All blocks before `from` are looked at. No figure before `from` is below the least, and before `block` all are above it; it is that of an
-- odd cluster and stands from `block` on, or it is the mark of the even ones.
pub record BestYet (figure : List ℕ) (from least block : ℕ) : Type 0 where
  pub whole : from % block_length ≡ 0
  pub inside : from ≤ vertex_limit
  pub small : least ≤ even_mark
  pub lower : (a : ℕ) → a < from → least ≤ at figure a
  pub earlier : (a : ℕ) → a < block → least < at figure a
  pub stands : least < even_mark → Stands figure block from least

-- no block is left
pub record Looked (n : ℕ) (figure : List ℕ) (least block : ℕ) : Type 0 where
  pub from : ℕ
  pub all : n ≤ from
  pub best : BestYet figure from least block

module _ (n : ℕ) (figure : List ℕ) (c : Choosable n figure) (from least block : ℕ) (w : BestYet figure from least block) where
  module _ (h : from < n) where
    pub block_here : Block figure from
    block_here = record { long = c.long; whole = omega (arith, h, c.few, w.whole) }

    module _ (x : ℕ) (s : Smallest figure from (from + block_length) x) where
      lower_than_both : (y : ℕ) → y ≤ least → y ≤ x → (a : ℕ) → a < from + block_length → y ≤ at figure a
      lower_than_both y l m a p = elim (dec_lt a from) [
        | yes q ↦ omega (arith, w.lower a q)
        | no q ↦ omega (arith, s.least a (omega (arith, q)) p)
      ]

      -- the smallest figure of this block is smaller than those before
      pub best_taken : x < least → BestYet figure (from + block_length) x from
      best_taken l =
          record {
            whole = omega (arith, w.whole);
            inside = block_here.whole;
            small = omega (arith, w.small);
            lower = lower_than_both _ (omega arith) (le_refl _);
            earlier = λ a p. omega (arith, l, w.lower a p);
            stands = λ p. s.stands;
          }

      -- it is not
      pub best_kept : least ≤ x → BestYet figure (from + block_length) least block
      best_kept l =
          record {
            whole = omega (arith, w.whole);
            inside = block_here.whole;
            small = w.small;
            lower = lower_than_both _ (le_refl _) l;
            earlier = w.earlier;
            stands = λ p. stands_wider figure block from least (from + block_length) (omega arith) (w.stands p);
          }

  -- All figures are looked at

  module _ (h : n ≤ from) where
    -- none is that of an odd cluster
    pub best_none : least ≡ even_mark → least_up_to n (odd_figure figure) (at figure) ≡ none
    best_none p = least_none n (odd_figure figure) (at figure) (λ a l. le-ltb (at figure a) even_mark (omega (arith, w.lower a (omega arith))))

    module _ (odd : least ≡ even_mark → ⊥) where
      below_even : least < even_mark
      below_even = omega (arith, odd, w.small)

      -- the first number in the block with the least figure
      module _ (r : ℕ) (f : FirstEqual figure block least r) where
        -- it is one of the n: by the others stands no figure of an odd cluster
        first_inside : r < n
        first_inside = elim (dec_lt r n) [
          | yes q ↦ q
          | no q ↦ absurd (omega (arith, below_even, f.there, c.past r (omega (arith, q)) f.below))
        ]

        first_of_all : (a : ℕ) → a < r → at figure r < at figure a
        first_of_all a l = elim (dec_lt a block) [
          | yes q ↦ omega (arith, f.there, w.earlier a q)
          | no q ↦ omega (arith, f.there, f.first a (omega (arith, q)) l, w.lower a (omega (arith, first_inside)))
        ]

        pub best_chosen : least_up_to n (odd_figure figure) (at figure) ≡ some r
        best_chosen =
            least_first n (odd_figure figure) (at figure) r first_inside (lt-ltb (at figure r) even_mark (omega (arith, f.there, below_even))) first_of_all
            (λ a l. omega (arith, f.there, w.lower a (omega arith)))
